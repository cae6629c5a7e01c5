-- What is read of blocks that were laid out is what was laid.
use Rattle.std.proofs.Common.{◌≡◌, ◌<◌, ◌+◌, ◌-◌, ◌*◌, ◌^◌, ◌==◌, ℕ, Bool, true, false, List, [], ◌∷◌, map, length, get_or, drop, Some, arith, refl, ap, ◌∙◌}
use Rattle.std.specs.Prelude.{replicate}
use Rattle.std.specs.List.{All}
use Rattle.std.proofs.Math.Seq.{take-append_seam}
use Rattle.std.proofs.lemmas.List.Elements.{All-head, All-tail}
use Rattle.sdr_base.specs.Blocks.{Block}
use Rattle.sdr_base.specs.Catalogue.{name_block, name_bytes}
use Rattle.sdr_base.specs.Hashes.{item_block}
use Rattle.sdr_base.specs.Linked.{first_of, linked}
use Rattle.sdr_base.specs.Lists.{element_block}
use Rattle.sdr_base.specs.Sources.{flag_word}
use Rattle.sdr_base.specs.Tickets.{ticket_block, ticket_words}
use Rattle.sdr_base.specs.Words.{layout}
use Rattle.sdr_base.specs.ZcoObjects.{capsule_block, extent_block}
use Rattle.sdr_base.specs.declared.account.Acct.{Acct}
use Rattle.sdr_base.specs.declared.kind.Kind.{Kind}
use Rattle.sdr_base.specs.declared.kind.Kind.TheVariants as kinds
use Rattle.sdr_stands.specs.Rows.{capsule_row, element_row, extent_row, item_row, name_row}
use Rattle.audit_counts.specs.Queues.{ticket_in}
use Rattle.sdr_model.specs.Fields.{FitsElement, FitsEntry, FitsExtent, FitsName, IsWord}
use Rattle.sdr_model.specs.TicketRows.{ticket_row}
use Rattle.sdr_model.specs.declared.accounts.Ticket.{Ticket}
use Rattle.sdr_model.specs.declared.name.Name.{Name}
use Rattle.sdr_model.specs.declared.things.Element.{Element}
use Rattle.sdr_model.specs.declared.things.HashEntry.{HashEntry}
use Rattle.sdr_model.specs.declared.zco.Capsule.{Capsule}
use Rattle.sdr_model.specs.declared.zco.Extent.{Extent}
use Rattle.audit_owners.proofs.LayoutLemmas.{word_laid}
use Rattle.audit_owners.specs.Linking.{AllStandAt, StandsAt}
use Rattle.audit_owners.specs.Reading.{behind_words, name_in}
use Rattle.audit_owners.specs.View.{View, word_of}
use Rattle.audit_world.specs.Told.{capsule_told, element_told, entry_told, extent_told, name_told}
use Rattle.sdr_audit.proofs.LaidLemmas.{drop_layout}

-- behind the words of a block stands the rest
pub behind_laid : (kind : Kind) (words rest : List ℕ) (n : ℕ) → n ≡ length words →
    behind_words (Some (record { kind = kind; bytes = layout words rest })) n ≡ rest
behind_laid kind words rest n is =
    ap (λ (k : ℕ). drop k (layout words rest)) (let e : 8 * n ≡ 8 * length words + 0 = omega (arith, is) in e) ∙ drop_layout words rest 0

-- Where what is told of the block of each row is the row, what is told of a chain's blocks is its rows.
module _ (heap : View) {X Y : Type 0} (addr : X → ℕ) (block : ℕ → ℕ → X → Block) (row : Y → X) (told : ℕ → Y) (R : Y → Type 0)
    (each : (before next : ℕ) (y : Y) → R y → heap.blocks (addr (row y)) ≡ Some (block before next (row y)) → told (addr (row y)) ≡ y) where
  pub told_rows : (before next : ℕ) (ys : List Y) → All R ys → AllStandAt heap (linked addr block before next (map row ys)) →
      map told (map addr (map row ys)) ≡ ys
  unfolding linked
  told_rows before next [] fits stand = refl
  told_rows before next (y ∷ ys) fits stand =
      let own = block before (first_of addr next (map row ys)) (row y) in
      let later = linked addr block (addr (row y)) next (map row ys) in
      let here = All-head (StandsAt heap) (addr (row y), own) later stand in
      λ i.
      each before (first_of addr next (map row ys)) y (All-head R y ys fits) here.is i
      ∷ told_rows (addr (row y)) next ys (All-tail R y ys fits) (All-tail (StandsAt heap) (addr (row y), own) later stand) i

-- the numbers of a ticket fit their words
pub record FitsWords (t : Ticket) : Type 0 where
  pub number : IsWord t.number
  pub coarse : IsWord t.coarse
  pub fine : IsWord t.fine
  pub asked_file : IsWord t.asked.file
  pub asked_bulk : IsWord t.asked.bulk
  pub asked_heap : IsWord t.asked.heap
  pub left_file : IsWord t.left.file
  pub left_bulk : IsWord t.left.bulk
  pub left_heap : IsWord t.left.heap

-- the word of a yes or no is one
pub flag_small : (flag : Bool) → flag_word flag < 2 ^ 64
flag_small true = omega arith
flag_small false = omega arith

-- a yes or no is read of its word
pub flag_told : (flag : Bool) → (flag_word flag == 1) ≡ flag
flag_told true = refl
flag_told false = refl

-- a name is read of its bytes
pub name_back : (name : List ℕ) → name_in (name_bytes name) ≡ name
name_back name = take-append_seam name (replicate (31 - length name) 0)

module _ (heap : View) where
  pub element_back : (list before next : ℕ) (e : Element) → FitsElement e →
      heap.blocks e.block ≡ Some (element_block list before next (element_row e)) →
      element_told heap e.block ≡ e
  element_back list before next e fits is =
      let datum = ap (λ b. word_of b 3) is ∙ word_laid kinds.Element (list ∷ before ∷ next ∷ e.datum ∷ []) [] 3 (omega arith) fits.datum in
      λ i. record { block = e.block; datum = datum i }

  pub entry_back : (before next : ℕ) (e : HashEntry) → FitsEntry e → heap.blocks e.block ≡ Some (item_block before next (item_row e)) →
      entry_told heap e.block ≡ e
  entry_back before next e fits is =
      let value = ap (λ b. word_of b 1) is ∙ word_laid kinds.HashEntry (next ∷ e.value ∷ []) e.key 1 (omega arith) fits.value in
      let key = ap (λ b. behind_words b 2) is ∙ behind_laid kinds.HashEntry (next ∷ e.value ∷ []) e.key 2 refl in
      λ i. record { block = e.block; key = key i; value = value i }

  pub name_told_back : (before next : ℕ) (n : Name) → FitsName n → heap.blocks n.block ≡ Some (name_block before next (name_row n)) →
      name_told heap n.block ≡ n
  name_told_back before next n fits is =
      let few = fits.kind in
      let kind =
      ap (λ b. word_of b 1) is ∙ word_laid kinds.Name (next ∷ n.kind ∷ n.object ∷ []) (name_bytes n.name) 1 (omega arith)
      (omega (arith, few)) in
      let object =
      ap (λ b. word_of b 2) is ∙ word_laid kinds.Name (next ∷ n.kind ∷ n.object ∷ []) (name_bytes n.name) 2 (omega arith) fits.object in
      let name =
      ap (λ b. name_in (behind_words b 3)) is
      ∙ ap name_in (behind_laid kinds.Name (next ∷ n.kind ∷ n.object ∷ []) (name_bytes n.name) 3 refl)
      ∙ name_back n.name in
      λ i. record { block = n.block; name = name i; kind = kind i; object = object i }

  pub capsule_back : (before next : ℕ) (c : Capsule) → heap.blocks c.block ≡ Some (capsule_block before next (capsule_row c)) →
      capsule_told heap c.block ≡ c
  capsule_back before next c is =
      let text = ap (λ b. behind_words b 1) is ∙ behind_laid kinds.Capsule (next ∷ []) c.text 1 refl in
      λ i. record { block = c.block; text = text i }

  pub extent_back : (before next : ℕ) (e : Extent) → FitsExtent e → heap.blocks e.block ≡ Some (extent_block before next (extent_row e)) →
      extent_told heap e.block ≡ e
  extent_back before next e fits is =
      let source =
      ap (λ b. word_of b 0) is ∙ word_laid kinds.Extent (e.source ∷ e.offset ∷ e.length ∷ next ∷ []) [] 0 (omega arith) fits.source in
      let offset =
      ap (λ b. word_of b 1) is ∙ word_laid kinds.Extent (e.source ∷ e.offset ∷ e.length ∷ next ∷ []) [] 1 (omega arith) fits.offset in
      let count =
      ap (λ b. word_of b 2) is ∙ word_laid kinds.Extent (e.source ∷ e.offset ∷ e.length ∷ next ∷ []) [] 2 (omega arith) fits.length in
      λ i. record { block = e.block; source = source i; offset = offset i; length = count i }

  pub ticket_back : (account : Acct) (before next : ℕ) (t : Ticket) → FitsWords t →
      heap.blocks t.block ≡ Some (ticket_block account before next (ticket_row t)) →
      ticket_in heap t.block ≡ t
  ticket_back account before next t fits is = λ i. record {
    block = t.block;
    number = word 0 (omega arith) fits.number i;
    coarse = word 2 (omega arith) fits.coarse i;
    fine = word 3 (omega arith) fits.fine i;
    asked =
        record {
          file = word 4 (omega arith) fits.asked_file i;
          bulk = word 5 (omega arith) fits.asked_bulk i;
          heap = word 6 (omega arith) fits.asked_heap i;
        };
    left =
        record {
          file = word 7 (omega arith) fits.left_file i;
          bulk = word 8 (omega arith) fits.left_bulk i;
          heap = word 9 (omega arith) fits.left_heap i;
        };
    granted = (ap (λ (n : ℕ). n == 1) (word 10 (omega arith) (flag_small t.granted)) ∙ flag_told t.granted) i;
  }
    where
      word : (n : ℕ) → n < 12 → get_or (ticket_words account next (ticket_row t)) n 0 < 2 ^ 64 →
          word_of (heap.blocks t.block) n ≡ get_or (ticket_words account next (ticket_row t)) n 0
      word n less small = ap (λ b. word_of b n) is ∙ word_laid kinds.Ticket (ticket_words account next (ticket_row t)) [] n less small
