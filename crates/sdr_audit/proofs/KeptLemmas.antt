-- Each block of a world keeps the rules.
use Rattle.std.proofs.Common.{◌≡◌, ◌<◌, ◌^◌, ◌==◌, ◌||◌, ℕ, Bool, true, false, cond, not, List, [], ◌∷◌, ◌++◌, map, Some, arith, refl, ap, ◌∙◌, subst}
use Rattle.std.specs.Prelude.{None, Option}
use Rattle.std.specs.List.{All, flat_map}
use Rattle.std.proofs.lemmas.Bool.{eq-eqb, eqb-true}
use Rattle.std.proofs.lemmas.List.Elements.{All-cons, All-head, All-nil, All-tail, All-weaker}
use Rattle.std.proofs.lemmas.List.Folds.{list_any-append}
use Rattle.sdr_base.specs.Blocks.{Block}
use Rattle.sdr_base.specs.Catalogue.{NameRow, name_addr, name_block}
use Rattle.sdr_base.specs.Entries.{Entries, at}
use Rattle.sdr_base.specs.Hashes.{HashItem, item_addr, item_block}
use Rattle.sdr_base.specs.Linked.{linked}
use Rattle.sdr_base.specs.Lists.{ListElement, addr_of, element_block, list_block}
use Rattle.sdr_base.specs.Tickets.{TicketRow, ticket_addr, ticket_block}
use Rattle.sdr_base.specs.ZcoObjects.{CapsuleRow, ExtentRow, capsule_addr, capsule_block, extent_addr, extent_block}
use Rattle.sdr_base.specs.declared.account.Acct.{Acct}
use Rattle.sdr_base.specs.declared.kind.Kind.TheVariants as kinds
use Rattle.audit_owners.proofs.LayoutLemmas.{word_laid}
use Rattle.audit_owners.specs.Chains.{is_among}
use Rattle.audit_owners.specs.Rules.{is_chained, is_source_of, keeps_owner_rule, is_source_of_raw, is_raw_of_source}
use Rattle.audit_owners.specs.View.{View, is_kind, word_of}
use Rattle.audit_owners.specs.declared.rules.OwnerRule.{OwnerRule}
use Rattle.audit_owners.specs.declared.rules.OwnerRule.TheVariants as which
use Rattle.sdr_audit.proofs.SoundStandLemmas.{All-linked}

-- what is found at an address holds what all do
pub found_at : (P : ℕ × Block → Type 0) (es : Entries) → All P es → (addr : ℕ) (block : Block) → at es addr ≡ Some block → P (addr, block)
unfolding at
found_at P [] all addr block is = let d : None ≡ Some block = is in cc
found_at P (e ∷ es) all addr block is =
    elim (e.0 == addr) as (λ t. (e.0 == addr) ≡ t → cond t (Some e.1) (at es addr) ≡ Some block → P (addr, block)) [
      | true ↦ λ here same.
          let own : e.1 ≡ block = cc in
          let key : e.0 ≡ addr = eqb-true e.0 addr here in
          subst (λ (k : ℕ). P (k, block)) key (subst (λ (b : Block). P (e.0, b)) own (All-head P e es all))
      | false ↦ λ here same. found_at P es (All-tail P e es all) addr block same
    ] refl is

-- what an address is among it is among in a longer list
among_left : (xs ys : List ℕ) (b : ℕ) → is_among xs b ≡ true → is_among (xs ++ ys) b ≡ true
among_left xs ys b is = list_any-append (λ (other : ℕ). other == b) xs ys ∙ ap (λ (t : Bool). t || is_among ys b) is

among_right : (xs ys : List ℕ) (b : ℕ) → is_among ys b ≡ true → is_among (xs ++ ys) b ≡ true
among_right xs ys b is = list_any-append (λ (other : ℕ). other == b) xs ys ∙ ap (λ (t : Bool). is_among xs b || t) is ∙ or_true (is_among xs b)
  where
    or_true : (t : Bool) → (t || true) ≡ true
    or_true true = refl
    or_true false = refl

among_itself : (xs : List ℕ) → All (λ b. is_among xs b ≡ true) xs
among_itself [] = All-nil (λ b. is_among [] b ≡ true)
among_itself (x ∷ xs) =
    All-cons (λ b. is_among (x ∷ xs) b ≡ true) x xs (among_left (x ∷ []) xs x (ap (λ (t : Bool). t || false) (eq-eqb x x refl)))
    (All-weaker (λ b. is_among xs b ≡ true) (λ b. is_among (x ∷ xs) b ≡ true) (λ b is. among_right (x ∷ []) xs b is) xs (among_itself xs))

-- what is in one of some lists is among them all
pub among_all : {X : Type 0} (f : X → List ℕ) (xs : List X) → All (λ x. All (λ b. is_among (flat_map f xs) b ≡ true) (f x)) xs
among_all f [] = All-nil (λ x. All (λ b. is_among [] b ≡ true) (f x))
among_all {X} f (x ∷ xs) =
    All-cons (λ y. All (λ b. is_among (f x ++ flat_map f xs) b ≡ true) (f y)) x xs
    (All-weaker (λ b. is_among (f x) b ≡ true) (λ b. is_among (f x ++ flat_map f xs) b ≡ true) (λ b is. among_left (f x) (flat_map f xs) b is) (f x) (among_itself (f x)))
    (All-weaker (λ y. All (λ b. is_among (flat_map f xs) b ≡ true) (f y)) (λ y. All (λ b. is_among (f x ++ flat_map f xs) b ≡ true) (f y))
    (λ y all. All-weaker (λ b. is_among (flat_map f xs) b ≡ true) (λ b. is_among (f x ++ flat_map f xs) b ≡ true) (λ b is. among_right (f x) (flat_map f xs) b is) (f y) all)
    xs (among_all f xs))

-- what holds of what is made of each holds of each
pub All-unmap : {X Y : Type 0} (P : Y → Type 0) (f : X → Y) (xs : List X) → All P (map f xs) → All (λ x. P (f x)) xs
All-unmap P f [] all = All-nil (λ x. P (f x))
All-unmap P f (x ∷ xs) all = All-cons (λ y. P (f y)) x xs (All-head P (f x) (map f xs) all) (All-unmap P f xs (All-tail P (f x) (map f xs) all))

module _ (heap : View) (reached : List ℕ) where
  -- a block keeps each rule, where it stands at an address
  pub record Kept (addr : ℕ) (block : Block) : Type 0 where
    pub extent : (not (is_kind kinds.Extent (Some block)) || is_kind kinds.Source (heap.blocks (word_of (Some block) 0))) ≡ true
    pub raw : (not (is_source_of_raw (Some block)) || is_kind kinds.Raw (heap.blocks (word_of (Some block) 4))) ≡ true
    pub source : (not (is_raw_of_source (Some block)) || is_source_of heap addr (word_of (Some block) 0)) ≡ true
    pub named : (not (is_source_of_raw (Some block)) || word_of (heap.blocks (word_of (Some block) 4)) 0 == addr) ≡ true
    pub chained : (not (is_chained (Some block)) || is_among reached addr) ≡ true

  pub kept_keeps : (addr : ℕ) (block : Block) → heap.blocks addr ≡ Some block → Kept addr block → (rule : OwnerRule) → keeps_owner_rule heap reached rule addr ≡ true
  kept_keeps addr block is k which.SourceIsThere =
      ap (λ (b : Option Block). not (is_kind kinds.Extent b) || is_kind kinds.Source (heap.blocks (word_of b 0))) is ∙ k.extent
  kept_keeps addr block is k which.RawIsThere = ap (λ (b : Option Block). not (is_source_of_raw b) || is_kind kinds.Raw (heap.blocks (word_of b 4))) is ∙ k.raw
  kept_keeps addr block is k which.SourceNamesRaw =
      ap (λ (b : Option Block). not (is_raw_of_source b) || is_source_of heap addr (word_of b 0)) is ∙ k.source
  kept_keeps addr block is k which.RawNamesSource =
      ap (λ (b : Option Block). not (is_source_of_raw b) || word_of (heap.blocks (word_of b 4)) 0 == addr) is ∙ k.named
  kept_keeps addr block is k which.IsReached = ap (λ (b : Option Block). not (is_chained b) || is_among reached addr) is ∙ k.chained

  abbrev pub KeptEntry : ℕ × Block → Type 0
  KeptEntry e = Kept e.0 e.1

  -- the blocks of rows do where each does
  pub linked_kept : {X : Type 0} (addr : X → ℕ) (block : ℕ → ℕ → X → Block) (R : X → Type 0) → ((before next : ℕ) (x : X) → R x → Kept (addr x) (block before next x)) →
      (before next : ℕ) (xs : List X) → All R xs → All KeptEntry (linked addr block before next xs)
  linked_kept addr block R each = All-linked KeptEntry addr block R each

  -- an element is one that was reached
  pub element_kept : (list before next : ℕ) (row : ListElement) → is_among reached (addr_of row) ≡ true → Kept (addr_of row) (element_block list before next row)
  element_kept list before next row among = record { extent = refl; raw = refl; source = refl; named = refl; chained = among }

  pub item_kept : (before next : ℕ) (row : HashItem) → is_among reached (item_addr row) ≡ true → Kept (item_addr row) (item_block before next row)
  item_kept before next row among = record { extent = refl; raw = refl; source = refl; named = refl; chained = among }

  pub name_kept : (before next : ℕ) (row : NameRow) → is_among reached (name_addr row) ≡ true → Kept (name_addr row) (name_block before next row)
  name_kept before next row among = record { extent = refl; raw = refl; source = refl; named = refl; chained = among }

  pub capsule_kept : (before next : ℕ) (row : CapsuleRow) → is_among reached (capsule_addr row) ≡ true → Kept (capsule_addr row) (capsule_block before next row)
  capsule_kept before next row among = record { extent = refl; raw = refl; source = refl; named = refl; chained = among }

  pub ticket_kept : (account : Acct) (before next : ℕ) (row : TicketRow) → is_among reached (ticket_addr row) ≡ true → Kept (ticket_addr row) (ticket_block account before next row)
  ticket_kept account before next row among = record { extent = refl; raw = refl; source = refl; named = refl; chained = among }

  -- an extent names a source besides
  pub record IsGoodExtent (row : ExtentRow) : Type 0 where
    pub among : is_among reached (extent_addr row) ≡ true
    pub small : row.source < 2 ^ 64
    pub there : is_kind kinds.Source (heap.blocks row.source) ≡ true

  pub extent_kept : (before next : ℕ) (row : ExtentRow) → IsGoodExtent row → Kept (extent_addr row) (extent_block before next row)
  extent_kept before next row good = record {
    extent =
        ap (λ (n : ℕ). is_kind kinds.Source (heap.blocks n)) (word_laid kinds.Extent (row.source ∷ row.offset ∷ row.length ∷ next ∷ []) [] 0 (omega arith) good.small)
        ∙ good.there;
    raw = refl;
    source = refl;
    named = refl;
    chained = good.among;
  }

  -- a block of another kind keeps all
  pub list_kept : (addr user count first last : ℕ) → Kept addr (list_block user count first last)
  list_kept addr user count first last = record { extent = refl; raw = refl; source = refl; named = refl; chained = refl }
