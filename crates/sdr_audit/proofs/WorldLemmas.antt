-- A heap whose bytes stand for a world passes the audit of owners.
use Rattle.std.proofs.Common.{◌≡◌, ◌<◌, ◌+◌, ◌-◌, ◌*◌, ◌/◌, ◌^◌, ◌==◌, ◌&&◌, ◌||◌, ℕ, Bool, true, false, not, List, [], ◌∷◌, ◌++◌, map, length, Some, arith, refl, sym, ap, ◌∙◌, subst}
use Rattle.std.specs.Prelude.{IfSome, None, Option}
use Rattle.std.specs.FinMap as finite
use Rattle.std.specs.List.{All, flat_map, range_with_len}
use Rattle.std.proofs.lemmas.Bool.{eq-eqb, eqb-true}
use Rattle.std.proofs.lemmas.List.Elements.{All-append, All-cons, All-head, All-map, All-nil, All-tail, All-weaker}
use Rattle.sdr_base.specs.Blocks.{Block}
use Rattle.sdr_base.specs.Catalogue.{catalogue_entries, name_addr, name_block}
use Rattle.sdr_base.specs.Cells.{IsRegionSize}
use Rattle.sdr_base.specs.Entries.{BlocksAre}
use Rattle.sdr_base.specs.Hashes.{HashItem, bucket_entries, hash_block, item_addr, item_block}
use Rattle.sdr_base.specs.Linked.{first_of, last_of}
use Rattle.sdr_base.specs.Lists.{addr_of, element_block, elements_between, list_block}
use Rattle.sdr_base.specs.Pools.{Pools}
use Rattle.sdr_base.specs.Raws.{raw_block}
use Rattle.sdr_base.specs.Section.{section}
use Rattle.sdr_base.specs.Sources.{SourceRow, flag_word, medium_number, source_block}
use Rattle.sdr_base.specs.Strings.{string_block}
use Rattle.sdr_base.specs.Tables.{table_block}
use Rattle.sdr_base.specs.Tickets.{ticket_addr, ticket_block}
use Rattle.sdr_base.specs.ZcoObjects.{CapsuleRow, ExtentRow, capsule_addr, capsule_block, capsule_entries, extent_addr, extent_block, extent_entries, object_block}
use Rattle.sdr_base.specs.declared.account.Acct.{Acct}
use Rattle.sdr_base.specs.declared.account.Acct.TheVariants as accts
use Rattle.sdr_base.specs.declared.kind.Kind.TheVariants as kinds
use Rattle.sdr_base.specs.declared.medium.Medium.{Medium}
use Rattle.sdr_base.specs.declared.medium.Medium.TheVariants as media
use Rattle.sdr_model.specs.Accounts.{tickets_of}
use Rattle.sdr_model.specs.Fields.{FitsExtent, FitsSubject, FitsThing, IsWord}
use Rattle.sdr_model.specs.Hashes.{Hash}
use Rattle.sdr_model.specs.Valid.{HasBytes, HasSubject, LiesInside, AreInside}
use Rattle.sdr_model.specs.World.{World, as_raw, thing_at}
use Rattle.sdr_model.specs.Zco.{as_source, is_of_raw, source_naming}
use Rattle.sdr_model.specs.declared.things.Thing.{Thing}
use Rattle.sdr_model.specs.declared.things.Thing.TheVariants as things
use Rattle.sdr_model.specs.declared.zco.Extent.{Extent}
use Rattle.sdr_model.specs.declared.zco.Subject.{Subject}
use Rattle.sdr_model.specs.declared.zco.Subject.TheVariants as subjects
use Rattle.sdr_model.specs.declared.zco.ZcoObject.{ZcoObject}
use Rattle.sdr_model.specs.declared.zco.ZcoSource.{ZcoSource}
use Rattle.sdr_stands.specs.Rows.{bucket_row, capsule_row, element_row, extent_row, hash_row, medium_of, name_row, object_row, source_row, subject_number, table_row}
use Rattle.sdr_model.specs.TicketRows.{ticket_row}
use Rattle.sdr_stands.specs.Standing.{StandsForWhole, entries_of, other_entries, queue_entries, thing_entries}
use Rattle.sdr_stands.specs.Ties.{or_null, ties_of}
use Rattle.audit_owners.proofs.LayoutLemmas.{word_laid}
use Rattle.audit_owners.proofs.RulesLemmas.{none_keeps}
use Rattle.audit_owners.specs.Chains.{is_among}
use Rattle.audit_owners.specs.Linking.{StandsAt}
use Rattle.audit_owners.specs.Owned.{IsOwnedRegion}
use Rattle.audit_owners.specs.Owners.{owned_at, owners_of, root_owners}
use Rattle.audit_owners.specs.Rules.{is_source_of, keeps_owner_rule, is_source_of_raw}
use Rattle.audit_owners.specs.View.{View, is_kind, view_in, word_of}
use Rattle.audit_owners.specs.declared.owner.Owner.{Owner}
use Rattle.audit_owners.specs.declared.owner.Owner.TheVariants as owners
use Rattle.audit_owners.specs.declared.rules.OwnerRule.{OwnerRule}
use Rattle.audit_owners.specs.declared.rules.OwnerRule.TheVariants as which
use Rattle.sdr_audit.proofs.KeptLemmas.{All-unmap, IsGoodExtent, Kept, among_all, capsule_kept, element_kept, extent_kept, found_at, item_kept, kept_keeps, linked_kept, list_kept, name_kept, ticket_kept}
use Rattle.sdr_audit.proofs.NamedLemmas.{Names, source_there, source_told, things_found}
use Rattle.sdr_audit.proofs.OwnerLemmas.{owners_in}
use Rattle.sdr_audit.proofs.ReachLemmas as reach
use Rattle.sdr_audit.proofs.ReachLemmas.{thing_owners, world_chains}
use Rattle.sdr_audit.proofs.SoundStandLemmas.{All-left, All-whole, thing_stands}
use Rattle.sdr_audit.specs.WorldChains.{chain_in, elements_of, extents_of, headers_of, items_of, trailers_of}

or_true : (t : Bool) → (t || true) ≡ true
or_true true = refl
or_true false = refl

-- the number of a medium fits a word
medium_small : (medium : Medium) → medium_number medium < 2 ^ 64
medium_small media.File = omega arith
medium_small media.Bulk = omega arith
medium_small media.Heap = omega arith
medium_small media.Obj = omega arith

-- a source in its block
module _ (inbound outbound : ℕ) (row : SourceRow) where
  abbrev source_words : List ℕ
  source_words = medium_number row.medium ∷ flag_word row.flagged ∷ inbound ∷ outbound ∷ row.subject ∷ row.length ∷ []

  medium_word : word_of (Some (source_block inbound outbound row)) 0 ≡ medium_number row.medium
  medium_word = word_laid kinds.Source source_words row.path 0 (omega arith) (medium_small row.medium)

  subject_word : row.subject < 2 ^ 64 → word_of (Some (source_block inbound outbound row)) 4 ≡ row.subject
  subject_word small = word_laid kinds.Source source_words row.path 4 (omega arith) small

-- the word of a raw object
raw_word : (named_by : ℕ) (text : List ℕ) → named_by < 2 ^ 64 → word_of (Some (raw_block named_by text)) 0 ≡ named_by
raw_word named_by text small = word_laid kinds.Raw (named_by ∷ []) text 0 (omega arith) small

-- an extent that lies inside its source has it
pub source_is : (e : Extent) (o : Option Thing) → LiesInside e (as_source o) → (source : ZcoSource) × (o ≡ Some (things.Source source))
source_is e None inside = absurd inside
source_is e (Some (things.Raw bytes)) inside = absurd inside
source_is e (Some (things.Text text)) inside = absurd inside
source_is e (Some (things.List list)) inside = absurd inside
source_is e (Some (things.Table table)) inside = absurd inside
source_is e (Some (things.Hash hash)) inside = absurd inside
source_is e (Some (things.Source source)) inside = (source, refl)
source_is e (Some (things.Object z)) inside = absurd inside

-- what has a raw object's bytes is one
pub raw_is : (n : ℕ) (o : Option Thing) → HasBytes n (as_raw o) → (text : List ℕ) × (o ≡ Some (things.Raw text))
raw_is n None has = absurd has
raw_is n (Some (things.Raw bytes)) has = (bytes, refl)
raw_is n (Some (things.Text text)) has = absurd has
raw_is n (Some (things.List list)) has = absurd has
raw_is n (Some (things.Table table)) has = absurd has
raw_is n (Some (things.Hash hash)) has = absurd has
raw_is n (Some (things.Source source)) has = absurd has
raw_is n (Some (things.Object z)) has = absurd has

module _ (bytes : List ℕ) (w : World) (P : Pools) (region : IsRegionSize (length bytes)) (s : StandsForWhole bytes w P) where
  abbrev heap : View
  heap = view_in bytes

  abbrev words : ℕ
  words = length bytes / 8

  abbrev reached : List ℕ
  reached = reach.reached bytes w P region s

  stands : BlocksAre heap.blocks (entries_of w)
  stands = s.stands.blocks

  abbrev IsAmong : ℕ → Type 0
  IsAmong b = is_among reached b ≡ true

  -- the chain of an owner is reached
  abbrev IsReached : Owner → Type 0
  IsReached owner = All IsAmong (chain_in w owner)

  all_reached : All IsReached (owners_of heap words)
  all_reached = among_all (chain_in w) (owners_of heap words)

  -- the chains of a thing are reached
  thing_reached : (addr : ℕ) (thing : Thing) (block : Block) → thing_at w addr ≡ Some thing → heap.blocks addr ≡ Some block → All IsReached (owners_in addr (Some thing))
  thing_reached = thing_owners bytes w P region s IsReached all_reached

  fits_thing : (addr : ℕ) (thing : Thing) → thing_at w addr ≡ Some thing → IsWord addr × FitsThing thing
  fits_thing addr thing is = subst (λ (o : Option Thing). IfSome o (λ thing. IsWord addr × FitsThing thing)) is (s.fits.things addr)

  abbrev own_source : ℕ → ZcoSource → Block
  own_source addr source = source_block ((ties_of w).counts addr accts.Inbound) ((ties_of w).counts addr accts.Outbound) (source_row source)

  source_stands : (addr : ℕ) (source : ZcoSource) → thing_at w addr ≡ Some (things.Source source) → heap.blocks addr ≡ Some (own_source addr source)
  source_stands addr source there = (All-head (StandsAt heap) (addr, own_source addr source) [] (thing_stands heap w stands addr (things.Source source) there)).is

  abbrev own_raw : ℕ → List ℕ → Block
  own_raw addr text = raw_block (or_null (source_naming w addr)) text

  raw_stands : (addr : ℕ) (text : List ℕ) → thing_at w addr ≡ Some (things.Raw text) → heap.blocks addr ≡ Some (own_raw addr text)
  raw_stands addr text there = (All-head (StandsAt heap) (addr, own_raw addr text) [] (thing_stands heap w stands addr (things.Raw text) there)).is

  -- a source of a raw object is one
  module _ (addr : ℕ) (source : ZcoSource) (there : thing_at w addr ≡ Some (things.Source source)) where
    abbrev own : Option Block
    own = Some (own_source addr source)

    abbrev row : SourceRow
    row = source_row source

    abbrev in_count : ℕ
    in_count = (ties_of w).counts addr accts.Inbound

    abbrev out_count : ℕ
    out_count = (ties_of w).counts addr accts.Outbound

    has_subject : HasSubject w source.length source.subject
    has_subject = subst (λ (o : Option Thing). IfSome (as_source o) (λ source. HasSubject w source.length source.subject)) there (s.whole.fits.subjects addr)

    module _ (raw : ℕ) (small : row.subject < 2 ^ 64) (subject : row.subject ≡ raw) (has : HasBytes source.length (as_raw (thing_at w raw)))
        (named : is_of_raw raw source.subject ≡ true) where
      to_raw : word_of own 4 ≡ raw
      to_raw = subject_word in_count out_count row small ∙ subject

      raw_kind : is_kind kinds.Raw (heap.blocks (word_of own 4)) ≡ true
      raw_kind =
          let r = raw_is source.length (thing_at w raw) has in
          ap (λ (n : ℕ). is_kind kinds.Raw (heap.blocks n)) to_raw ∙ ap (is_kind kinds.Raw) (raw_stands raw r.0 r.1)

      raw_names : (word_of (heap.blocks (word_of own 4)) 0 == addr) ≡ true
      raw_names =
          let r = raw_is source.length (thing_at w raw) has in
          let told : or_null (source_naming w raw) ≡ addr = ap or_null (source_told w raw s.whole.fits addr source there named) in
          let few : IsWord addr = (fits_thing addr (things.Source source) there).0 in
          eq-eqb _ _
          (ap (λ (n : ℕ). word_of (heap.blocks n) 0) to_raw ∙ ap (λ (b : Option Block). word_of b 0) (raw_stands raw r.0 r.1)
          ∙ raw_word (or_null (source_naming w raw)) r.0 (omega (arith, told, few)) ∙ told)

    source_kept : Kept heap reached addr (own_source addr source)
    source_kept = by source.subject refl
      where
        medium : (subject : Subject) → source.subject ≡ subject → word_of own 0 ≡ medium_number (medium_of subject)
        medium subject is = medium_word in_count out_count row ∙ ap (λ (x : Subject). medium_number (medium_of x)) is

        raw_rule : (n : ℕ) → word_of own 0 ≡ n → (not (n == 3 || n == 4) || is_kind kinds.Raw (heap.blocks (word_of own 4))) ≡ true →
            (not (is_source_of_raw own) || is_kind kinds.Raw (heap.blocks (word_of own 4))) ≡ true
        raw_rule n is holds = ap (λ (k : ℕ). not (k == 3 || k == 4) || is_kind kinds.Raw (heap.blocks (word_of own 4))) is ∙ holds

        named_rule : (n : ℕ) → word_of own 0 ≡ n → (not (n == 3 || n == 4) || word_of (heap.blocks (word_of own 4)) 0 == addr) ≡ true →
            (not (is_source_of_raw own) || word_of (heap.blocks (word_of own 4)) 0 == addr) ≡ true
        named_rule n is holds = ap (λ (k : ℕ). not (k == 3 || k == 4) || word_of (heap.blocks (word_of own 4)) 0 == addr) is ∙ holds

        by : (subject : Subject) → source.subject ≡ subject → Kept heap reached addr (own_source addr source)
        by (subjects.File path) is = record {
          extent = refl;
          raw = raw_rule 1 (medium (subjects.File path) is) refl;
          source = refl;
          named = named_rule 1 (medium (subjects.File path) is) refl;
          chained = refl;
        }
        by (subjects.Bulk item) is = record {
          extent = refl;
          raw = raw_rule 2 (medium (subjects.Bulk item) is) refl;
          source = refl;
          named = named_rule 2 (medium (subjects.Bulk item) is) refl;
          chained = refl;
        }
        by (subjects.Heap raw) is =
            let fit : IsWord raw = subst (λ (x : Subject). FitsSubject x) is (fits_thing addr (things.Source source) there).1.subject in
            let subject : row.subject ≡ raw = ap subject_number is in
            let has : HasBytes source.length (as_raw (thing_at w raw)) = subst (λ (x : Subject). HasSubject w source.length x) is has_subject in
            let named : is_of_raw raw source.subject ≡ true = ap (is_of_raw raw) is ∙ eq-eqb raw raw refl in
            let small : row.subject < 2 ^ 64 = omega (arith, subject, fit) in
            record {
              extent = refl;
              raw = raw_rule 3 (medium (subjects.Heap raw) is) (raw_kind raw small subject has named);
              source = refl;
              named = named_rule 3 (medium (subjects.Heap raw) is) (raw_names raw small subject has named);
              chained = refl;
            }
        by (subjects.Obj raw) is =
            let fit : IsWord raw = subst (λ (x : Subject). FitsSubject x) is (fits_thing addr (things.Source source) there).1.subject in
            let subject : row.subject ≡ raw = ap subject_number is in
            let has : HasBytes source.length (as_raw (thing_at w raw)) = subst (λ (x : Subject). HasSubject w source.length x) is has_subject in
            let named : is_of_raw raw source.subject ≡ true = ap (is_of_raw raw) is ∙ eq-eqb raw raw refl in
            let small : row.subject < 2 ^ 64 = omega (arith, subject, fit) in
            record {
              extent = refl;
              raw = raw_rule 4 (medium (subjects.Obj raw) is) (raw_kind raw small subject has named);
              source = refl;
              named = named_rule 4 (medium (subjects.Obj raw) is) (raw_names raw small subject has named);
              chained = refl;
            }

  -- the source that a raw object names is one of it
  module _ (raw : ℕ) where
    is_its : (addr : ℕ) → Names w raw addr → is_source_of heap raw addr ≡ true
    is_its addr n = ap (λ (b : Option Block). is_source_of_raw b && word_of b 4 == raw) (source_stands addr n.source n.there) ∙ by n.source.subject refl n.named
      where
        b : Option Block
        b = Some (own_source addr n.source)

        both : (m : ℕ) → word_of b 0 ≡ m → (m == 3 || m == 4) ≡ true → word_of b 4 ≡ raw → (is_source_of_raw b && word_of b 4 == raw) ≡ true
        both m is right subject =
            ap (λ (k : ℕ). (k == 3 || k == 4) && word_of b 4 == raw) is
            ∙ ap (λ (t : Bool). t && word_of b 4 == raw) right ∙ eq-eqb (word_of b 4) raw subject

        by : (subject : Subject) → n.source.subject ≡ subject → is_of_raw raw n.source.subject ≡ true → (is_source_of_raw b && word_of b 4 == raw) ≡ true
        by (subjects.File path) is named = let d : false ≡ true = sym (ap (is_of_raw raw) is) ∙ named in cc
        by (subjects.Bulk item) is named = let d : false ≡ true = sym (ap (is_of_raw raw) is) ∙ named in cc
        by (subjects.Heap other) is named =
            let same : other ≡ raw = eqb-true other raw (sym (ap (is_of_raw raw) is) ∙ named) in
            let fit : IsWord other = subst (λ (x : Subject). FitsSubject x) is (fits_thing addr (things.Source n.source) n.there).1.subject in
            let subject : (source_row n.source).subject ≡ other = ap subject_number is in
            both 3 (medium_word _ _ (source_row n.source) ∙ ap (λ (x : Subject). medium_number (medium_of x)) is) refl
            (subject_word _ _ (source_row n.source) (omega (arith, subject, fit)) ∙ subject ∙ same)
        by (subjects.Obj other) is named =
            let same : other ≡ raw = eqb-true other raw (sym (ap (is_of_raw raw) is) ∙ named) in
            let fit : IsWord other = subst (λ (x : Subject). FitsSubject x) is (fits_thing addr (things.Source n.source) n.there).1.subject in
            let subject : (source_row n.source).subject ≡ other = ap subject_number is in
            both 4 (medium_word _ _ (source_row n.source) ∙ ap (λ (x : Subject). medium_number (medium_of x)) is) refl
            (subject_word _ _ (source_row n.source) (omega (arith, subject, fit)) ∙ subject ∙ same)

    raw_kept : (text : List ℕ) → Kept heap reached raw (own_raw raw text)
    raw_kept text = record { extent = refl; raw = refl; source = by (source_naming w raw) refl; named = refl; chained = refl }
      where
        by : (o : Option ℕ) → source_naming w raw ≡ o →
            (not (true && not (word_of (Some (own_raw raw text)) 0 == 0)) || is_source_of heap raw (word_of (Some (own_raw raw text)) 0)) ≡ true
        by None is =
            let word : word_of (Some (own_raw raw text)) 0 ≡ 0 =
            ap (λ (o : Option ℕ). word_of (Some (raw_block (or_null o) text)) 0) is ∙ raw_word 0 text (omega arith) in
            ap (λ (n : ℕ). not (true && not (n == 0)) || is_source_of heap raw n) word
        by (Some addr) is =
            let n = source_there w raw addr is in
            let few : IsWord addr = (fits_thing addr (things.Source n.source) n.there).0 in
            let word : word_of (Some (own_raw raw text)) 0 ≡ addr =
            ap (λ (o : Option ℕ). word_of (Some (raw_block (or_null o) text)) 0) is ∙ raw_word addr text few in
            ap (λ (n : ℕ). not (true && not (n == 0)) || is_source_of heap raw n) word
            ∙ ap (λ (t : Bool). not (true && not (addr == 0)) || t) (is_its addr n) ∙ or_true (not (true && not (addr == 0)))

  -- the extents of an object name sources
  extents_good : (addr : ℕ) (z : ZcoObject) → thing_at w addr ≡ Some (things.Object z) → All IsReached (owners_in addr (Some (things.Object z))) →
      All (IsGoodExtent heap reached) (map extent_row z.extents)
  extents_good addr z there all =
      let own = All-tail IsReached (owners.Headers addr) (owners.Extents addr ∷ owners.Trailers addr ∷ []) all in
      let among = subst (λ (o : Option Thing). All IsAmong (map extent_addr (extents_of o))) there (All-head IsReached (owners.Extents addr) (owners.Trailers addr ∷ []) own) in
      let fit = (fits_thing addr (things.Object z) there).1 in
      let inside = subst (λ (o : Option Thing). IfSome o (AreInside w)) there (s.whole.fits.inside addr) in
      All-map (IsGoodExtent heap reached) extent_row z.extents
      (each z.extents (All-unmap (λ (row : ExtentRow). IsAmong (extent_addr row)) extent_row z.extents (All-unmap IsAmong extent_addr (map extent_row z.extents) among)) fit.extents inside)
    where
      good : (e : Extent) → IsAmong e.block → FitsExtent e → LiesInside e (as_source (thing_at w e.source)) → IsGoodExtent heap reached (extent_row e)
      good e among fit inside =
          let is = source_is e (thing_at w e.source) inside in
          record { among = among; small = fit.source; there = ap (is_kind kinds.Source) (source_stands e.source is.0 is.1) }

      each : (es : List Extent) → All (λ (e : Extent). IsAmong e.block) es → All FitsExtent es → All (λ (e : Extent). LiesInside e (as_source (thing_at w e.source))) es →
          All (λ (e : Extent). IsGoodExtent heap reached (extent_row e)) es
      each [] among fit inside = All-nil (λ (e : Extent). IsGoodExtent heap reached (extent_row e))
      each (e ∷ es) among fit inside =
          All-cons (λ (e : Extent). IsGoodExtent heap reached (extent_row e)) e es
          (good e (All-head (λ (e : Extent). IsAmong e.block) e es among) (All-head FitsExtent e es fit)
          (All-head (λ (e : Extent). LiesInside e (as_source (thing_at w e.source))) e es inside))
          (each es (All-tail (λ (e : Extent). IsAmong e.block) e es among) (All-tail FitsExtent e es fit)
          (All-tail (λ (e : Extent). LiesInside e (as_source (thing_at w e.source))) e es inside))

  abbrev IsKeptEntry : ℕ × Block → Type 0
  IsKeptEntry e = Kept heap reached e.0 e.1

  capsules_kept : (rows : List CapsuleRow) → All IsAmong (map capsule_addr rows) → All IsKeptEntry (capsule_entries rows)
  capsules_kept rows among =
      linked_kept heap reached capsule_addr capsule_block (λ row. IsAmong (capsule_addr row)) (capsule_kept heap reached) 0 0 rows (All-unmap IsAmong capsule_addr rows among)

  -- the entries of a hash
  buckets_kept : (addr : ℕ) (hash : Hash) → thing_at w addr ≡ Some (things.Hash hash) → All IsReached (owners_in addr (Some (things.Hash hash))) →
      All IsKeptEntry (flat_map bucket_entries (map (bucket_row hash) (range_with_len 0 hash.buckets)))
  buckets_kept addr hash there all =
      let whole : (24 + 8 * hash.buckets) / 8 - 3 ≡ hash.buckets = omega arith in
      let owned = subst (λ (n : ℕ). All IsReached (map (λ number. owners.Bucket addr (3 + number)) (range_with_len 0 n))) whole all in
      All-whole IsKeptEntry bucket_entries (map (bucket_row hash) (range_with_len 0 hash.buckets))
      (All-map (λ (items : List HashItem). All IsKeptEntry (bucket_entries items)) (bucket_row hash) (range_with_len 0 hash.buckets)
      (All-weaker (λ number. IsReached (owners.Bucket addr (3 + number))) (λ number. All IsKeptEntry (bucket_entries (bucket_row hash number))) bucket
      (range_with_len 0 hash.buckets) (All-unmap IsReached (λ number. owners.Bucket addr (3 + number)) (range_with_len 0 hash.buckets) owned)))
    where
      bucket : (number : ℕ) → IsReached (owners.Bucket addr (3 + number)) → All IsKeptEntry (bucket_entries (bucket_row hash number))
      bucket number among =
          let back : 3 + number - 3 ≡ number = omega arith in
          let rows = bucket_row hash number in
          let here = subst (λ (items : List HashItem). All IsAmong (map item_addr items)) (ap (items_of (3 + number - 3)) there ∙ ap (bucket_row hash) back) among in
          linked_kept heap reached item_addr item_block (λ row. IsAmong (item_addr row)) (item_kept heap reached) 0 0 rows (All-unmap IsAmong item_addr rows here)

  -- the blocks of a thing
  thing_kept : (addr : ℕ) (thing : Thing) → thing_at w addr ≡ Some thing → All IsKeptEntry (thing_entries (ties_of w) addr thing)
  thing_kept addr (things.Raw text) there = All-cons IsKeptEntry (addr, own_raw addr text) [] (raw_kept addr text) (All-nil IsKeptEntry)
  thing_kept addr (things.Text text) there =
      All-cons IsKeptEntry (addr, string_block text) [] (record { extent = refl; raw = refl; source = refl; named = refl; chained = refl }) (All-nil IsKeptEntry)
  thing_kept addr (things.List list) there =
      let rows = map element_row list.elements in
      let block = list_block list.user (length rows) (first_of addr_of 0 rows) (last_of addr_of 0 rows) in
      let stand = All-head (StandsAt heap) (addr, block) (elements_between addr 0 0 rows) (thing_stands heap w stands addr (things.List list) there) in
      let own = All-head IsReached (owners.List addr) [] (thing_reached addr (things.List list) block there stand.is) in
      let among = subst (λ (o : Option Thing). All IsAmong (map addr_of (elements_of o))) there own in
      All-cons IsKeptEntry (addr, block) (elements_between addr 0 0 rows) (list_kept heap reached addr list.user (length rows) (first_of addr_of 0 rows) (last_of addr_of 0 rows))
      (linked_kept heap reached addr_of (element_block addr) (λ row. IsAmong (addr_of row)) (element_kept heap reached addr) 0 0 rows (All-unmap IsAmong addr_of rows among))
  thing_kept addr (things.Table table) there =
      All-cons IsKeptEntry (addr, table_block (table_row table)) [] (record { extent = refl; raw = refl; source = refl; named = refl; chained = refl }) (All-nil IsKeptEntry)
  thing_kept addr (things.Hash hash) there =
      let inner = flat_map bucket_entries (map (bucket_row hash) (range_with_len 0 hash.buckets)) in
      let stand = All-head (StandsAt heap) (addr, hash_block (hash_row hash)) inner (thing_stands heap w stands addr (things.Hash hash) there) in
      All-cons IsKeptEntry (addr, hash_block (hash_row hash)) inner (record { extent = refl; raw = refl; source = refl; named = refl; chained = refl })
      (buckets_kept addr hash there (thing_reached addr (things.Hash hash) (hash_block (hash_row hash)) there stand.is))
  thing_kept addr (things.Source source) there =
      All-cons IsKeptEntry (addr, own_source addr source) [] (source_kept addr source there) (All-nil IsKeptEntry)
  thing_kept addr (things.Object z) there =
      let headers = map capsule_row z.headers in
      let extents = map extent_row z.extents in
      let trailers = map capsule_row z.trailers in
      let inner = capsule_entries headers ++ extent_entries extents ++ capsule_entries trailers in
      let block = object_block (object_row z) in
      let stand = All-head (StandsAt heap) (addr, block) inner (thing_stands heap w stands addr (things.Object z) there) in
      let all = thing_reached addr (things.Object z) block there stand.is in
      let later = All-tail IsReached (owners.Headers addr) (owners.Extents addr ∷ owners.Trailers addr ∷ []) all in
      let h = subst (λ (o : Option Thing). All IsAmong (map capsule_addr (headers_of o))) there
      (All-head IsReached (owners.Headers addr) (owners.Extents addr ∷ owners.Trailers addr ∷ []) all) in
      let t = subst (λ (o : Option Thing). All IsAmong (map capsule_addr (trailers_of o))) there
      (All-head IsReached (owners.Trailers addr) [] (All-tail IsReached (owners.Extents addr) (owners.Trailers addr ∷ []) later)) in
      All-cons IsKeptEntry (addr, block) inner (record { extent = refl; raw = refl; source = refl; named = refl; chained = refl })
      (All-append IsKeptEntry (capsule_entries headers ++ extent_entries extents) (capsule_entries trailers)
      (All-append IsKeptEntry (capsule_entries headers) (extent_entries extents) (capsules_kept headers h)
      (linked_kept heap reached extent_addr extent_block (IsGoodExtent heap reached) (extent_kept heap reached) 0 0 extents (extents_good addr z there all)))
      (capsules_kept trailers t))

  roots_reached : All IsReached root_owners
  roots_reached = All-left IsReached root_owners (flat_map (λ word. owned_at heap (8 * word)) (range_with_len 0 words)) all_reached

  queue_kept : (account : Acct) → IsReached (owners.Queue account) → All IsKeptEntry (queue_entries w.accounts account)
  queue_kept account among =
      let rows = map ticket_row (tickets_of w.accounts account) in
      linked_kept heap reached ticket_addr (ticket_block account) (λ row. IsAmong (ticket_addr row)) (ticket_kept heap reached account) 0 0 rows
      (All-unmap IsAmong ticket_addr rows among)

  others_kept : All IsKeptEntry (other_entries w)
  others_kept =
      let rows = map name_row w.names in
      let inbound = queue_entries w.accounts accts.Inbound in
      let outbound = queue_entries w.accounts accts.Outbound in
      let queues = All-tail IsReached owners.Catalogue (owners.Queue accts.Inbound ∷ owners.Queue accts.Outbound ∷ []) roots_reached in
      All-append IsKeptEntry (catalogue_entries rows) (inbound ++ outbound)
      (linked_kept heap reached name_addr name_block (λ row. IsAmong (name_addr row)) (name_kept heap reached) 0 0 rows
      (All-unmap IsAmong name_addr rows (All-head IsReached owners.Catalogue (owners.Queue accts.Inbound ∷ owners.Queue accts.Outbound ∷ []) roots_reached)))
      (All-append IsKeptEntry inbound outbound
      (queue_kept accts.Inbound (All-head IsReached (owners.Queue accts.Inbound) (owners.Queue accts.Outbound ∷ []) queues))
      (queue_kept accts.Outbound
      (All-head IsReached (owners.Queue accts.Outbound) [] (All-tail IsReached (owners.Queue accts.Inbound) (owners.Queue accts.Outbound ∷ []) queues))))

  all_kept : All IsKeptEntry (entries_of w)
  all_kept =
      All-append IsKeptEntry (section (thing_entries (ties_of w)) w.things) (other_entries w)
      (All-whole IsKeptEntry (λ (e : ℕ × Thing). thing_entries (ties_of w) e.0 e.1) (finite.entries w.things)
      (All-weaker (λ (e : ℕ × Thing). thing_at w e.0 ≡ Some e.1) (λ (e : ℕ × Thing). All IsKeptEntry (thing_entries (ties_of w) e.0 e.1))
      (λ e there. thing_kept e.0 e.1 there) (finite.entries w.things) (things_found w)))
      others_kept

  rule_kept : (rule : OwnerRule) (addr : ℕ) → keeps_owner_rule heap reached rule addr ≡ true
  rule_kept rule addr = by (heap.blocks addr) refl
    where
      by : (o : Option Block) → heap.blocks addr ≡ o → keeps_owner_rule heap reached rule addr ≡ true
      by None is = none_keeps heap reached rule addr is
      by (Some block) is =
          kept_keeps heap reached addr block is (found_at IsKeptEntry (entries_of w) all_kept addr block (sym (stands.same addr) ∙ is)) rule

  -- the audit passes
  pub world_owned : IsOwnedRegion bytes
  world_owned = record {
    reached = reached;
    chains = world_chains bytes w P region s;
    kept =
        (rule_kept which.SourceIsThere, (rule_kept which.RawIsThere, (rule_kept which.SourceNamesRaw, (rule_kept which.RawNamesSource, (rule_kept which.IsReached, tt)))));
  }
