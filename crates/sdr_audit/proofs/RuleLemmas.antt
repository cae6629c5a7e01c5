-- Sources, extents and objects of a heap that keeps a world keep the rules of one another.
use Rattle.std.proofs.Common.{◌≡◌, ◌≤◌, ◌+◌, ◌-◌, ◌/◌, ◌==◌, ◌&&◌, ◌||◌, ℕ, Bool, true, false, not, List, [], ◌∷◌, length, Some, sum_by, arith, refl, sym, ap, ◌∙◌, subst, inl, inr}
use Rattle.std.specs.Prelude.{IfSome, Option, is_some}
use Rattle.std.proofs.Math.Bool.{or_assoc}
use Rattle.std.proofs.lemmas.Bool.{and_parts, cases_eq, eq-eqb, eqb-true, le-leb, ne_eqb, or_cases, or_left, or_right}
use Rattle.sdr_base.proofs.LayoutLemmas.{length-layout}
use Rattle.sdr_base.specs.Pools.{Pools}
use Rattle.sdr_base.specs.Sources.{flag_word}
use Rattle.sdr_base.specs.declared.account.Acct.TheVariants as accts
use Rattle.sdr_base.specs.declared.kind.Kind.TheVariants as kinds
use Rattle.sdr_stands.specs.Standing.{StandsForWhole}
use Rattle.sdr_stands.specs.Ties.{ties_of}
use Rattle.audit_counts.specs.Rules.{covers_part, extent_length, has_raw_length, has_taken, is_flagged, is_unflagged, has_extent_if_passing, keeps_count_rule}
use Rattle.audit_counts.specs.declared.rules.CountRule.{CountRule}
use Rattle.audit_counts.specs.declared.rules.CountRule.TheVariants as which
use Rattle.audit_owners.specs.Members.{members}
use Rattle.sdr_model.proofs.SumLemmas.{sum_by-map}
use Rattle.sdr_model.specs.Gone.{is_passing}
use Rattle.sdr_model.specs.Valid.{HasBytes, HasSubject, HasExtentIfPassing}
use Rattle.sdr_model.specs.World.{World, as_raw, thing_at}
use Rattle.sdr_model.specs.Zco.{as_source, owned_raw, taken_over}
use Rattle.sdr_model.specs.declared.things.Thing.{Thing}
use Rattle.sdr_model.specs.declared.things.Thing.TheVariants as things
use Rattle.sdr_model.specs.declared.zco.Extent.{Extent}
use Rattle.sdr_model.specs.declared.zco.ZcoSource.{ZcoSource}
use Rattle.audit_owners.specs.Owned.{AreBytes}
use Rattle.audit_owners.specs.Reading.{behind_words}
use Rattle.audit_owners.specs.Rules.{is_source_of_raw}
use Rattle.audit_owners.specs.View.{View, is_kind, length_of, view_in, word_of}
use Rattle.audit_owners.specs.declared.owner.Owner.TheVariants as owners
use Rattle.audit_world.proofs.SourceLemmas.{subject_by}
use Rattle.audit_world.specs.Told.{extent_told, object_told, source_told}
use Rattle.sdr_audit.proofs.CountLemmas.{count_told, thing_there, where_so}
use Rattle.sdr_audit.proofs.ExtentLemmas.{all_inside, bytes_had}
use Rattle.sdr_audit.proofs.ObjectLemmas.{source_word}
use Rattle.sdr_audit.proofs.ReadLemmas.{flag_small}
use Rattle.sdr_audit.proofs.ToldStandLemmas.{own_stands}
use Rattle.sdr_audit.proofs.ThingLemmas.{fits_thing, valid_thing}
use Rattle.sdr_audit.proofs.WorldLemmas.{raw_is}

-- a subject of a raw object has that
raw_subject : (w : World) (medium number : ℕ) (path : List ℕ) (n : ℕ) → (medium == 3 || medium == 4) ≡ true →
    HasSubject w n (subject_by medium number path) →
    HasBytes n (as_raw (thing_at w number))
raw_subject w medium number path n on has =
    elim (or_cases (medium == 3) (medium == 4) on) [
      | inl is ↦ subst (λ (m : ℕ). HasSubject w n (subject_by m number path)) (eqb-true medium 3 is) has
      | inr is ↦ subst (λ (m : ℕ). HasSubject w n (subject_by m number path)) (eqb-true medium 4 is) has
    ]

-- one of an owned raw object is one that was taken over
taken : (medium number : ℕ) (path : List ℕ) → (medium == 3) ≡ true → is_some (taken_over (subject_by medium number path)) ≡ true
taken medium number path is = subst (λ (m : ℕ). is_some (taken_over (subject_by m number path)) ≡ true) (sym (eqb-true medium 3 is)) refl

-- of two numbers that aren't both 0 one isn't
one_some : (a b : ℕ) → 1 ≤ a + b → (not (a == 0) || not (b == 0)) ≡ true
one_some a b some = elim (cases_eq a 0) [
  | inr off ↦ or_left (not (a == 0)) (not (b == 0)) (ap not (ne_eqb a 0 off))
  | inl null ↦ or_right (not (a == 0)) (not (b == 0)) (ap not (ne_eqb b 0 (λ zero. omega (arith, some, null, zero))))
]

-- a flag that isn't 0 is set
flag_set : (flag : Bool) → not (flag_word flag == 0) ≡ true → flag ≡ true
flag_set true on = refl
flag_set false on = let d : false ≡ true = on in cc

never_both : (t : Bool) → not (t && false) ≡ true
never_both true = refl
never_both false = refl

module _ (bytes : List ℕ) (w : World) (P : Pools) (s : StandsForWhole bytes w P) (are : AreBytes bytes) where
  abbrev heap : View
  heap = view_in bytes

  abbrev words : ℕ
  words = length bytes / 8

  -- a source of the world, where a block of one stands
  abbrev source : ℕ → ZcoSource
  source addr = source_told (heap.blocks addr)

  source_there : (addr : ℕ) → is_kind kinds.Source (heap.blocks addr) ≡ true → thing_at w addr ≡ Some (things.Source (source addr))
  source_there addr is = thing_there bytes w P s are kinds.Source addr is

  -- a source of a raw object has its length
  raw_lengths : (addr : ℕ) → has_raw_length heap addr ≡ true
  raw_lengths addr =
      where_so (is_source_of_raw (heap.blocks addr)) _ (λ on.
      let p =
      and_parts (is_kind kinds.Source (heap.blocks addr)) (word_of (heap.blocks addr) 0 == 3 || word_of (heap.blocks addr) 0 == 4) on in
      let there = source_there addr p.0 in
      let has =
      subst (λ (o : Option Thing). IfSome (as_source o) (λ source. HasSubject w source.length source.subject)) there
      (s.whole.fits.subjects addr) in
      let held =
      raw_subject w (word_of (heap.blocks addr) 0) (word_of (heap.blocks addr) 4) (behind_words (heap.blocks addr) 6)
      (word_of (heap.blocks addr) 5) p.1 has in
      let raw = raw_is (word_of (heap.blocks addr) 5) (thing_at w (word_of (heap.blocks addr) 4)) held in
      let long : length raw.0 ≡ word_of (heap.blocks addr) 5 =
      subst (λ (o : Option Thing). HasBytes (word_of (heap.blocks addr) 5) (as_raw o)) raw.1 held in
      let own = ap length_of (own_stands heap w s.stands.blocks (word_of (heap.blocks addr) 4) (things.Raw raw.0) raw.1) in
      let laid = length-layout ((ties_of w).named_by (word_of (heap.blocks addr) 4) ∷ []) raw.0 in
      eq-eqb (word_of (heap.blocks addr) 5) (length_of (heap.blocks (word_of (heap.blocks addr) 4)) - 8) (omega (arith, long, own, laid)))

  -- the part of an object lies inside its extents
  parts_covered : (addr : ℕ) → covers_part heap words addr ≡ true
  parts_covered addr =
      where_so (is_kind kinds.Object (heap.blocks addr)) _ (λ is.
      let there = thing_there bytes w P s are kinds.Object addr is in
      let part = (valid_thing bytes w P s addr (things.Object (object_told heap words addr)) there).part in
      let sum = sum_by-map (λ (e : Extent). e.length) (extent_told heap) (members heap words (owners.Extents addr)) in
      le-leb (word_of (heap.blocks addr) 7 + word_of (heap.blocks addr) 8)
      (sum_by (extent_length heap) (members heap words (owners.Extents addr)))
      (omega (arith, part, sum)))

  -- the flag of a source
  flag_is : (addr : ℕ) → is_kind kinds.Source (heap.blocks addr) ≡ true → word_of (heap.blocks addr) 1 ≡ flag_word (source addr).flagged
  flag_is addr is =
      let there = source_there addr is in
      source_word bytes w P s addr (source addr) there (fits_thing bytes w P s addr (things.Source (source addr)) there).1 1 (omega arith)
      (flag_small (source addr).flagged)

  -- a source of one that is flagged, or has taken over a raw object, goes with its last extent
  record IsPassing (addr : ℕ) : Type 0 where
    kind : is_kind kinds.Source (heap.blocks addr) ≡ true
    passing : is_passing (source addr) ≡ true

  flagged_passing : (addr : ℕ) → is_flagged heap addr ≡ true → IsPassing addr
  flagged_passing addr on =
      let p = and_parts (is_kind kinds.Source (heap.blocks addr)) (not (word_of (heap.blocks addr) 1 == 0)) on in
      let set = flag_set (source addr).flagged (ap (λ (n : ℕ). not (n == 0)) (sym (flag_is addr p.0)) ∙ p.1) in
      record { kind = p.0; passing = or_right (is_some (owned_raw (source addr))) (source addr).flagged set }

  taken_passing : (addr : ℕ) → has_taken heap addr ≡ true → IsPassing addr
  taken_passing addr on =
      let p = and_parts (is_kind kinds.Source (heap.blocks addr)) (word_of (heap.blocks addr) 0 == 3) on in
      record {
        kind = p.0;
        passing =
            or_left (is_some (owned_raw (source addr))) (source addr).flagged
            (taken (word_of (heap.blocks addr) 0) (word_of (heap.blocks addr) 4) (behind_words (heap.blocks addr) 6) p.1);
      }

  passing : (addr : ℕ) → (is_flagged heap addr || has_taken heap addr) ≡ true → IsPassing addr
  passing addr on = elim (or_cases (is_flagged heap addr) (has_taken heap addr) on) [
    | inl is ↦ flagged_passing addr is
    | inr is ↦ taken_passing addr is
  ]

  -- and has one
  sources_used : (addr : ℕ) → has_extent_if_passing heap addr ≡ true
  sources_used addr =
      or_assoc (not (is_flagged heap addr || has_taken heap addr)) (not (word_of (heap.blocks addr) 2 == 0))
      (not (word_of (heap.blocks addr) 3 == 0))
      ∙ where_so (is_flagged heap addr || has_taken heap addr) _ (λ on.
      let p = passing addr on in
      let there = source_there addr p.kind in
      let used = subst (λ (o : Option Thing). IfSome (as_source o) (HasExtentIfPassing w addr)) there (s.whole.fits.used addr) p.passing in
      let inbound = count_told bytes w P s are addr (source addr) there accts.Inbound in
      let outbound = count_told bytes w P s are addr (source addr) there accts.Outbound in
      one_some (word_of (heap.blocks addr) 2) (word_of (heap.blocks addr) 3) (omega (arith, used, inbound, outbound)))

  -- one that has taken over a raw object isn't flagged
  sources_unflagged : (addr : ℕ) → is_unflagged heap addr ≡ true
  sources_unflagged addr =
      where_so (has_taken heap addr) _ (λ on.
      let p = and_parts (is_kind kinds.Source (heap.blocks addr)) (word_of (heap.blocks addr) 0 == 3) on in
      let there = source_there addr p.0 in
      let off =
      (valid_thing bytes w P s addr (things.Source (source addr)) there).unflagged
      (taken (word_of (heap.blocks addr) 0) (word_of (heap.blocks addr) 4) (behind_words (heap.blocks addr) 6) p.1) in
      let null = flag_is addr p.0 ∙ ap flag_word off in
      ap (λ (n : ℕ). not (is_kind kinds.Source (heap.blocks addr) && not (n == 0))) null
      ∙ never_both (is_kind kinds.Source (heap.blocks addr)))

  -- each block keeps each rule
  pub rules_kept : (rule : CountRule) (addr : ℕ) → keeps_count_rule heap words rule addr ≡ true
  rules_kept which.RawLength addr = raw_lengths addr
  rules_kept which.Inside addr = all_inside bytes w P s addr
  rules_kept which.Part addr = parts_covered addr
  rules_kept which.Bytes addr = bytes_had bytes w P s addr
  rules_kept which.Used addr = sources_used addr
  rules_kept which.Unflagged addr = sources_unflagged addr
