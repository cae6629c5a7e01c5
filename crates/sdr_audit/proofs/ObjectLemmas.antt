-- What is told of a zero-copy object, and of a source, is the object or source of the world.
use Rattle.std.proofs.Common.{◌≡◌, ◌≤◌, ◌<◌, ◌+◌, ◌/◌, ◌^◌, ◌==◌, ◌++◌, ℕ, List, [], ◌∷◌, map, length, get_or, Some, arith, refl, ap, ◌∙◌, subst}
use Rattle.std.specs.Prelude.{IfSome, Option}
use Rattle.std.specs.List.{All}
use Rattle.std.proofs.lemmas.List.{length-map}
use Rattle.std.proofs.lemmas.List.Elements.{All-cons, All-head, All-nil, All-tail}
use Rattle.std.proofs.lemmas.List.Sums.{sum_by-le}
use Rattle.sdr_base.specs.Blocks.{Block}
use Rattle.sdr_base.specs.Linked.{first_of, last_of}
use Rattle.sdr_base.specs.Pools.{Pools}
use Rattle.sdr_base.specs.Sources.{flag_word, medium_number}
use Rattle.sdr_base.specs.ZcoObjects.{CapsuleRow, ExtentRow, account_number, capsule_addr, capsule_block, capsule_entries, extent_addr, extent_block, extent_entries}
use Rattle.sdr_base.specs.declared.account.Acct.{Acct}
use Rattle.sdr_base.specs.declared.account.Acct.TheVariants as accts
use Rattle.sdr_base.specs.declared.kind.Kind.TheVariants as kinds
use Rattle.sdr_stands.specs.Rows.{capsule_row, extent_row, medium_of, path_of, subject_number}
use Rattle.sdr_stands.specs.Standing.{StandsForWhole}
use Rattle.sdr_stands.specs.Ties.{ties_of}
use Rattle.audit_owners.proofs.MembersLemmas.{length-followed}
use Rattle.sdr_model.specs.Fields.{FitsExtent, FitsSource, FitsSubject}
use Rattle.sdr_model.specs.Valid.{AreInside, IsValidThing, LiesInside}
use Rattle.sdr_model.specs.World.{World, thing_at}
use Rattle.sdr_model.specs.Zco.{as_source, extents_length, source_at}
use Rattle.sdr_model.specs.declared.things.Thing.{Thing}
use Rattle.sdr_model.specs.declared.things.Thing.TheVariants as things
use Rattle.sdr_model.specs.declared.zco.Capsule.{Capsule}
use Rattle.sdr_model.specs.declared.zco.Extent.{Extent}
use Rattle.sdr_model.specs.declared.zco.Subject.{Subject}
use Rattle.sdr_model.specs.declared.zco.Subject.TheVariants as subjects
use Rattle.sdr_model.specs.declared.zco.ZcoObject.{ZcoObject}
use Rattle.sdr_model.specs.declared.zco.ZcoSource.{ZcoSource}
use Rattle.audit_owners.proofs.LayoutLemmas.{word_laid}
use Rattle.audit_owners.specs.Chains as chains
use Rattle.audit_owners.specs.Linking.{AllStandAt, StandsAt}
use Rattle.audit_owners.specs.Reading.{behind_words}
use Rattle.audit_owners.specs.View.{View, view_in, word_of}
use Rattle.audit_owners.specs.declared.owner.Owner.TheVariants as owners
use Rattle.audit_world.proofs.SourceLemmas.{subject_by}
use Rattle.audit_world.specs.Told.{account_told, capsule_told, extent_told, object_told, source_told}
use Rattle.sdr_audit.proofs.MembersLemmas.{extent_members, header_members, region, trailer_members}
use Rattle.sdr_audit.proofs.ReadLemmas.{behind_laid, capsule_back, extent_back, flag_small, flag_told, told_rows}
use Rattle.sdr_audit.proofs.ToldStandLemmas.{inner_entries, inner_stand, own_stands}
use Rattle.sdr_audit.proofs.SoundStandLemmas.{All-every, All-left, All-right}
use Rattle.sdr_audit.proofs.WorldLemmas.{source_is}

account_small : (account : Acct) → account_number account < 2 ^ 64
account_small accts.Inbound = omega arith
account_small accts.Outbound = omega arith

account_back : (account : Acct) → account_told (account_number account) ≡ account
account_back accts.Inbound = refl
account_back accts.Outbound = refl

-- a subject is that of its numbers and its path
subject_back : (subject : Subject) → subject_by (medium_number (medium_of subject)) (subject_number subject) (path_of subject) ≡ subject
subject_back (subjects.File path) = refl
subject_back (subjects.Bulk item) = refl
subject_back (subjects.Heap raw) = refl
subject_back (subjects.Obj raw) = refl

medium_small : (subject : Subject) → medium_number (medium_of subject) < 2 ^ 64
medium_small (subjects.File path) = omega arith
medium_small (subjects.Bulk item) = omega arith
medium_small (subjects.Heap raw) = omega arith
medium_small (subjects.Obj raw) = omega arith

number_small : (subject : Subject) → FitsSubject subject → subject_number subject < 2 ^ 64
number_small (subjects.File path) fits = omega arith
number_small (subjects.Bulk item) fits = fits
number_small (subjects.Heap raw) fits = fits
number_small (subjects.Obj raw) fits = fits

-- an extent that lies inside a source is no longer than the longest
inside_few : (e : Extent) (o : Option Thing) → IfSome o IsValidThing → LiesInside e (as_source o) → e.length ≤ 2 ^ 40
inside_few e o valid inside =
    let there = source_is e o inside in
    let most = (subst (λ (o : Option Thing). IfSome o IsValidThing) there.1 valid).length in
    let within : e.offset + e.length ≤ there.0.length = subst (λ (o : Option Thing). LiesInside e (as_source o)) there.1 inside in
    omega (arith, most, within)

module _ (bytes : List ℕ) (w : World) (P : Pools) (s : StandsForWhole bytes w P) where
  abbrev heap : View
  heap = view_in bytes

  abbrev words : ℕ
  words = length bytes / 8

  module _ (addr : ℕ) (source : ZcoSource) (is : thing_at w addr ≡ Some (things.Source source)) (fits : FitsSource source) where
    abbrev source_words : List ℕ
    source_words =
        medium_number (medium_of source.subject) ∷ flag_word source.flagged ∷ (ties_of w).counts addr accts.Inbound
        ∷ (ties_of w).counts addr accts.Outbound
        ∷ subject_number source.subject ∷ source.length ∷ []

    -- a word of its block
    pub source_word : (n : ℕ) → n < 6 → get_or source_words n 0 < 2 ^ 64 → word_of (heap.blocks addr) n ≡ get_or source_words n 0
    source_word n less small =
        ap (λ (b : Option Block). word_of b n) (own_stands heap w s.stands.blocks addr (things.Source source) is)
        ∙ word_laid kinds.Source source_words (path_of source.subject) n less small

    pub source_told_is : source_told (heap.blocks addr) ≡ source
    source_told_is =
        let path =
        ap (λ (b : Option Block). behind_words b 6) (own_stands heap w s.stands.blocks addr (things.Source source) is)
        ∙ behind_laid kinds.Source source_words (path_of source.subject) 6 refl in
        let medium = source_word 0 (omega arith) (medium_small source.subject) in
        let number = source_word 4 (omega arith) (number_small source.subject fits.subject) in
        let subject = (λ i. subject_by (medium i) (number i) (path i)) ∙ subject_back source.subject in
        let count = source_word 5 (omega arith) fits.length in
        let flag = ap (λ (n : ℕ). n == 1) (source_word 1 (omega arith) (flag_small source.flagged)) ∙ flag_told source.flagged in
        λ i. record { subject = subject i; length = count i; flagged = flag i }

  capsules_are : (cs : List Capsule) → AllStandAt heap (capsule_entries (map capsule_row cs)) →
      map (capsule_told heap) (map capsule_addr (map capsule_row cs)) ≡ cs
  capsules_are cs stand =
      told_rows heap capsule_addr capsule_block capsule_row (capsule_told heap) (λ c. Unit {0})
      (λ before next c fit there. capsule_back heap before next c there) 0 0 cs
      (All-every (λ c. Unit {0}) (λ c. tt) cs) stand

  module _ (addr : ℕ) (z : ZcoObject) (is : thing_at w addr ≡ Some (things.Object z)) where
    abbrev headers : List CapsuleRow
    headers = map capsule_row z.headers

    abbrev extents : List ExtentRow
    extents = map extent_row z.extents

    abbrev trailers : List CapsuleRow
    trailers = map capsule_row z.trailers

    -- its extents are so few that their bytes fit a word
    extents_few : extents_length z.extents ≤ 2 ^ 62
    extents_few =
        let inside : AreInside w (things.Object z) = subst (λ (o : Option Thing). IfSome o (AreInside w)) is (s.whole.fits.inside addr) in
        let sum = sum_by-le (λ (e : Extent). e.length) (2 ^ 40) z.extents (each z.extents inside) in
        let count = length-followed heap (owners.Extents addr) words (chains.first_link heap (owners.Extents addr)) in
        let many =
        ap (λ (l : List ℕ). length l) (extent_members bytes w P s addr z is) ∙ length-map (map extent_row z.extents) extent_addr
        ∙ length-map z.extents extent_row in
        let lines = (region bytes w P s).whole in
        let most = (region bytes w P s).most in
        omega (arith, sum, count, many, lines, most)
      where
        each : (es : List Extent) → All (λ (e : Extent). LiesInside e (source_at w e.source)) es →
            All (λ (e : Extent). e.length ≤ 2 ^ 40) es
        each [] inside = All-nil (λ (e : Extent). e.length ≤ 2 ^ 40)
        each (e ∷ es) inside =
            All-cons (λ (e : Extent). e.length ≤ 2 ^ 40) e es
            (inside_few e (thing_at w e.source) (s.whole.valid.things e.source)
            (All-head (λ (e : Extent). LiesInside e (source_at w e.source)) e es inside))
            (each es (All-tail (λ (e : Extent). LiesInside e (source_at w e.source)) e es inside))

    abbrev object_words : List ℕ
    object_words =
        account_number z.account ∷ first_of extent_addr 0 extents ∷ last_of extent_addr 0 extents ∷ first_of capsule_addr 0 headers
        ∷ last_of capsule_addr 0 headers ∷ first_of capsule_addr 0 trailers ∷ last_of capsule_addr 0 trailers ∷ z.part.offset
        ∷ z.part.length ∷ []

    -- a word of its block
    pub object_word : (n : ℕ) → n < 9 → get_or object_words n 0 < 2 ^ 64 → word_of (heap.blocks addr) n ≡ get_or object_words n 0
    object_word n less small =
        ap (λ (b : Option Block). word_of b n) (own_stands heap w s.stands.blocks addr (things.Object z) is)
        ∙ word_laid kinds.Object object_words [] n less small

    inside_stand : AllStandAt heap (inner_entries addr (things.Object z))
    inside_stand = inner_stand heap w s.stands.blocks addr (things.Object z) is

    two_stand : AllStandAt heap (capsule_entries headers ++ extent_entries extents)
    two_stand = All-left (StandsAt heap) (capsule_entries headers ++ extent_entries extents) (capsule_entries trailers) inside_stand

    pub object_is : IsValidThing (things.Object z) → All FitsExtent z.extents → object_told heap words addr ≡ z
    object_is valid fits =
        let few = extents_few in
        let part = valid.part in
        let account = ap account_told (object_word 0 (omega arith) (account_small z.account)) ∙ account_back z.account in
        let heads =
        ap (map (capsule_told heap)) (header_members bytes w P s addr z is)
        ∙ capsules_are z.headers (All-left (StandsAt heap) (capsule_entries headers) (extent_entries extents) two_stand) in
        let pieces =
        ap (map (extent_told heap)) (extent_members bytes w P s addr z is)
        ∙ told_rows heap extent_addr extent_block extent_row (extent_told heap) FitsExtent (extent_back heap) 0 0 z.extents fits
        (All-right (StandsAt heap) (capsule_entries headers) (extent_entries extents) two_stand) in
        let tails =
        ap (map (capsule_told heap)) (trailer_members bytes w P s addr z is)
        ∙ capsules_are z.trailers
        (All-right (StandsAt heap) (capsule_entries headers ++ extent_entries extents) (capsule_entries trailers) inside_stand) in
        let offset = object_word 7 (omega arith) (omega (arith, few, part)) in
        let count = object_word 8 (omega arith) (omega (arith, few, part)) in
        λ i. record {
          account = account i;
          headers = heads i;
          extents = pieces i;
          trailers = tails i;
          part = record { offset = offset i; length = count i };
        }
