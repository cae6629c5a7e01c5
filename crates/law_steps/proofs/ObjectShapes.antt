-- The shapes of the rows that make an object, add to it, take from it and set its part.
use Rattle.std.proofs.Common.{◌≡◌, ◌≤◌, ◌+◌, ◌==◌, ◌||◌, ℕ, List, [], ◌∷◌, false, Option, Some, length, nat_lt, refl, ap, ◌∙◌, arith}
use Rattle.std.specs.List.{sum_by}
use Rattle.std.specs.Prelude.{slice_get}
use Rattle.std.proofs.lemmas.Bool.{eqb-false, ltb-false}
use Rattle.std.proofs.lemmas.List.Elements.{All-nil}
use Rattle.sdr_base.specs.declared.account.Acct.{Acct}
use Rattle.sdr_base.specs.declared.kind.Space.TheVariants as spaces
use Rattle.law_steps.proofs.AccountLemmas.{alike-served}
use Rattle.law_steps.proofs.Alike.{alike-with_thing, itself}
use Rattle.law_steps.proofs.ChargeShapes.{on_charges}
use Rattle.law_steps.proofs.HashShapes.{between, neither}
use Rattle.law_steps.proofs.ObjectLemmas.{valid_with_extent, valid_with_header, valid_with_trailer, valid_without_header, valid_without_trailer, with_extent-sum, with_header-sum, with_trailer-sum, without_header-sum, without_trailer-sum}
use Rattle.law_steps.proofs.Shapes.{Shape, does, on_addr, on_failed, on_some, reads_named, takes_one}
use Rattle.law_steps.proofs.ThingChanges.{gains, loses, makes, stays}
use Rattle.law_steps.proofs.ThingLemmas.{object_is}
use Rattle.sdr_model.specs.Amounts.{in_space}
use Rattle.sdr_model.specs.Blocks.{thing_blocks}
use Rattle.sdr_model.specs.Charges.{capsule_bytes, object_bytes, use_charge}
use Rattle.sdr_model.specs.Limits.{is_no_capsule, longest_capsule}
use Rattle.sdr_model.specs.ObjectSteps as object
use Rattle.sdr_model.specs.PartSteps as part
use Rattle.sdr_model.specs.Reading.{is_reading}
use Rattle.sdr_model.specs.RowMoves.{append_moves, block_of_capsule, first_header, last_trailer, row_moves, takes}
use Rattle.sdr_model.specs.Steps.{Outcome, Takes, gave}
use Rattle.sdr_model.specs.Things.{block_for_capsule, capsule_need, block_for_extent, extent_need, object_need}
use Rattle.sdr_model.specs.Valid.{IsValidCapsule, IsValidObject}
use Rattle.sdr_model.specs.World.{World, thing_at}
use Rattle.sdr_model.specs.Zco.{empty_object, extents_length, object_at, source_at}
use Rattle.sdr_model.specs.declared.answer.Reply.TheVariants as replies
use Rattle.sdr_model.specs.declared.call.Call.{Call}
use Rattle.sdr_model.specs.declared.call.Call.TheVariants as calls
use Rattle.sdr_model.specs.declared.things.UsedBlock.{UsedBlock}
use Rattle.sdr_model.specs.declared.things.Thing.TheVariants as things
use Rattle.sdr_model.specs.declared.zco.Capsule.{Capsule}
use Rattle.sdr_model.specs.declared.zco.Extent.{Extent}
use Rattle.sdr_model.specs.declared.zco.ZcoObject.{ZcoObject}
use Rattle.sdr_model.specs.declared.zco.ZcoSource.{ZcoSource}

-- an object with nothing in it
valid_empty : (acct : Acct) → IsValidObject (empty_object acct)
valid_empty acct = record { headers = All-nil _; trailers = All-nil _; extents = All-nil _; part = omega arith }

-- a range that isn't refused has a byte, and is within those that are there
pub in_range : (offset bytes have : ℕ) → (bytes == 0 || nat_lt have (offset + bytes)) ≡ false
    → (1 ≤ bytes) × (offset + bytes ≤ have)
in_range offset bytes have e =
    let both = neither (bytes == 0) (nat_lt have (offset + bytes)) e in
    (omega (arith, eqb-false bytes 0 both.0), ltb-false have (offset + bytes) both.1)

-- what a call goes on with where its charge is allowed: it makes an object, adds a header or trailer, or appends a part
abbrev pub Creates : World → Outcome → Acct → World → Type 0
Creates w o acct used =
    Takes w o object_need (λ addr. object.with_object used addr (empty_object acct)) (λ addr. replies.At addr)

abbrev pub AddsTo : World → Outcome → ℕ → ZcoObject → List ℕ → (ZcoObject → Capsule → ZcoObject) → World → Type 0
AddsTo w o addr z text with_capsule used =
    Takes w o (capsule_need (length text))
    (λ block. object.with_object used addr (with_capsule z (record { block = block; text = text })))
    (λ block. replies.Done)

abbrev pub AppendsTo : World → Outcome → ℕ → ZcoObject → ℕ → ℕ → ℕ → World → Type 0
AppendsTo w o addr z source offset bytes used =
    Takes w o extent_need
    (λ block. object.with_object used addr
    (object.with_extent z (record { block = block; source = source; offset = offset; length = bytes })))
    (λ block. replies.Done)

module _ {w : World} {o : Outcome} where
  pub create : (acct : Acct) (number : ℕ) → object.Create w o acct number → Shape w (calls.Create acct number) o
  create acct number h =
      on_charges acct number (in_space spaces.Heap object_bytes) (Creates w o acct) h (λ used like made.
      takes_one object_need _ made refl (λ at. refl)
      (makes object_need (things.Object (empty_object acct)) _ refl (λ a. refl) (λ a. refl)
      (λ limits. valid_empty acct) (λ a. alike-with_thing a (things.Object (empty_object acct)) like) made))

  -- a header or trailer is added
  adds_capsule : {call : Call} → is_reading call ≡ false → (addr number : ℕ) (text : List ℕ)
      → ((at : ℕ → ℕ) → row_moves w call at ≡ takes at (capsule_need (length text)))
      → (with_capsule : ZcoObject → Capsule → ZcoObject)
      → ((measure : UsedBlock → ℕ) (z : ZcoObject) (c : Capsule)
      → sum_by measure (thing_blocks addr (things.Object (with_capsule z c)))
      ≡ sum_by measure (thing_blocks addr (things.Object z)) + measure (block_for_capsule c))
      → ((z : ZcoObject) (c : Capsule) → IsValidCapsule c → IsValidObject z → IsValidObject (with_capsule z c))
      → object.AddsCapsule w o addr number text with_capsule → Shape w call o
  adds_capsule changing addr number text moves with_capsule sums valid h =
      on_addr addr (object_at w addr) h (λ z is h.
      on_failed (is_no_capsule (length text)) _ h refl (λ short h.
      on_charges z.account number (in_space spaces.Heap (capsule_bytes (length text)))
      (AddsTo w o addr z text with_capsule) h (λ used like made.
      let c : ℕ → Capsule = λ a. record { block = a; text = text } in
      takes_one (capsule_need (length text)) _ made changing moves
      (gains addr (capsule_need (length text)) (things.Object z) (λ a. things.Object (with_capsule z (c a)))
      (λ a. block_for_capsule (c a)) _ (object_is _ _ is)
      (λ a. alike-with_thing addr (things.Object (with_capsule z (c a))) like)
      (λ a. refl) (λ a. refl) (λ a. refl) made (λ a measure. sums measure z (c a))
      (λ a. valid z (c a) (between 1 longest_capsule (length text) short))))))

  pub prepend_header : (addr number : ℕ) (text : List ℕ) → object.PrependHeader w o addr number text
      → Shape w (calls.PrependHeader addr number text) o
  prepend_header addr number text h =
      adds_capsule refl addr number text (λ at. refl) object.with_header
      (λ measure z c. with_header-sum measure addr z c) valid_with_header h

  pub append_trailer : (addr number : ℕ) (text : List ℕ) → object.AppendTrailer w o addr number text
      → Shape w (calls.AppendTrailer addr number text) o
  append_trailer addr number text h =
      adds_capsule refl addr number text (λ at. refl) object.with_trailer
      (λ measure z c. with_trailer-sum measure addr z c) valid_with_trailer h

  -- a header or trailer goes
  discards : {call : Call} → is_reading call ≡ false → (addr : ℕ) (z after : ZcoObject) (capsule : Option Capsule)
      → thing_at w addr ≡ Some (things.Object z)
      → ((c : Capsule) → capsule ≡ Some c → (at : ℕ → ℕ) → row_moves w call at ≡ gave (c.block ∷ []))
      → ((c : Capsule) → capsule ≡ Some c → (measure : UsedBlock → ℕ)
      → sum_by measure (thing_blocks addr (things.Object after)) + measure (block_for_capsule c)
      ≡ sum_by measure (thing_blocks addr (things.Object z)))
      → (IsValidObject z → IsValidObject after) → object.Discards w o addr z capsule after → Shape w call o
  discards changing addr z after capsule is moves sums valid h =
      on_some capsule _ h refl (λ c there d.
      does d changing (moves c there)
      (loses addr (things.Object z) (things.Object after) (block_for_capsule c) is
      (alike-served (object.with_object w addr after) z.account) d (sums c there) valid))

  pub discard_first_header : (addr : ℕ) → object.DiscardFirstHeader w o addr
      → Shape w (calls.DiscardFirstHeader addr) o
  discard_first_header addr h =
      on_addr addr (object_at w addr) h (λ z is h.
      discards refl addr z (object.without_header z) (slice_get z.headers 0) (object_is _ _ is)
      (λ c there at. ap (λ z. gave (first_header z)) is ∙ ap (λ c. gave (block_of_capsule c)) there)
      (λ c there measure. without_header-sum measure addr z c there) (valid_without_header z) h)

  pub discard_last_trailer : (addr : ℕ) → object.DiscardLastTrailer w o addr
      → Shape w (calls.DiscardLastTrailer addr) o
  discard_last_trailer addr h =
      on_addr addr (object_at w addr) h (λ z is h.
      discards refl addr z (object.without_trailer z) (object.last_capsule z.trailers) (object_is _ _ is)
      (λ c there at. ap (λ z. gave (last_trailer z)) is ∙ ap (λ c. gave (block_of_capsule c)) there)
      (λ c there measure. without_trailer-sum measure addr z c there) (valid_without_trailer z) h)

  pub delimit : (addr offset bytes : ℕ) → part.Delimit w o addr offset bytes
      → Shape w (calls.Delimit addr offset bytes) o
  delimit addr offset bytes h =
      on_addr addr (object_at w addr) h (λ z is h.
      on_failed (nat_lt (extents_length z.extents) (offset + bytes)) _ h refl (λ inside d.
      let after : ZcoObject = record z { part = record { offset = offset; length = bytes } } in
      does d refl (λ at. refl)
      (stays addr (things.Object z) (things.Object after) (object_is _ _ is) itself d (λ valid. refl)
      (λ valid. record {
        headers = valid.headers;
        trailers = valid.trailers;
        extents = valid.extents;
        part = ltb-false _ _ inside;
      }))))

  pub zco_length : (addr : ℕ) → object.ZcoLength w o addr → Shape w (calls.ZcoLength addr) o
  zco_length addr h = reads_named addr (object_at w addr) _ _ h refl (λ z. refl) (λ at. refl) (λ b. refl)

  pub source_length : (addr : ℕ) → object.SourceLength w o addr → Shape w (calls.SourceLength addr) o
  source_length addr h = reads_named addr (object_at w addr) _ _ h refl (λ z. refl) (λ at. refl) (λ b. refl)

  -- a part of a source is appended
  pub appends_source : (addr number named offset bytes : ℕ) (z : ZcoObject) (s : ZcoSource)
      → object_at w addr ≡ Some z → source_at w named ≡ Some s
      → object.AppendsSource w o addr z number named s offset bytes
      → Shape w (calls.AppendExtent addr number named offset bytes) o
  appends_source addr number named offset bytes z s is there h =
      on_failed s.flagged _ h refl (λ free h.
      on_failed (bytes == 0 || nat_lt s.length (offset + bytes)) _ h refl (λ ranged h.
      on_charges z.account number (use_charge w z.account named s) (AppendsTo w o addr z named offset bytes) h
      (λ used like made.
      let e : ℕ → Extent = λ a. record { block = a; source = named; offset = offset; length = bytes } in
      takes_one extent_need _ made refl (λ at. ap (λ s. append_moves s at) there)
      (gains addr extent_need (things.Object z) (λ a. things.Object (object.with_extent z (e a)))
      (λ a. block_for_extent (e a)) _ (object_is _ _ is)
      (λ a. alike-with_thing addr (things.Object (object.with_extent z (e a))) like)
      (λ a. refl) (λ a. refl) (λ a. refl) made (λ a measure. with_extent-sum measure addr z (e a))
      (λ a. valid_with_extent z (e a) (in_range offset bytes s.length ranged).0)))))
