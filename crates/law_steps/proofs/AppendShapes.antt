-- The shape of the row that appends an extent.
use Rattle.std.proofs.Common.{◌≡◌, ◌≤◌, ◌+◌, ◌==◌, ◌||◌, ℕ, List, [], ◌∷◌, Option, Some, None, length, nat_lt, refl, sym, ap, ◌∙◌, subst, arith, MatchOption}
use Rattle.std.specs.List.{sum_by}
use Rattle.std.proofs.lemmas.List.Sums.{sum_by-cons}
use Rattle.sdr_base.specs.declared.kind.Space.TheVariants as spaces
use Rattle.law_steps.proofs.Alike.{Alike, alike-with_thing}
use Rattle.law_steps.proofs.Changes.{Changes, blocks_at, thing_limits}
use Rattle.law_steps.proofs.ChargeShapes.{on_charges}
use Rattle.law_steps.proofs.ObjectLemmas.{valid_with_extent, with_extent-sum}
use Rattle.law_steps.proofs.ObjectShapes.{appends_source, in_range}
use Rattle.law_steps.proofs.Shapes.{Shape, does_with, on_addr, on_failed, on_none}
use Rattle.law_steps.proofs.SourceShapes.{valid_taken_over}
use Rattle.law_steps.proofs.ThingChanges.{nothing_there}
use Rattle.law_steps.proofs.ThingLemmas.{object_is, raw_is}
use Rattle.law_steps.proofs.WorldChanges.{builds, elsewhere, swapped, swapped_limits, swapped_sums, thing_at-apart}
use Rattle.law_steps.specs.Fresh.{AreFresh}
use Rattle.law_steps.specs.MovesBlocks.{given_addresses, taken_needs}
use Rattle.sdr_model.specs.Accounts.{ticket_blocks}
use Rattle.sdr_model.specs.Blocks.{addresses_of, blocks_of}
use Rattle.sdr_model.specs.Charges.{bytes_charge}
use Rattle.sdr_model.specs.ObjectSteps as object
use Rattle.sdr_model.specs.RowMoves.{append_moves}
use Rattle.sdr_model.specs.SourceSteps.{new_source}
use Rattle.sdr_model.specs.Step.{is_answer}
use Rattle.sdr_model.specs.Steps.{DoesWith, On, Outcome, taken_addresses, taken_at, with_thing}
use Rattle.sdr_model.specs.Things.{block_for_extent, own_block}
use Rattle.sdr_model.specs.World.{World, as_raw, thing_at}
use Rattle.sdr_model.specs.Zco.{object_at, source_at, source_naming}
use Rattle.sdr_model.specs.declared.answer.Reply.TheVariants as replies
use Rattle.sdr_model.specs.declared.call.Call.TheVariants as calls
use Rattle.sdr_model.specs.declared.things.Thing.TheVariants as things
use Rattle.sdr_model.specs.declared.zco.Extent.{Extent}
use Rattle.sdr_model.specs.declared.zco.Subject.TheVariants as subjects
use Rattle.sdr_model.specs.declared.zco.ZcoObject.{ZcoObject}
use Rattle.sdr_model.specs.declared.zco.ZcoSource.{ZcoSource}

-- what an append of a raw object goes on with where its charge is allowed
abbrev pub TakesOver : World → Outcome → ℕ → ZcoObject → ℕ → List ℕ → ℕ → ℕ → World → Type 0
TakesOver w o addr z raw text offset bytes used =
    DoesWith w o object.raw_append_moves
    (λ at. object.with_object
    (with_thing used (at 0) (things.Source (new_source (subjects.Heap raw) (length text)))) addr
    (object.with_extent z (record { block = at 1; source = at 0; offset = offset; length = bytes })))
    (λ at. replies.Done)

module _ {w : World} {o : Outcome} where
  -- a source and an extent of a raw object are made
  taken_over : (addr raw offset bytes : ℕ) (z : ZcoObject) (text : List ℕ) (used : World) → Alike w used
      → thing_at w addr ≡ Some (things.Object z) → thing_at w raw ≡ Some (things.Raw text) → 1 ≤ bytes
      → TakesOver w o addr z raw text offset bytes used → Changes w o
  taken_over addr raw offset bytes z text used like is there long d =
      let at = taken_at o.moves in
      let source = things.Source (new_source (subjects.Heap raw) (length text)) in
      let e : Extent = record { block = at 1; source = at 0; offset = offset; length = bytes } in
      let appended = things.Object (object.with_extent z e) in
      let mid = swapped w (at 0) (Some source) in
      let next = swapped mid addr (Some appended) in
      let same : Alike next (object.with_object (with_thing used (at 0) source) addr (object.with_extent z e)) =
      alike-with_thing addr appended (alike-with_thing (at 0) source like) in
      builds w o next (record {
        taken = own_block (at 0) source ∷ block_for_extent e ∷ [];
        given = [];
        answered = ap is_answer d.2;
        marks = ap (λ (v : World). v.marks) d.1;
        shown = ap (λ (v : World). v.shown) d.1;
        like = record {
          things = ap (λ (v : World). v.things) d.1 ∙ same.things;
          names = ap (λ (v : World). v.names) d.1 ∙ same.names;
          tickets = ap (λ (v : World). ticket_blocks v.accounts) d.1 ∙ same.tickets;
          marks = refl;
          taken = ap (λ (v : World). v.taken) d.1 ∙ same.taken;
        };
        counted = refl;
        needs = sym (ap taken_needs d.0);
        takes = sym (ap taken_addresses d.0);
        gives = sym (ap given_addresses d.0);
        sums = λ valid fresh measure.
            let none = nothing_there w (at 0) (subst (AreFresh (addresses_of (blocks_of w))) d.0 fresh).1 in
            let still = thing_at-apart w (at 0) (Some source) addr
            (elsewhere w addr (at 0) (things.Object z) is none) ∙ is in
            omega (
              arith,
              swapped_sums measure w (at 0) (Some source),
              swapped_sums measure mid addr (Some appended),
              ap (λ t. sum_by measure (blocks_at (at 0) t)) none,
              ap (λ t. sum_by measure (blocks_at addr t)) still,
              with_extent-sum measure addr z e,
              sum_by-cons measure (own_block (at 0) source) (block_for_extent e ∷ []),
              sum_by-cons measure (own_block (at 0) source) [],
              sum_by-cons measure (block_for_extent e) [],
            );
        limits = λ limits.
            swapped_limits mid addr (Some appended)
            (valid_with_extent z e long (thing_limits w addr (things.Object z) is limits))
            (swapped_limits w (at 0) (Some source)
            (valid_taken_over raw (length text) (thing_limits w raw (things.Raw text) there limits)) limits);
      })

  -- a raw object is appended
  appends_raw : (addr number named offset bytes : ℕ) (z : ZcoObject) (text : List ℕ) → object_at w addr ≡ Some z
      → source_at w named ≡ None → as_raw (thing_at w named) ≡ Some text
      → object.AppendsRaw w o addr z number named text offset bytes
      → Shape w (calls.AppendExtent addr number named offset bytes) o
  appends_raw addr number named offset bytes z text is no_source there h =
      on_none (source_naming w named) _ h (λ s. refl) (λ unnamed h.
      on_failed (bytes == 0 || nat_lt (length text) (offset + bytes)) _ h refl (λ ranged h.
      on_charges z.account number (bytes_charge spaces.Heap (length text)) (TakesOver w o addr z named text offset bytes) h
      (λ used like d.
      does_with object.raw_append_moves d.0 refl (λ at. ap (λ s. append_moves s at) no_source)
      (taken_over addr named offset bytes z text used like (object_is _ _ is) (raw_is _ _ there)
      (in_range offset bytes (length text) ranged).0 d))))

  pub append_extent : (addr number named offset bytes : ℕ) → object.AppendExtent w o addr number named offset bytes
      → Shape w (calls.AppendExtent addr number named offset bytes) o
  append_extent addr number named offset bytes h =
      on_addr addr (object_at w addr) h (λ z is h.
      by (source_at w named) refl z is h)
    where
      by : (s : Option ZcoSource) → source_at w named ≡ s → (z : ZcoObject) → object_at w addr ≡ Some z
          → MatchOption s
          (On w o named (as_raw (thing_at w named))
          (λ text. object.AppendsRaw w o addr z number named text offset bytes))
          (λ s. object.AppendsSource w o addr z number named s offset bytes)
          → Shape w (calls.AppendExtent addr number named offset bytes) o
      by None none z is h =
          on_addr named (as_raw (thing_at w named)) h
          (λ text there h. appends_raw addr number named offset bytes z text is none there h)
      by (Some s) some z is h = appends_source addr number named offset bytes z s is some h
