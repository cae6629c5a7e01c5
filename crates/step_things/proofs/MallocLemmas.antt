-- A raw object that is made, as a step.
use Rattle.std.proofs.Common.{◌≡◌, ◌∙◌, ◌≤◌, ◌+◌, ℕ, List, [], ◌∷◌, true, false, inl, refl, sym, ap, subst, arith, nat_lt}
use Rattle.std.specs.Prelude.{replicate}
use Rattle.std.proofs.lemmas.Bool.Decides.{nat_tests}
use Rattle.sdr_stands.proofs.ChangeLemmas.{nothing_at}
use Rattle.sdr_stands.specs.Standing.{HeapStandsFor, with_taken_marked}
use Rattle.sdr_stands.specs.Ties.{or_null, ties_of}
use Rattle.sdr_base.specs.Making.{MakesThing}
use Rattle.sdr_base.specs.Objects.{Heap}
use Rattle.sdr_base.specs.Raws.{raw_entries}
use Rattle.sdr_base.specs.declared.moves.Move.TheVariants.{Took}
use Rattle.sdr_base.specs.declared.refusal.Refusal.{Refusal}
use Rattle.sdr_base.specs.declared.refusal.Refusal.TheVariants as refusals
use Rattle.sdr_base.specs.declared.stop.Stop.TheVariants as stops
use Rattle.sdr_heap.specs.Raw.{MallocStops, MakesRaw}
use Rattle.sdr_machine.proofs.WorkLemmas.{on_false, on_true}
use Rattle.sdr_model.specs.Limits.{longest_raw}
use Rattle.sdr_model.specs.Rows.{ByRow}
use Rattle.sdr_model.specs.Steps.{Outcome, with_thing}
use Rattle.sdr_model.specs.Things.{raw_need}
use Rattle.sdr_model.specs.Whole.{IsWhole}
use Rattle.sdr_model.specs.World.{World}
use Rattle.sdr_model.specs.declared.answer.Reply.TheVariants as replies
use Rattle.sdr_model.specs.declared.call.Call.TheVariants as calls
use Rattle.sdr_model.specs.declared.things.Thing.TheVariants as things
use Rattle.step_things.proofs.EntryLemmas.{none_named}
use Rattle.step_things.proofs.RawLemmas.{zeros_made}
use Rattle.step_things.proofs.RowLemmas.{short_refused, thing_made}
use Rattle.step_things.specs.Answering.{Answered, IsRefused}

-- a raw object of zeros was made at an address
abbrev pub malloc_outcome : World → ℕ → ℕ → Outcome
malloc_outcome w bytes addr = record {
  moves = Took (raw_need bytes) addr ∷ [];
  after = with_taken_marked (with_thing w addr (things.Raw (replicate bytes 0))) (Took (raw_need bytes) addr ∷ []);
  reply = replies.At addr;
}

-- the row of an object that isn't too long
pub malloc_row : (w : World) (bytes addr : ℕ) → bytes ≤ longest_raw → ByRow w (malloc_outcome w bytes addr) (calls.Malloc bytes)
malloc_row w bytes addr short =
    let fits : nat_lt longest_raw bytes ≡ false = grind (arith, nat_tests, short) in
    on_false _ _ _ fits (refl, (refl, refl))

-- a raw object was made
pub malloc_answered : (bytes addr : ℕ) (old new : Heap) (w : World) → old.moves ≡ [] → MakesRaw bytes addr old new
    → HeapStandsFor old w → IsWhole w → Answered w (calls.Malloc bytes) new [] (replies.At addr)
malloc_answered bytes addr old new w unmoved makes stands whole =
    let t = makes.taken in
    let unnamed : 0 ≡ (ties_of w).named_by addr =
    sym (ap or_null (none_named w addr whole.fits (nothing_at addr stands t.fresh))) in
    thing_made w (calls.Malloc bytes) (raw_need bytes) addr (things.Raw (replicate bytes 0)) old new unmoved stands whole.valid tt
    (subst (λ (named : ℕ). MakesThing (8 + bytes) addr (raw_entries addr named (replicate bytes 0)) old new) unnamed
    (zeros_made bytes addr old new t))
    (malloc_row w bytes addr makes.short)

-- a raw object wasn't made
pub malloc_refused : (bytes : ℕ) (old new : Heap) (w : World) (was : List ℕ) (refusal : Refusal) → old.moves ≡ []
    → MallocStops bytes old new (stops.Refused refusal) → IsRefused w (calls.Malloc bytes) old new was was refusal
malloc_refused bytes old new w was (refusals.BadLength length most) unmoved s = record {
  step =
      let long : nat_lt longest_raw bytes ≡ true = grind (arith, nat_tests, s.2) in
      inl (on_true _ _ _ long (
        ap (λ (h : Heap). h.moves) s.3 ∙ unmoved,
        refl,
        λ i. replies.Refused
            (refusals.BadLength (s.0 i) (s.1 i)),
      ));
  left = λ reads. s.3;
  gave = refl;
}
malloc_refused bytes old new w was refusal unmoved s =
    short_refused w (calls.Malloc bytes) (raw_need bytes) old new was refusal refl
    (record { after = _; reply = _; row = malloc_row w bytes 0 s.0; answered = refl }) unmoved s.1
