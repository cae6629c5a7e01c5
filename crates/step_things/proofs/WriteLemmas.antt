-- A write into a raw object, as a step.
use Rattle.std.proofs.Common.{◌≡◌, ◌∙◌, ◌+◌, ℕ, List, [], ◌++◌, true, false, true≢false, inl, Some, refl, sym, ap, subst, arith, length, nat_lt}
use Rattle.std.proofs.lemmas.Bool.Decides.{nat_tests}
use Rattle.sdr_stands.specs.Standing.{HeapStandsFor, with_taken_marked}
use Rattle.sdr_stands.specs.Ties.{ties_of}
use Rattle.sdr_base.proofs.StandingLemmas.{written_at}
use Rattle.sdr_base.specs.Blocks as base
use Rattle.sdr_base.specs.Blocks.{IsKind, overwritten, with_block}
use Rattle.sdr_base.specs.Entries.{Changes, BlocksAre}
use Rattle.sdr_base.specs.Making.{besides}
use Rattle.sdr_base.specs.Objects.{Heap, with_bytes}
use Rattle.sdr_base.specs.Parts.{overwrite}
use Rattle.sdr_base.specs.Raws.{raw_block, raw_entries}
use Rattle.sdr_base.specs.declared.kind.Kind.TheVariants as kinds
use Rattle.sdr_base.specs.declared.refusal.Refusal.{Refusal}
use Rattle.sdr_base.specs.declared.refusal.Refusal.TheVariants as refusals
use Rattle.sdr_base.specs.declared.stop.Stop.TheVariants as stops
use Rattle.sdr_heap.specs.Raw.{HasRoom, WriteStops, WritesRaw}
use Rattle.sdr_machine.proofs.WorkLemmas.{on_false, on_true}
use Rattle.sdr_model.specs.Rows.{ByRow}
use Rattle.sdr_model.specs.Steps.{Outcome, with_thing}
use Rattle.sdr_model.specs.Whole.{IsWhole}
use Rattle.sdr_model.specs.World.{World}
use Rattle.sdr_model.specs.declared.answer.Reply.TheVariants as replies
use Rattle.sdr_model.specs.declared.call.Call.TheVariants as calls
use Rattle.sdr_model.specs.declared.things.Thing.TheVariants as things
use Rattle.step_things.proofs.RawLemmas.{IsRawAt, overwrite_raw, raw_is_at}
use Rattle.step_things.proofs.ReadingLemmas.{misses, no_room_in, on_raw, raw_missed, room_in}
use Rattle.step_things.proofs.RowLemmas.{marks_none, moved_nothing, row_refused, thing_changed}
use Rattle.step_things.specs.Answering.{Answered, IsRefused}

-- bytes were written into a raw object
abbrev pub write_outcome : World → ℕ → ℕ → List ℕ → List ℕ → Outcome
write_outcome w addr place from bytes =
    record {
      moves =
          [];
      after = with_taken_marked (with_thing w addr (things.Raw (overwrite place from bytes))) [];
      reply = replies.Done;
    }

-- the row of a write that fits a marked raw object
pub write_row : (heap : Heap) (w : World) (addr place : ℕ) (from : List ℕ) (r : IsRawAt heap w addr) → HeapStandsFor heap w
    → HasRoom (heap.blocks addr) (place + length from) → heap.marks addr ≡ true
    → ByRow w (write_outcome w addr place from r.bytes) (calls.Write addr place from)
write_row heap w addr place from r s room marked =
    let fits = room_in heap w addr (place + length from) r room in
    let inside : nat_lt (length r.bytes) (place + length from) ≡ false = grind (arith, nat_tests, fits) in
    on_raw w (write_outcome w addr place from r.bytes) addr r.bytes _ r.there
    (on_false _ _ _ inside (on_true _ _ _ (sym (s.marks addr) ∙ marked)
    (refl, marks_none (with_thing w addr (things.Raw (overwrite place from r.bytes))) [] refl, refl)))

-- the block of a raw object becomes that of one with other bytes
raw_changes : (heap new : Heap) (w : World) (addr place : ℕ) (from : List ℕ) (r : IsRawAt heap w addr)
    → new ≡ with_bytes heap addr (8 + place) from
    → Changes heap.blocks new.blocks (raw_entries addr ((ties_of w).named_by addr) r.bytes)
    (raw_entries addr ((ties_of w).named_by addr) (overwrite place from r.bytes))
raw_changes heap new w addr place from r is =
    let named = (ties_of w).named_by addr in
    let becomes : overwritten (heap.blocks addr) (8 + place) from ≡ Some (raw_block named (overwrite place from r.bytes)) =
    ap (λ found. overwritten found (8 + place) from) r.block
    ∙ ap (λ (bytes : List ℕ). Some (record { kind = kinds.Raw; bytes = bytes })) (overwrite_raw named place from r.bytes) in
    record {
      kept = λ rest s.
          subst (λ (b : base.Blocks). BlocksAre b (raw_entries addr named (overwrite place from r.bytes) ++ rest))
          (ap (λ o. with_block heap.blocks addr o) (sym becomes) ∙ sym (ap (λ (h : Heap). h.blocks) is))
          (written_at heap.blocks addr (raw_block named r.bytes) (raw_block named (overwrite place from r.bytes)) [] rest s);
    }

-- bytes were written
pub write_answered : (addr place : ℕ) (from : List ℕ) (old new : Heap) (w : World) → old.moves ≡ []
    → WritesRaw addr place from old new
    → HeapStandsFor old w → IsWhole w → Answered w (calls.Write addr place from) new [] replies.Done
write_answered addr place from old new w unmoved writes s whole =
    let r = raw_is_at old w addr s whole.valid writes.raw in
    thing_changed w (calls.Write addr place from) addr (things.Raw r.bytes) (things.Raw (overwrite place from r.bytes)) []
    replies.Done old new r.there tt tt s
    (moved_nothing w old new unmoved (ap besides writes.written)) (raw_changes old new w addr place from r writes.written)
    (write_row old w addr place from r s writes.inside writes.marked) refl

-- why bytes weren't written
pub write_refused : (addr place : ℕ) (from : List ℕ) (old new : Heap) (w : World) (was : List ℕ) (refusal : Refusal)
    → old.moves ≡ []
    → HeapStandsFor old w → IsWhole w → WriteStops (old.blocks addr) addr place (length from) old new (stops.Refused refusal)
    → IsRefused w (calls.Write addr place from) old new was was refusal
write_refused addr place from old new w was (refusals.OutOfBounds bad at asked) unmoved s whole m = record {
  step =
      let r = raw_is_at old w addr s whole.valid m.4 in
      let above = no_room_in old w addr (place + length from) r m.3 in
      let outside : nat_lt (length r.bytes) (place + length from) ≡ true = grind (arith, nat_tests, above) in
      let row = on_raw w (record { moves = []; after = w; reply = replies.Refused (refusals.OutOfBounds bad at asked) }) addr
      r.bytes _ r.there
      (on_true _ _ _ outside (refl, refl, λ i. replies.Refused (refusals.OutOfBounds (m.0 i) (m.1 i) (m.2 i)))) in
      inl (row_refused w (calls.Write addr place from) new (refusals.OutOfBounds bad at asked)
      (ap (λ (h : Heap). h.moves) m.5 ∙ unmoved) row);
  left = λ reads. m.5;
  gave = refl;
}
write_refused addr place from old new w was (refusals.NotStaged bad) unmoved s whole m = record {
  step =
      let r = raw_is_at old w addr s whole.valid m.3 in
      let fits = room_in old w addr (place + length from) r m.2 in
      let inside : nat_lt (length r.bytes) (place + length from) ≡ false = grind (arith, nat_tests, fits) in
      let row = on_raw w (record { moves = []; after = w; reply = replies.Refused (refusals.NotStaged bad) }) addr r.bytes _
      r.there
      (on_false _ _ _ inside (on_false _ _ _ (sym (s.marks addr) ∙ m.1)
      (refl, refl, ap (λ a. replies.Refused (refusals.NotStaged a)) m.0))) in
      inl (row_refused w (calls.Write addr place from) new (refusals.NotStaged bad) (ap (λ (h : Heap). h.moves) m.4 ∙ unmoved)
      row);
  left = λ reads. m.4;
  gave = refl;
}
write_refused addr place from old new w was (refusals.LogFull lines room) unmoved s whole m = record {
  step =
      let r = raw_is_at old w addr s whole.valid m.2 in
      (record { to = _; row = write_row old w addr place from r s m.1 m.0; answered = refl }, refl);
  left = λ reads. absurd (true≢false (sym reads));
  gave = refl;
}
write_refused addr place from old new w was (refusals.BadAddress bad) unmoved s whole m = record {
  step = inl (row_refused w (calls.Write addr place from) new (refusals.BadAddress bad) (ap (λ (h : Heap). h.moves) m.1 ∙ unmoved)
      (raw_missed w addr (refusals.BadAddress bad) _ (misses old w addr (refusals.BadAddress bad) s whole m.0)));
  left = λ reads. m.1;
  gave = refl;
}
write_refused addr place from old new w was (refusals.WrongKind bad number) unmoved s whole m = record {
  step =
      inl (row_refused w (calls.Write addr place from) new (refusals.WrongKind bad number)
      (ap (λ (h : Heap). h.moves) m.1 ∙ unmoved)
      (raw_missed w addr (refusals.WrongKind bad number) _ (misses old w addr (refusals.WrongKind bad number) s whole m.0)));
  left = λ reads. m.1;
  gave = refl;
}
write_refused addr place from old new w was refusal unmoved s whole m = absurd m.0
