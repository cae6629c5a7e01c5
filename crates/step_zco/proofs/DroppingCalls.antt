-- A source that is destroyed, as a step.
use Rattle.std.proofs.Common.{◌≡◌, ◌∙◌, ℕ, ◌==◌, List, [], ◌∷◌, Bool, true, false, true≢false, Some, inl, inr, refl, ap}
use Rattle.std.specs.Prelude.{MatchBool}
use Rattle.step_things.proofs.ListLemmas.{IsSmall}
use Rattle.step_things.proofs.RowLemmas.{full_refused, gave_back, misnamed_refused, moved_nothing, row_refused}
use Rattle.step_things.specs.Answering.{Answered, IsRefused, IsReady}
use Rattle.sdr_stands.proofs.ChangeLemmas.{part_changed}
use Rattle.sdr_stands.proofs.PartLemmas.{thing_changed, thing_gone}
use Rattle.sdr_stands.specs.Standing.{HeapStandsFor}
use Rattle.sdr_base.specs.Entries.{Changes}
use Rattle.sdr_base.specs.Kinds.{kind_number}
use Rattle.sdr_base.specs.Making.{Made}
use Rattle.sdr_base.specs.Objects.{Heap}
use Rattle.sdr_base.specs.declared.kind.Kind.TheVariants as kinds
use Rattle.sdr_base.specs.declared.moves.Move.TheVariants.{Gave}
use Rattle.sdr_base.specs.declared.refusal.Refusal.{Refusal}
use Rattle.sdr_base.specs.declared.refusal.Refusal.TheVariants as refusals
use Rattle.sdr_base.specs.declared.stop.Stop.TheVariants as stops
use Rattle.sdr_machine.proofs.WorkLemmas.{on_false, on_some, on_true}
use Rattle.sdr_model.specs.SourceSteps.{flagged}
use Rattle.sdr_model.specs.Steps.{with_thing, without_thing}
use Rattle.sdr_model.specs.World.{World, thing_at}
use Rattle.sdr_model.specs.Zco.{as_source, is_of_raw, source_at, uses_of}
use Rattle.sdr_model.specs.declared.answer.Reply.TheVariants as replies
use Rattle.sdr_model.specs.declared.call.Call.TheVariants as calls
use Rattle.sdr_model.specs.declared.things.Thing.TheVariants as things
use Rattle.sdr_model.specs.declared.zco.Subject.{Subject}
use Rattle.sdr_model.specs.declared.zco.Subject.TheVariants as subjects
use Rattle.sdr_model.specs.declared.zco.ZcoSource.{ZcoSource}
use Rattle.zco_ref.specs.Counting.{Becomes}
use Rattle.zco_ref.specs.Dropping as ref
use Rattle.zco_ref.specs.Dropping.{DestroysSource, DestroyStops, IsFlagged, IsOwner, MayGo}
use Rattle.zco_ref.specs.Going.{SourceGoes}
use Rattle.zco_ref.specs.Kept.{KeepsSource, counted_entries}
use Rattle.step_zco.proofs.GoingCalls.{MayGoAt, aim, flagged_row, free, gone_row, obj_gone, owner_told}
use Rattle.step_zco.proofs.SourceLemmas.{IsRawOf, counted_in, no_source, source_is_at, source_tied}
use Rattle.step_zco.proofs.StepLemmas.{answered_later, roots_kept}

-- a call on a heap that stands for a world in which it is served
module _ (old new : Heap) (w : World) (unmoved : old.moves ≡ []) (s : HeapStandsFor old w) (served : IsReady w) where
  -- a source that names no raw object is gone
  plain_gone : (addr : ℕ) (source : ZcoSource) → MayGoAt w addr source → (uses_of w addr == 0) ≡ true →
      ((raw : ℕ) → is_of_raw raw source.subject ≡ false) →
      Changes old.blocks new.blocks (counted_entries addr (counted_in w addr source)) [] → Made (Gave addr ∷ []) old new →
      Answered w (calls.DestroyRef addr) new [] replies.Done
  plain_gone addr source m unused nameless c made =
      let moves = Gave addr ∷ [] in
      let row = gone_row w addr source m unused in
      let has = (gave_back w (addr ∷ []) old new unmoved made).has in
      answered_later w (without_thing w addr).things (calls.DestroyRef addr) moves replies.Done served.whole has.fresh row refl
      has.is has.words
      (part_changed (without_thing w addr) moves s
      (thing_gone w addr (things.Source source) m.there (record { raws = λ raw. nameless raw; sources = λ q acct. refl }))
      c made
      (roots_kept w (without_thing w addr).things (calls.DestroyRef addr) moves replies.Done served.whole has.fresh row refl
      (free w addr)) refl)

  -- one is flagged
  is_flagged : (addr : ℕ) (source : ZcoSource) → MayGoAt w addr source → (uses_of w addr == 0) ≡ false →
      Becomes addr (counted_in w addr source) (ref.flagged (counted_in w addr source)) old new →
      Answered w (calls.DestroyRef addr) new [] replies.Done
  is_flagged addr source m used b =
      let after = with_thing w addr (things.Source (flagged source)) in
      let row = flagged_row w addr source m used in
      let moved = moved_nothing w old new unmoved b.same in
      answered_later w after.things (calls.DestroyRef addr) [] replies.Done served.whole moved.has.fresh row refl moved.has.is
      moved.has.words
      (part_changed after [] s
      (thing_changed w addr (things.Source source) (things.Source (flagged source)) m.there
      (record { raws = λ raw. refl; sources = λ q acct. refl }))
      b.changes moved.made
      (roots_kept w after.things (calls.DestroyRef addr) [] replies.Done served.whole moved.has.fresh row refl (free w addr)) refl)

  -- whichever it is of, it is gone
  gone_of : (addr : ℕ) (bytes : List ℕ) (source : ZcoSource) (subject : Subject) →
      MayGoAt w addr (record source { subject = subject }) → (uses_of w addr == 0) ≡ true → IsRawOf w subject bytes →
      SourceGoes addr (counted_in w addr (record source { subject = subject })) bytes old new →
      Answered w (calls.DestroyRef addr) new [] replies.Done
  gone_of addr bytes source (subjects.File path) m unused there g =
      plain_gone addr (record source { subject = subjects.File path }) m unused (λ raw. refl) g.changes g.made
  gone_of addr bytes source (subjects.Bulk item) m unused there g =
      plain_gone addr (record source { subject = subjects.Bulk item }) m unused (λ raw. refl) g.changes g.made
  gone_of addr bytes source (subjects.Heap raw) m unused there g = absurd (true≢false m.free)
  gone_of addr bytes source (subjects.Obj raw) m unused there g =
      obj_gone old new w unmoved s served addr raw bytes (record source { subject = subjects.Obj raw }) refl m unused there g.changes g.made

  -- a source that may go by its block may go by the world
  may_go : (addr : ℕ) (source : ZcoSource) → thing_at w addr ≡ Some (things.Source source) →
      KeepsSource (old.blocks addr) (counted_in w addr source) → MayGo (old.blocks addr) → MayGoAt w addr source
  may_go addr source there keeps m = record {
    there = there;
    free = m.free (counted_in w addr source) keeps;
    unflagged = m.unflagged (counted_in w addr source) keeps;
  }

  pub destroyed : (addr : ℕ) → IsSmall old → DestroysSource addr old new → Answered w (calls.DestroyRef addr) new [] replies.Done
  destroyed addr small d =
      let t = source_is_at old w addr s served small d.may.kind in
      let r = source_tied old w addr t.source s served small t.there in
      let m = may_go addr t.source t.there t.keeps d.may in
      by t.source m r.bytes r.raw (uses_of w addr == 0) refl (d.does (counted_in w addr t.source) r.bytes r.tied)
    where
      by : (source : ZcoSource) → MayGoAt w addr source → (bytes : List ℕ) → IsRawOf w source.subject bytes →
          (b : Bool) → (uses_of w addr == 0) ≡ b →
          MatchBool b (SourceGoes addr (counted_in w addr source) bytes old new)
          (Becomes addr (counted_in w addr source) (ref.flagged (counted_in w addr source)) old new) →
          Answered w (calls.DestroyRef addr) new [] replies.Done
      by source m bytes there true is g = gone_of addr bytes source source.subject m is there g
      by source m bytes there false is b = is_flagged addr source m is b

  pub undestroyed : (addr : ℕ) (was : List ℕ) (refusal : Refusal) → IsSmall old → DestroyStops addr old new (stops.Refused refusal) →
      IsRefused w (calls.DestroyRef addr) old new was was refusal
  undestroyed addr was (refusals.BadAddress bad) small m =
      misnamed_refused w (calls.DestroyRef addr) addr kinds.Source (source_at w addr) _ old new was (λ o h. h)
      (no_source old w addr s served.whole.valid) unmoved m.1 s served.whole.valid (refusals.BadAddress bad) m.0
  undestroyed addr was (refusals.WrongKind bad number) small m = by m.0
    where
      owned : IsOwner (old.blocks addr) → bad ≡ addr → number ≡ kind_number kinds.Source →
          IsRefused w (calls.DestroyRef addr) old new was was (refusals.WrongKind bad number)
      owned o here kind =
          let t = source_is_at old w addr s served small o.kind in
          record {
            step =
                inl (row_refused w (calls.DestroyRef addr) new (refusals.WrongKind bad number)
                (ap (λ (h : Heap). h.moves) m.1 ∙ unmoved)
                (on_some _ _ (source_at w addr) t.source (ap as_source t.there)
                (on_true _ _ _ (owner_told t.source.subject ∙ o.owns (counted_in w addr t.source) t.keeps)
                (refl, refl, λ i. replies.Refused (refusals.WrongKind (here i) (kind i))))));
            left = λ reads. m.1;
            gave = refl;
          }

      by : ref.IsWrong (old.blocks addr) addr bad number → IsRefused w (calls.DestroyRef addr) old new was was (refusals.WrongKind bad number)
      by (inl misses) =
          misnamed_refused w (calls.DestroyRef addr) addr kinds.Source (source_at w addr) _ old new was (λ o h. h)
          (no_source old w addr s served.whole.valid) unmoved m.1 s served.whole.valid (refusals.WrongKind bad number) misses
      by (inr o) = owned o.2 o.0 o.1
  undestroyed addr was refusals.NotFound small m =
      let t = source_is_at old w addr s served small m.0.kind in
      let c = counted_in w addr t.source in
      record {
        step =
            inl (row_refused w (calls.DestroyRef addr) new refusals.NotFound (ap (λ (h : Heap). h.moves) m.1 ∙ unmoved)
            (on_some _ _ (source_at w addr) t.source (ap as_source t.there)
            (on_false _ _ _ (owner_told t.source.subject ∙ m.0.free c t.keeps)
            (on_true _ _ _ (m.0.flagged c t.keeps) (refl, refl, refl)))));
        left = λ reads. m.1;
        gave = refl;
      }
  undestroyed addr was refusal small m =
      let t = source_is_at old w addr s served small m.0.kind in
      full_refused w (calls.DestroyRef addr) old new was refusal refl
      (aim w addr t.source (may_go addr t.source t.there t.keeps m.0)) m.1
