-- A count that is read, as a step.
use Rattle.std.proofs.Common.{◌≡◌, ℕ, List, [], refl, ap}
use Rattle.step_things.proofs.ListLemmas.{IsSmall}
use Rattle.step_things.proofs.RowLemmas.{looked, misnamed_refused}
use Rattle.step_things.specs.Answering.{Answered, IsRefused, IsReady}
use Rattle.sdr_stands.specs.Standing.{HeapStandsFor}
use Rattle.sdr_base.specs.Objects.{Heap, Misses}
use Rattle.sdr_base.specs.declared.kind.Kind.TheVariants as kinds
use Rattle.sdr_base.specs.declared.refusal.Refusal.{Refusal}
use Rattle.sdr_base.specs.declared.stop.Stop.TheVariants as stops
use Rattle.sdr_model.specs.World.{World}
use Rattle.sdr_model.specs.Zco.{as_source, source_at, uses_of}
use Rattle.sdr_model.specs.declared.answer.Reply.TheVariants as replies
use Rattle.sdr_model.specs.declared.call.Call.TheVariants as calls
use Rattle.zco_ref.specs.Counting.{CountsUses}
use Rattle.step_zco.proofs.SourceLemmas.{counted_in, no_source, source_is_at}

-- a call on a heap that stands for a world in which it is served
module _ (old new : Heap) (w : World) (unmoved : old.moves ≡ []) (s : HeapStandsFor old w) (served : IsReady w) (same : new ≡ old) where
  pub count_answered : (addr value : ℕ) → IsSmall old → CountsUses (old.blocks addr) value →
      Answered w (calls.Count addr) new [] (replies.Value value)
  count_answered addr value small c =
      let t = source_is_at old w addr s served small c.kind in
      looked w (calls.Count addr) addr (source_at w addr) (λ x. []) (λ x. replies.Value (uses_of w addr)) t.source old new
      (replies.Value value) (λ o h. h) (ap as_source t.there)
      (ap (λ (n : ℕ). replies.Value n) (c.uses.tells (counted_in w addr t.source) t.keeps)) refl unmoved same s

  pub count_refused : (addr : ℕ) (was : List ℕ) (refusal : Refusal) → Misses (old.blocks addr) addr kinds.Source (stops.Refused refusal) →
      IsRefused w (calls.Count addr) old new was was refusal
  count_refused addr was refusal m =
      misnamed_refused w (calls.Count addr) addr kinds.Source (source_at w addr) _ old new was (λ o h. h)
      (no_source old w addr s served.whole.valid) unmoved same s served.whole.valid refusal m
