-- What a call comes to, by what the call below came to.
use Rattle.std.proofs.Common.{◌≡◌, ℕ, List, [], Result, Err, Ok, IfErr, OnOk, subst, sym}
use Rattle.step_things.specs.Answering.{Answered, ComesInEach, IsRefused, IsReady}
use Rattle.sdr_stands.specs.Standing.{HeapStandsFor}
use Rattle.sdr_base.specs.Objects.{Heap}
use Rattle.sdr_base.specs.declared.refusal.Refusal.{Refusal}
use Rattle.sdr_base.specs.declared.stop.Stop.{Stop}
use Rattle.sdr_base.specs.declared.stop.Stop.TheVariants as stops
use Rattle.sdr_model.specs.World.{World}
use Rattle.sdr_model.specs.declared.answer.Reply.{Reply}
use Rattle.sdr_model.specs.declared.call.Call.{Call}

-- a call that was answered, and shows these bytes
pub comes_showing : (call : Call) (old new : Heap) (was page shown : List ℕ) (reply : Reply) → page ≡ shown
    → ((w : World) → HeapStandsFor old w → IsReady w → Answered w call new shown reply) → ComesInEach call old new was page (Ok reply)
comes_showing call old new was page shown reply is each = record {
  each = λ w stands served. subst (λ (bytes : List ℕ). Answered w call new bytes reply) (sym is) (each w stands served);
}

-- one that shows none
pub comes_answered : (call : Call) (old new : Heap) (was page : List ℕ) (reply : Reply) → page ≡ []
    → ((w : World) → HeapStandsFor old w → IsReady w → Answered w call new [] reply) → ComesInEach call old new was page (Ok reply)
comes_answered call old new was page reply is each = comes_showing call old new was page [] reply is each

-- one that was stopped is refused, or has met a fault
pub comes_stopped : (call : Call) (old new : Heap) (page : List ℕ) (stop : Stop) (P : Stop → Type 0) → P stop
    → ((w : World) (refusal : Refusal) → HeapStandsFor old w → IsReady w → P (stops.Refused refusal)
    → IsRefused w call old new page page refusal)
    → ComesInEach call old new page page (Err stop)
comes_stopped call old new page (stops.Refused refusal) P p each =
    record { each = λ w stands served. each w refusal stands served p }
comes_stopped call old new page stops.DiskFault P p each = record { each = λ w stands served. tt }
comes_stopped call old new page stops.MediaFault P p each = record { each = λ w stands served. tt }
comes_stopped call old new page stops.Failed P p each = record { each = λ w stands served. tt }

-- so is one that is never answered
pub comes_never : (call : Call) (old new : Heap) (page : List ℕ) (result : Result Reply Stop) (P : Stop → Type 0) → OnOk result ⊥
    → IfErr result P
    → ((w : World) (refusal : Refusal) → HeapStandsFor old w → IsReady w → P (stops.Refused refusal)
    → IsRefused w call old new page page refusal)
    → ComesInEach call old new page page result
comes_never call old new page (Ok reply) P never p each = absurd never
comes_never call old new page (Err stop) P never p each = comes_stopped call old new page stop P p each
