-- Calls that were stopped once some of their change was made, and what worlds keep of tickets.
use Rattle.std.proofs.Common.{◌≡◌, ◌∙◌, ℕ, List, false, true≢false, refl, sym}
use Rattle.step_things.specs.Answering.{Aim, IsRefused, IsReady}
use Rattle.sdr_stands.specs.Standing.{HeapStandsFor}
use Rattle.sdr_base.specs.Objects.{Heap, OnlyUnmoved}
use Rattle.sdr_base.specs.declared.account.Acct.{Acct}
use Rattle.sdr_base.specs.declared.refusal.Refusal.{Refusal}
use Rattle.sdr_base.specs.declared.refusal.Refusal.TheVariants as refusals
use Rattle.sdr_base.specs.declared.stop.Stop.TheVariants as stops
use Rattle.sdr_model.specs.Reading.{is_reading}
use Rattle.sdr_model.specs.World.{World}
use Rattle.sdr_model.specs.declared.call.Call.{Call}
use Rattle.step_zco.proofs.QueueLemmas.{queue_kept}
use Rattle.step_zco.specs.AccountAnswering.{KeepsTickets}
use Rattle.zco_acct.specs.Kept.{SomeQueue}

-- log room is wanting for a change, once some of it was made
pub log_full : (w : World) (call : Call) (old mid new : Heap) (was : List ℕ) (refusal : Refusal) →
    is_reading call ≡ false →
    Aim w call → OnlyUnmoved mid new (stops.Refused refusal) → IsRefused w call old new was was refusal
log_full w call old mid new was (refusals.LogFull lines room) changing aim s = record {
  step = (aim, changing);
  left = λ reads. absurd (true≢false (sym reads ∙ changing));
  gave = refl;
}
log_full w call old mid new was refusal changing aim s = absurd s

-- a world in which calls are served keeps its tickets
pub tickets_kept : {w : World} → IsReady w → KeepsTickets w
tickets_kept served = record { queues = served.whole.queues; fits = served.fits }

-- the queue of each account is kept where a heap stands for such a world
pub queues_kept : {heap : Heap} {w : World} → HeapStandsFor heap w → IsReady w → (acct : Acct) → SomeQueue heap acct
queues_kept s served acct = record { tickets = _; keeps = queue_kept acct s (tickets_kept served) }
