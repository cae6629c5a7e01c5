-- What the answer to a call tells of media, by whether it reads them.
use Rattle.std.proofs.Common.{◌≡◌, ◌∙◌, ℕ, List, [], true, false, true≢false, Option, None, Some, Result, Ok, Err, OnErr, inl, inr, refl, sym, subst, arith}
use Rattle.step_things.specs.Answering.{ComesInEach, ComesIn, IsReady}
use Rattle.sdr_stands.specs.Standing.{HeapStandsFor}
use Rattle.sdr_base.proofs.WorksLemmas.{looks_works, works_more, works_ok}
use Rattle.sdr_base.specs.Media.{Told}
use Rattle.sdr_base.specs.Objects.{Heap}
use Rattle.sdr_base.specs.Works.{Looks, Spends}
use Rattle.sdr_base.specs.declared.has_heap.HasHeap.{Ghosts as HeapGhosts}
use Rattle.sdr_base.specs.declared.media.Media.{Ghosts}
use Rattle.sdr_base.specs.declared.moves.Move.{Move}
use Rattle.sdr_base.specs.declared.refusal.Refusal.TheVariants as refusals
use Rattle.sdr_base.specs.declared.stop.Stop.{Stop}
use Rattle.sdr_base.specs.declared.stop.Stop.TheVariants as stops
use Rattle.law_steps.proofs.StepLemmas.{row_is_no_stop}
use Rattle.sdr_machine.specs.Agreeing.{AgreesWith}
use Rattle.sdr_machine.specs.Transaction.{bytes_given}
use Rattle.sdr_model.specs.Fields.{FitsCall}
use Rattle.sdr_model.specs.Reading.{reads_media}
use Rattle.sdr_model.specs.Step.{StepTo}
use Rattle.sdr_model.specs.World.{World}
use Rattle.sdr_model.specs.declared.answer.Answer.{Answer}
use Rattle.sdr_model.specs.declared.answer.Answer.TheVariants as answers
use Rattle.sdr_model.specs.declared.answer.Reply.{Reply}
use Rattle.sdr_model.specs.declared.answer.Reply.TheVariants as replies
use Rattle.sdr_model.specs.declared.call.Call.{Call}
use Rattle.sdr_model.specs.declared.call.Call.TheVariants as calls
use Rattle.sdr_model.specs.declared.event.Event.TheVariants as events
use Rattle.step_calls.specs.Giving.{TellsInEach}
use Rattle.step_calls.specs.Serving.{call_lines}
use Rattle.step_zco_parts.specs.Giving.{AgreesIn, AgreesRead, HasMediaCause, MissesMedia}
use Rattle.zco_wire.specs.Stopping.{past_media, past_stop}

-- a call that reads media touches no line
pub media_lines : (heap : Heap) (w : World) (call : Call) → reads_media call ≡ true → call_lines heap w call ≡ 0
media_lines heap w (calls.Transmit addr place count) reads = refl
media_lines heap w (calls.ReceiveHeaders addr place count) reads = refl
media_lines heap w (calls.ReceiveSource addr place count) reads = refl
media_lines heap w (calls.ReceiveTrailers addr place count) reads = refl
media_lines heap w call reads = absurd (true≢false (sym reads))

-- and its numbers are free
pub fits_reading : (call : Call) → reads_media call ≡ true → FitsCall call
fits_reading (calls.Transmit addr place count) reads = tt
fits_reading (calls.ReceiveHeaders addr place count) reads = tt
fits_reading (calls.ReceiveSource addr place count) reads = tt
fits_reading (calls.ReceiveTrailers addr place count) reads = tt
fits_reading call reads = absurd (true≢false (sym reads))

-- so as it looks, it works
pub works_reading : {T S : Type 0} {m : HeapGhosts S} {a b : S} (result : Result T Stop) (w : World) (call : Call)
    → reads_media call ≡ true → Looks m a b (past_media result) → Spends m (call_lines (m.heap a) w call) a b (past_media result)
works_reading {m = m} {a = a} result w call reads l =
    works_more (looks_works l) (let none = media_lines (m.heap a) w call reads in omega (arith, none))

-- a stop of a call on blocks alone is none of media
works_stopped : {T S : Type 0} {m : HeapGhosts S} {lines : ℕ} {a b : S} (stop : Stop) → Spends {T = T} m lines a b (Err stop)
    → Spends m lines a b (past_stop stop)
works_stopped (stops.Refused refusal) w = record {
  kept = w.kept;
  moved = w.moved;
  room = record { room = w.room.room; kept = w.room.kept; most = w.room.most; full = w.room.full };
  cause = record { later = w.cause.later; explained = w.cause.explained };
  quiet = w.quiet;
}
works_stopped stops.DiskFault w = record {
  kept = w.kept;
  moved = w.moved;
  room = record { room = w.room.room; kept = w.room.kept; most = w.room.most; full = w.room.full };
  cause = record { later = w.cause.later; explained = w.cause.explained };
  quiet = w.quiet;
}
works_stopped stops.MediaFault w = absurd w.cause.explained
works_stopped stops.Failed w = record {
  kept = w.kept;
  moved = w.moved;
  room = record { room = w.room.room; kept = w.room.kept; most = w.room.most; full = w.room.full };
  cause = record { later = w.cause.later; explained = w.cause.explained };
  quiet = w.quiet;
}

-- so media have no part in what it works
pub works_past : {T S : Type 0} {m : HeapGhosts S} {lines : ℕ} {a b : S} (result : Result T Stop) → Spends m lines a b result
    → Spends m lines a b (past_media result)
works_past (Ok value) w = works_ok w
works_past (Err stop) w = works_stopped stop w

-- a call that reads media tells what it read
pub tells_reading : {M : Type 0} (m : Ghosts M) (call : Call) (old new : Heap) (was shown : List ℕ) (before now : M)
    (result : Result Reply Stop) → reads_media call ≡ true → AgreesIn (m.told before) call old result shown → HasMediaCause m call old before now result → new ≡ old
    → OnErr result (shown ≡ was) → TellsInEach m call old new was shown before now result
tells_reading m call old new was shown before now result reads agrees cause same stays = record {
  each = λ w stands served. record {
    agrees = agrees.each w stands served;
    misses = cause.each w stands served;
    stays = λ failed. (reads, same, subst (λ (r : Result Reply Stop). OnErr r (shown ≡ was)) failed stays);
  };
}

-- a call that reads none agrees with whatever they tell
agrees_unread : (told : Option Told) (w : World) (call : Call) (answer : Answer) (bytes : List ℕ) → reads_media call ≡ false
    → AgreesWith told w (events.Say call) answer bytes
agrees_unread None w call answer bytes none = tt
agrees_unread (Some media) w call answer bytes none = λ reads. absurd (true≢false (sym reads ∙ none))

unread_agrees : (told : Option Told) (w : World) (call : Call) (result : Result Reply Stop) (shown : List ℕ) → reads_media call ≡ false
    → AgreesRead told w call result shown
unread_agrees told w call (Ok reply) shown none =
    agrees_unread told w call (answers.Reply reply) (bytes_given (answers.Reply reply) shown) none
unread_agrees told w call (Err (stops.Refused refusal)) shown none =
    agrees_unread told w call (answers.Reply (replies.Refused refusal)) [] none
unread_agrees told w call (Err stop) shown none = tt

-- no step of it tells that they gave fewer bytes than were asked for
never_short : (w : World) (moves : List Move) (after : World) (have want : ℕ) (call : Call) → reads_media call ≡ false
    → StepTo w (record { moves = moves; after = after; reply = replies.Refused (refusals.SourceShort have want) }) call → ⊥
never_short w moves after have want call none (inl row) = true≢false (row_is_no_stop w _ call row)
never_short w moves after have want call none (inr s) = true≢false (sym s.stopped.1 ∙ none)

-- so it tells nothing of them
module _ {M S : Type 0} (m : Ghosts M) (h : HeapGhosts S) (a b : S) (w : World) (call : Call) (was shown : List ℕ) (media : M)
    (none : reads_media call ≡ false) where
  unread_misses : (lines : ℕ) (result : Result Reply Stop) → ComesIn w call (h.heap a) (h.heap b) was shown result → Spends h lines a b result
      → MissesMedia m w call media media result
  unread_misses lines (Ok reply) comes works = tt
  unread_misses lines (Err (stops.Refused (refusals.SourceShort have want))) comes works =
      absurd (never_short w (h.heap b).moves w have want call none comes.step)
  unread_misses lines (Err (stops.Refused refusal)) comes works = tt
  unread_misses lines (Err stops.MediaFault) comes works = absurd works.cause.explained
  unread_misses lines (Err stop) comes works = tt

  never_fails : (lines : ℕ) (result : Result Reply Stop) → result ≡ Err stops.MediaFault → Spends h lines a b result → ⊥
  never_fails lines result failed works =
      (subst (λ (r : Result Reply Stop). Spends h lines a b r) failed works).cause.explained

pub tells_unread : {M S : Type 0} (m : Ghosts M) (h : HeapGhosts S) (lines : World → ℕ) (a b : S) (call : Call) (was shown : List ℕ)
    (media : M) (result : Result Reply Stop) → reads_media call ≡ false → ComesInEach call (h.heap a) (h.heap b) was shown result
    → ((w : World) → HeapStandsFor (h.heap a) w → IsReady w → Spends h (lines w) a b result)
    → TellsInEach m call (h.heap a) (h.heap b) was shown media media result
tells_unread m h lines a b call was shown media result none comes works = record {
  each = λ w stands served.
      let done = works w stands served in
      record {
        agrees = unread_agrees (m.told media) w call result shown none;
        misses = unread_misses m h a b w call was shown media none (lines w) result (comes.each w stands served) done;
        stays = λ failed. absurd (never_fails m h a b w call was shown media none (lines w) result failed done);
      };
}
