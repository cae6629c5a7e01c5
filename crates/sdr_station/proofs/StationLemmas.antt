-- What a station does with its ground.
use Rattle.std.proofs.Common.{◌≡◌, ◌≢◌, ◌∙◌, ◌&&◌, nat_le, is_none, Bool, true, false, true≢false, not, if◌then◌else◌, Option, None, Some, refl, sym, ap, subst}
use Rattle.std.specs.Option.{option_map_or}
use Rattle.sdr_machine.specs.Closing.{close_of}
use Rattle.sdr_machine.specs.Crash.{LeavesBefore, LeavesOr, is_kept, commits_in}
use Rattle.sdr_base.specs.Refusal.{refusal_number}
use Rattle.sdr_base.specs.declared.refusal.Reason.{Reason}
use Rattle.sdr_base.specs.declared.refusal.Reason.TheVariants as reasons
use Rattle.sdr_machine.specs.Nesting.{closing, doomed_for, noted}
use Rattle.sdr_machine.specs.Serving.{Brings, RollsBack, Settles}
use Rattle.sdr_machine.specs.Standing.{GroundState}
use Rattle.sdr_machine.specs.declared.has_ground.HasGround.{Ghosts}
use Rattle.sdr_machine.specs.declared.nesting.Nesting.{Nesting}
use Rattle.sdr_model.specs.Reading.{is_reading}
use Rattle.sdr_model.specs.declared.answer.Close.{Close}
use Rattle.sdr_model.specs.declared.answer.Close.TheVariants as closes
use Rattle.sdr_model.specs.declared.answer.Reply.{Reply}
use Rattle.sdr_model.specs.declared.answer.Reply.TheVariants as replies
use Rattle.sdr_model.specs.declared.call.Call.{Call}
use Rattle.sdr_model.specs.declared.event.Event.TheVariants as events
use Rattle.step_things.specs.Answering.{dooms}

-- no close but an end is kept
pub only_ended_is_kept : (close : Close) → close ≢ closes.Ended → is_kept close ≡ false
only_ended_is_kept closes.Ended other = absurd (other refl)
only_ended_is_kept close other = refl

-- what isn't kept is put back
pub settles_back : {T : Type 0} {stands : T → GroundState → Type 0} {old new : T} (close : Close) → is_kept close
    ≡ false
    → Brings stands old new RollsBack → Brings stands old new (Settles close)
settles_back closes.Ended unkept brings = absurd (true≢false unkept)
settles_back closes.Exited unkept brings = brings
settles_back (closes.Cancelled reason) unkept brings = brings
settles_back closes.Faulted unkept brings = brings

-- and a crash leaves the state before
pub leaves_unkept : {T : Type 0} (g : Ghosts T) (close : Close) (old new : T) → is_kept close ≡ false → LeavesBefore g old new
    → LeavesOr (is_kept close) g old new
leaves_unkept g close old new unkept leaves = subst (λ b. LeavesOr b g old new) (sym unkept) leaves

-- an outermost end keeps what was done, unless the transaction is doomed
pub keeps_outermost : (n : Nesting) → nat_le n.depth 1 ≡ true → is_kept (closing n events.End) ≡ commits_in n events.End
keeps_outermost n outer = by n.doom ∙ ap (λ b. b && is_none n.doom) (sym outer)
  where
    by : (doom : Option Reason) → is_kept (option_map_or (λ reason. closes.Cancelled reason) doom (close_of events.End n.modified)) ≡ is_none doom
    by None = refl
    by (Some reason) = refl

-- an outermost cancel keeps nothing
pub cancel_keeps_none : (n : Nesting) → is_kept (closing n events.Cancel) ≡ false
cancel_keeps_none n = by n.doom
  where
    by : (doom : Option Reason) → is_kept (option_map_or (λ reason. closes.Cancelled reason) doom (close_of events.Cancel n.modified)) ≡ false
    by None = refl
    by (Some reason) = refl

-- nor does an exit
pub exit_keeps_none : (n : Nesting) → is_kept (closing n events.Exit) ≡ false
exit_keeps_none n = by n.doom n.modified
  where
    by : (doom : Option Reason) (modified : Bool)
        → is_kept (option_map_or (λ reason. closes.Cancelled reason) doom (close_of events.Exit modified)) ≡ false
    by None true = refl
    by None false = refl
    by (Some reason) modified = refl

-- where nothing is found, there is nothing
pub none_there : {X : Type 0} (o : Option X) → ((x : X) → o ≡ Some x → ⊥) → o ≡ None
none_there None apart = refl
none_there (Some x) apart = absurd (apart x refl)

-- where a transaction that wasn't doomed isn't after a reply, the reply dooms nothing
pub undoomed_noted : (call : Call) (reply : Reply) (n : Nesting) → (noted call reply n).doom ≡ None → dooms call reply ≡ false
undoomed_noted call (replies.Refused refusal) n none = by (is_reading call) none
  where
    by : (b : Bool) → (if b then n else doomed_for (reasons.Refused (refusal_number refusal)) n).doom ≡ None → not b ≡ false
    by true none = refl
    by false none = absurd cc
undoomed_noted call reply n none = refl
