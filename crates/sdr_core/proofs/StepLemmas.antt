-- What a step of the machine may leave to be noted.
use Rattle.std.proofs.Common.{◌≡◌, ◌∙◌, ◌≤◌, ◌||◌, ℕ, List, [], Bool, true, false, length, None, MatchOption, refl, sym, ap, subst, arith, vec_capacity, true≢false}
use Rattle.std.specs.Prelude.{⊤}
use Rattle.sdr_model.specs.declared.answer.Answer.{Answer}
use Rattle.sdr_model.specs.declared.answer.Answer.TheVariants as answers
use Rattle.sdr_model.specs.declared.answer.Close.{Close}
use Rattle.sdr_model.specs.declared.answer.Reply.TheVariants as replies
use Rattle.sdr_model.specs.declared.event.Event.{Event}
use Rattle.sdr_model.specs.declared.event.Event.TheVariants as events
use Rattle.sdr_model.specs.declared.journal.Said.{Said}
use Rattle.sdr_machine.specs.Core.{closed_by, is_failed, was_outside, is_passed_over}
use Rattle.sdr_machine.specs.Machine.{Comes, Holds, Machine, Made, MachineStep}
use Rattle.sdr_machine.specs.Roll.{daemon_of}
use Rattle.sdr_machine.specs.Transaction.{bytes_given}
use Rattle.sdr_machine.proofs.StepLemmas.{IsCalled, Kind, from_option, from_test, step_is}
use Rattle.sdr_core.specs.Drafting.{FitsIn}
use Rattle.sdr_core.specs.Logging.{ClosesWithin}
use Rattle.sdr_machine.specs.Room.{HoldsEvent}
use Rattle.sdr_base.specs.declared.moves.Move.{Move}
use Rattle.sdr_machine.specs.Serving.{made_by}
use Rattle.sdr_machine.specs.Standing.{GroundState}
use Rattle.sdr_core.proofs.RunLemmas.{made_known}
use Rattle.sdr_core.specs.Noting.{said_noted}
use Rattle.sdr_core.specs.declared.noted.Noted.{Noted}
use Rattle.sdr_core.specs.declared.draft.Draft.{Draft}
use Rattle.sdr_machine.specs.declared.tells.Room.{Room}

module _ (draft : Draft) (room : Room) (moves : room.moves ≤ vec_capacity draft.moves) (bytes : room.bytes ≤ vec_capacity draft.bytes) where
  fits_nothing : (said : Said) → said.moves ≡ [] → said.bytes ≡ [] → FitsIn draft said
  fits_nothing said no_moves no_bytes =
      let m = ap (λ l. length l) no_moves in let b = ap (λ (l : List ℕ). length l) no_bytes in record { moves = omega arith; bytes = omega arith }

  fits_called : (m : Machine) (e : Made) (m' : Machine) → HoldsEvent room m.now e.said.event → IsCalled m e m' → FitsIn draft e.said
  fits_called m e m' holds called =
      let fits = subst (HoldsEvent room m.now) called.event holds called.replies.done called.replies.steps in
      let n = ap (λ l. length l) called.replies.moves in
      let b = ap (λ (l : List ℕ). length l)
      (called.replies.bytes ∙ ap (λ a. bytes_given a called.replies.done.after.world.shown) called.replies.answer) in
      record { moves = omega (arith, fits.moves); bytes = omega (arith, fits.bytes) }

  fits_kind : (m : Machine) (e : Made) (m' : Machine) → HoldsEvent room m.now e.said.event → Kind m e m' → FitsIn draft e.said
  fits_kind m e m' holds (Kind.stays quiet before now) = fits_nothing e.said quiet.moves quiet.bytes
  fits_kind m e m' holds (Kind.called called) = fits_called m e m' holds called
  fits_kind m e m' holds (Kind.closed close quiet before now) = fits_nothing e.said quiet.moves quiet.bytes
  fits_kind m e m' holds (Kind.failed quiet heap before now) = fits_nothing e.said quiet.moves quiet.bytes

  -- what a step says fits in its draft
  pub step_fits : (m : Machine) (e : Made) (m' : Machine) → (m.roll.failed ≡ None → HoldsEvent room m.now e.said.event) → MachineStep m e m' → FitsIn draft e.said
  step_fits m e m' holds step =
      from_option m.roll.failed step (λ none _. fits_kind m e m' (holds none) (step_is m e m' step).kind)
      (λ moment _ goes. fits_nothing e.said goes.told.moves goes.told.bytes)

-- whether the event is a request
abbrev is_request : Event → Bool
is_request events.Request = true
is_request event = false

-- an event that isn't a request, and closes a transaction, was made in one
passes_no_close : (event : Event) (close : Close) → is_request event ≡ false → (is_passed_over event (answers.Closed close) || is_failed (answers.Closed close)) ≡ false
passes_no_close events.Request close other = absurd (true≢false other)
passes_no_close event close other = refl

passes_no_fault : (event : Event) → is_request event ≡ false → (is_passed_over event (answers.Reply replies.DiskFault) || is_failed (answers.Reply replies.DiskFault)) ≡ false
passes_no_fault events.Request other = absurd (true≢false other)
passes_no_fault event other = refl

pub closes_other : (event : Event) (answer : Answer) → is_request event ≡ false → MatchOption (closed_by answer) ⊤ (λ (close : Close). (is_passed_over event answer || is_failed answer) ≡ false)
closes_other event (answers.Closed close) other = passes_no_close event close other
closes_other event (answers.Reply replies.DiskFault) other = passes_no_fault event other
closes_other event answer other = tt

-- a request closes nothing
request_closes : (m : Machine) (e : Made) (m' : Machine) → e.said.event ≡ events.Request → MachineStep m e m' → closed_by e.said.answer ≡ None
request_closes m e m' is step =
    from_option m.roll.failed step
    (λ _ answered. from_option (daemon_of m.roll e.daemon) answered (λ _ goes. ap closed_by goes.told.answer)
    (λ d _ performs. from_test d.left performs (λ _ goes. ap closed_by goes.told.answer)
    (λ _ rest. from_option d.holds rest
    (λ _ comes. ap closed_by (subst (λ event. Comes m d event e m') is comes).told.answer)
    (λ h _ holds. ap closed_by (subst (λ event. Holds m d h event e m') is holds).told.answer))))
    (λ moment _ goes. ap closed_by goes.told.answer)

request_is : (event : Event) → is_request event ≡ true → event ≡ events.Request
request_is events.Request is = refl
request_is event is = absurd (true≢false (sym is))

-- what closes a transaction in a step was said in one
pub step_closes : (m : Machine) (e : Made) (m' : Machine) → MachineStep m e m' → ClosesWithin e.said
step_closes m e m' step = by (is_request e.said.event) refl
  where
    by : (b : Bool) → is_request e.said.event ≡ b → ClosesWithin e.said
    by true is = subst (λ o. MatchOption o ⊤ (λ (close : Close). was_outside e.said ≡ false)) (sym (request_closes m e m' (request_is e.said.event is) step)) tt
    by false other = closes_other e.said.event e.said.answer other

-- what is noted is what was said
pub noted_said : (n : Noted) (event drafted : Event) (moves : List Move) (shown : List ℕ) (v : GroundState) → drafted ≡ event
    → (n.came.called ≡ true → (moves ≡ v.moves) × (shown ≡ v.now.world.shown)) → said_noted n drafted moves shown ≡ (made_by n.daemon event n.came n.begun n.done n.line v).said
noted_said n event drafted moves shown v same known =
    ap (λ ev. said_noted n ev moves shown) same
    ∙ ap (λ (e : Made). e.said) (made_known n.daemon event n.came n.begun n.done n.line moves shown v known)
