-- A ticket that is looked at, as a step.
use Rattle.std.proofs.Common.{◌≡◌, ◌∙◌, ℕ, List, [], Bool, true, false, inl, refl, sym, ap, subst, if◌then◌else◌}
use Rattle.std.specs.Prelude.{None, Some}
use Rattle.step_things.proofs.RowLemmas.{row_refused, shows, unmoved_answered}
use Rattle.step_things.specs.Answering.{Answered, IsRefused, IsReady}
use Rattle.sdr_stands.specs.Standing.{HeapStandsFor}
use Rattle.sdr_base.specs.Objects.{Heap}
use Rattle.sdr_base.specs.declared.account.Acct.{Acct}
use Rattle.sdr_base.specs.declared.account.Acct.TheVariants as accts
use Rattle.sdr_base.specs.declared.refusal.Refusal.{Refusal}
use Rattle.sdr_base.specs.declared.refusal.Refusal.TheVariants as refusals
use Rattle.sdr_base.specs.declared.stop.Stop.TheVariants as stops
use Rattle.sdr_machine.proofs.WorkLemmas.{on_false, on_none, on_some, on_true}
use Rattle.sdr_machine.specs.Serving.{shown_among}
use Rattle.sdr_model.specs.AccountSteps.{pending_of}
use Rattle.sdr_model.specs.World.{World}
use Rattle.sdr_model.specs.declared.accounts.Ticket.{Ticket}
use Rattle.sdr_model.specs.declared.answer.Reply.TheVariants as replies
use Rattle.sdr_model.specs.declared.call.Call.TheVariants as calls
use Rattle.zco_acct.specs.Refusals.{unusable}
use Rattle.zco_acct.specs.declared.queue.Found.{Found}
use Rattle.step_zco.proofs.ComingLemmas.{tickets_kept}
use Rattle.step_zco.proofs.FoundLemmas.{located_pending, pending_at, pending_nowhere, pending_or}
use Rattle.step_zco.proofs.QueueLemmas.{queue_kept}
use Rattle.step_zco.specs.AccountAnswering.{Sees}
use Rattle.zco_space.proofs.FindLemmas.{located_is}
use Rattle.zco_space.specs.Located.{AwardStops, IsAwarded, StandsIn, StandsNowhere}

-- why a ticket that is there can't be used
usable_granted : (number : ℕ) (t : Ticket) → unusable number (Some t) ≡ None → t.granted ≡ true
usable_granted number t none = by t.granted refl none
  where
    by : (b : Bool) → t.granted ≡ b → (if b then None else Some (refusals.NotAwarded number)) ≡ None → t.granted ≡ true
    by true e is = e
    by false e is = absurd cc

record Waits (number : ℕ) (t : Ticket) (refusal : Refusal) : Type 0 where
  waiting : t.granted ≡ false
  this : refusals.NotAwarded number ≡ refusal

unusable_waits : (number : ℕ) (t : Ticket) (refusal : Refusal) → unusable number (Some t) ≡ Some refusal →
    Waits number t refusal
unusable_waits number t refusal some = by t.granted refl some
  where
    by : (b : Bool) → t.granted ≡ b → (if b then None else Some (refusals.NotAwarded number)) ≡ Some refusal →
        Waits number t refusal
    by true e is = absurd cc
    by false e is = record { waiting = e; this = cc }

-- a call that looks at a ticket
module _ (old new : Heap) (w : World) (unmoved : old.moves ≡ []) (s : HeapStandsFor old w) (served : IsReady w)
    (same : new ≡ old) where
  still : new.moves ≡ []
  still = ap (λ (h : Heap). h.moves) same ∙ unmoved

  pub awarded_answered : (number : ℕ) → IsAwarded old number → Answered w (calls.Awarded number) new [] replies.Done
  awarded_answered number a =
      let keeps = tickets_kept served in
      let none = a.none w.accounts.inbound.tickets w.accounts.outbound.tickets (queue_kept accts.Inbound s keeps)
      (queue_kept accts.Outbound s keeps) in
      pending_or w number
      (λ acct t p found.
      let granted = usable_granted number t (sym (ap (unusable number) found) ∙ none) in
      unmoved_answered w (record w { shown = [] }) (calls.Awarded number) new [] replies.Done still
      (on_some _ _ (pending_of w number) (pending_at acct p.found.place t) p.is (on_true _ _ t.granted granted
      (refl, refl, refl)))
      refl (shows old new w [] same s) refl refl)
      (λ nowhere found. let no = sym (ap (unusable number) found) ∙ none in absurd cc)

  pub awarded_refused : (number : ℕ) (was : List ℕ) (refusal : Refusal) →
      AwardStops old number (stops.Refused refusal) →
      IsRefused w (calls.Awarded number) old new was was refusal
  awarded_refused number was refusal m =
      let keeps = tickets_kept served in
      let some = m.some w.accounts.inbound.tickets w.accounts.outbound.tickets (queue_kept accts.Inbound s keeps)
      (queue_kept accts.Outbound s keeps) in
      pending_or w number
      (λ acct t p found.
      let waits = unusable_waits number t refusal (sym (ap (unusable number) found) ∙ some) in
      subst (λ (r : Refusal). IsRefused w (calls.Awarded number) old new was was r) waits.this
      (record {
        step = inl (row_refused w (calls.Awarded number) new (refusals.NotAwarded number) still
            (on_some _ _ (pending_of w number) (pending_at acct p.found.place t) p.is
            (on_false _ _ t.granted waits.waiting (refl, refl, refl))));
        left = λ reads. same;
        gave = refl;
      }))
      (λ nowhere found.
      let no : Some (refusals.BadTicket number) ≡ Some refusal = sym (ap (unusable number) found) ∙ some in
      let this : refusals.BadTicket number ≡ refusal = cc in
      subst (λ (r : Refusal). IsRefused w (calls.Awarded number) old new was was r) this
      (record {
        step = inl (row_refused w (calls.Awarded number) new (refusals.BadTicket number) still
            (on_none _ _ (pending_of w number) nowhere.none (refl, refl, refl)));
        left = λ reads. same;
        gave = refl;
      }))

-- what is seen of a ticket
pub sees_some : {old : Heap} {number : ℕ} (acct : Acct) (found : Found) → StandsIn old number acct found →
    Sees number old (Some found.ticket.granted)
sees_some {old} {number} acct found at = record {
  sees = λ w s served.
      let keeps = tickets_kept served in
      let p = located_pending w number acct found.ticket
      (located_is acct found at w.accounts.inbound.tickets w.accounts.outbound.tickets
      (queue_kept accts.Inbound s keeps)
      (queue_kept accts.Outbound s keeps)) in
      sym (ap shown_among p.is);
}

pub sees_none : {old : Heap} {number : ℕ} → StandsNowhere old number → Sees number old None
sees_none {old} {number} nowhere = record {
  sees = λ w s served.
      let keeps = tickets_kept served in
      let p = pending_nowhere w number (nowhere.inbound.searched w.accounts.inbound.tickets
      (queue_kept accts.Inbound s keeps))
      (nowhere.outbound.searched w.accounts.outbound.tickets (queue_kept accts.Outbound s keeps)) in
      sym (ap shown_among p.none);
}
