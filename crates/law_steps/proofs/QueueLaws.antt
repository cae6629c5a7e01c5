-- Every step keeps the queue law, but for the front of the queues.
use Rattle.std.proofs.Common.{◌≡◌, ℕ, ◌+◌, ◌<◌, ◌≤◌, ◌==◌, List, true, false, true≢false, inl, inr, Option, Some, None, remove, set, refl, sym, ap, ◌∙◌, subst, arith}
use Rattle.std.specs.Prelude.{IfSome, slice_get, unwrap_or}
use Rattle.std.proofs.lemmas.Bool.Decides.{nat_tests}
use Rattle.sdr_base.specs.declared.account.Acct.{Acct}
use Rattle.sdr_base.specs.declared.account.Amounts.{Amounts}
use Rattle.sdr_base.specs.declared.kind.Space.{Space}
use Rattle.sdr_base.specs.declared.kind.Space.TheVariants as spaces
use Rattle.sdr_base.specs.declared.moves.Move.{Move}
use Rattle.law_steps.proofs.AccountQueues.{Queues, StandsAt, account_kept, changed, entered, keep_from, queues_from, stands_there, with_maxima}
use Rattle.law_steps.proofs.Effects.{Plain}
use Rattle.law_steps.proofs.PlainRows.{row_change}
use Rattle.law_steps.proofs.QueueLemmas.{IsAlike, MayReplace, gone_queue, replaced_queue, served_queue, times_gone, times_replaced, times_served}
use Rattle.law_steps.proofs.QueueOrder.{enqueued_is, placed}
use Rattle.law_steps.proofs.ZcoOutcomes.{AccountChange, IsCharged, Queued, ZcoOutcome}
use Rattle.law_steps.proofs.ZcoRows.{zco_row}
use Rattle.sdr_model.specs.AccountSteps.{new_ticket, with_amount}
use Rattle.sdr_model.specs.Accounts.{account_of, most_amount, pending_in, tickets_of, with_ticket, with_tickets}
use Rattle.sdr_model.specs.declared.accounts.Pending.{Pending}
use Rattle.sdr_model.specs.Amounts.{amounts_by, are_within, first_above, minus}
use Rattle.sdr_model.specs.Charges.{occupancies}
use Rattle.sdr_model.specs.Charging.{with_covered}
use Rattle.sdr_model.specs.Queue.{served, with_served}
use Rattle.sdr_model.specs.Rows.{ByRow}
use Rattle.sdr_model.specs.Step.{Step}
use Rattle.sdr_model.specs.Steps.{Outcome}
use Rattle.sdr_model.specs.Valid.{IsValidTicket, KeepQueues}
use Rattle.sdr_model.specs.World.{World}
use Rattle.sdr_model.specs.declared.accounts.Accounts.{Accounts}
use Rattle.sdr_model.specs.declared.accounts.Ticket.{Ticket}
use Rattle.sdr_model.specs.declared.answer.Reply.{Reply}
use Rattle.sdr_model.specs.declared.call.Call.{Call}

-- amounts within others
pub within_less : (a b c : Amounts) → are_within a c ≡ true → are_within (minus a b) c ≡ true
within_less a b c h = grind (arith, nat_tests)

pub within_all : (a b c : Amounts) → first_above a b ≡ None → are_within b c ≡ true → are_within a c ≡ true
within_all a b c h k = grind (arith, nat_tests)

within_most : (a : Amounts) (space : Space) (value : ℕ) → value ≤ most_amount
    → are_within a (amounts_by (λ space. most_amount)) ≡ true
    → are_within (with_amount a space value) (amounts_by (λ space. most_amount)) ≡ true
within_most a spaces.File value low h = grind (arith, nat_tests)
within_most a spaces.Bulk value low h = grind (arith, nat_tests)
within_most a spaces.Heap value low h = grind (arith, nat_tests)

-- a granted ticket may have less left
used_may : (ts : List Ticket) (i : ℕ) (t : Ticket) (amounts : Amounts) → slice_get ts i ≡ Some t → t.granted ≡ true
    → MayReplace ts i (record t { left = minus t.left amounts })
used_may ts i t amounts is granted = record {
  alike = λ s at. subst (λ s. IsAlike s (record t { left = minus t.left amounts })) (same s at)
      (record { number = refl; coarse = refl; fine = refl; granted = refl });
  valid = λ s at v.
      let v' : IsValidTicket t = subst IsValidTicket (sym (same s at)) v in
      record {
        asked = v'.asked;
        left = within_less t.left amounts t.asked v'.left;
        waiting = λ waits. absurd (true≢false (sym granted ∙ waits));
      };
}
  where
    same : (s : Ticket) → slice_get ts i ≡ Some s → t ≡ s
    same s at = ap (λ o. unwrap_or o t) (sym is ∙ at)

used_keeps : (a : Accounts) (acct : Acct) (p : Pending) (amounts : Amounts) → StandsAt a acct p
    → p.ticket.granted ≡ true → Queues a
    → Queues (with_ticket a p (record p.ticket { left = minus p.ticket.left amounts }))
used_keeps a acct p amounts at granted q =
    let u : Ticket = record p.ticket { left = minus p.ticket.left amounts } in
    subst (λ b. Queues (with_tickets a b (set (tickets_of a b) p.place u))) (sym at.acct_is)
    (let may = used_may (tickets_of a acct) p.place p.ticket amounts at.ticket_is granted in
    changed a acct (set (tickets_of a acct) p.place u) q
    (replaced_queue a.next (tickets_of a acct) p.place u may (account_kept a acct q).queue)
    (λ k. omega (arith, times_replaced k (tickets_of a acct) p.place u may.alike)))

charge_keeps : {w used : World} {acct : Acct} {number : ℕ} {adds : Space → ℕ} → IsCharged w acct number adds used
    → Queues w.accounts
    → Queues used.accounts
charge_keeps {w} {used} {acct} {number} {adds} c q = subst (λ (v : World). Queues v.accounts) (sym c.used_is)
    (by c.pending c.there)
  where
    by : (p : Option Pending)
        → IfSome p (λ p. (pending_in w.accounts acct number ≡ Some p) × (p.ticket.granted ≡ true))
        → Queues (with_covered w p (amounts_by adds)).accounts
    by None h = q
    by (Some p) h =
        used_keeps w.accounts acct p (amounts_by adds) (stands_there w.accounts acct number p h.0) h.1 q

pub queued_keeps : (w : World) (acct : Acct) (a : Accounts) {lost : Space → ℕ} → Queued w acct a lost
    → Queues w.accounts → Queues a
queued_keeps w acct a (Queued.same l is) q = subst Queues (sym is) q
queued_keeps w acct a (Queued.maximum space value low l is) q =
    subst Queues (sym is) (with_maxima w.accounts acct (with_amount (account_of w.accounts acct).maxima space value) q
    (within_most (account_of w.accounts acct).maxima space value low (account_kept w.accounts acct q).maxima))
queued_keeps w acct a (Queued.entered t asked block coarse fine new above last l is) q =
    let ts = tickets_of w.accounts acct in
    subst Queues (sym (is ∙ ap (λ us. record (with_tickets w.accounts acct us) { next = t.number + 1 })
    (enqueued_is ts t)))
    (subst (λ t. Queues (record (with_tickets w.accounts acct (placed ts t)) { next = t.number + 1 })) (sym new)
    (entered w.accounts acct (new_ticket w.accounts.next block asked coarse fine) q refl refl
    (record {
      asked = within_all asked (account_of w.accounts acct).maxima (amounts_by (λ space. most_amount)) above
          (account_kept w.accounts acct q).maxima;
      left = grind (arith, nat_tests);
      waiting = λ waits. refl;
    }) (below_most w.accounts.next last q.next)))
  where
    below_most : (next : ℕ) → (next == most_amount) ≡ false → next ≤ most_amount → next < most_amount
    below_most next last low = grind (arith, nat_tests)
queued_keeps w acct a (Queued.gone place l is) q =
    let ts = tickets_of w.accounts acct in
    subst Queues (sym is) (changed w.accounts acct (remove ts place) q
    (gone_queue w.accounts.next ts place (account_kept w.accounts acct q).queue) (λ k. times_gone k ts place))

pub served_keeps : (v : World) (acct : Acct) → Queues v.accounts → Queues (with_served v acct).accounts
served_keeps v acct q =
    let ts = tickets_of v.accounts acct in
    let m = (account_of v.accounts acct).maxima in
    changed v.accounts acct (served m (occupancies v acct) ts) q
    (served_queue v.accounts.next m (occupancies v acct) ts (account_kept v.accounts acct q).queue)
    (λ k. omega (arith, times_served k m (occupancies v acct) ts))

pub change_keeps : {w after : World} {acct : Acct} {number : ℕ} {adds frees lost : Space → ℕ}
    → AccountChange w after acct number adds frees lost
    → Queues w.accounts → Queues after.accounts
change_keeps (AccountChange.stays a f l is) q = subst Queues (sym is) q
change_keeps (AccountChange.charged used c f l is) q = subst Queues (sym is) (charge_keeps c q)
change_keeps {w} {after} {acct} (AccountChange.served v a queued things is) q =
    subst Queues (sym is) (served_keeps v acct (queued_keeps w acct v.accounts queued q))

plain_keeps : {w : World} {o : Outcome} → Plain w o → o.after.accounts ≡ w.accounts
plain_keeps (Plain.leaves things accounts) = accounts
plain_keeps (Plain.swaps addr before after was a b bytes things accounts) = accounts
plain_keeps (Plain.frees addr bytes is none things accounts) = accounts

zco_keeps : {w : World} {call : Call} {o : Outcome} → ZcoOutcome w call o → Queues w.accounts → Queues o.after.accounts
zco_keeps (ZcoOutcome.refuses answer is) q = subst (λ (v : World). Queues v.accounts) (sym is) q
zco_keeps (ZcoOutcome.makes_source owes s is) q = subst Queues (sym is) q
zco_keeps (ZcoOutcome.drops_source owes addr s was unused things is) q = subst Queues (sym is) q
zco_keeps (ZcoOutcome.flags_source owes addr s was used things is) q = subst Queues (sym is) q
zco_keeps (ZcoOutcome.serves_queue acct lost owes things change) q = change_keeps change q
zco_keeps (ZcoOutcome.makes_object n) q = change_keeps n.accounts q
zco_keeps (ZcoOutcome.reshapes n) q = change_keeps n.accounts q
zco_keeps (ZcoOutcome.takes_over n) q = change_keeps n.accounts q
zco_keeps (ZcoOutcome.bonds n) q = change_keeps n.accounts q
zco_keeps (ZcoOutcome.drops n) q = change_keeps n.accounts q

row_keeps : (w : World) (call : Call) (o : Outcome) → ByRow w o call → Queues w.accounts → Queues o.after.accounts
row_keeps w call o row q =
    row_change w call o row (λ other plain. subst Queues (sym (plain_keeps plain)) q)
    (λ is. zco_keeps (zco_row w call is o row) q)

-- A step keeps the queue law.
pub queues_kept : (w w' : World) (call : Call) (moves : List Move) (reply : Reply) → KeepQueues w.accounts
    → Step w call moves w' reply → KeepQueues w'.accounts
queues_kept w w' call moves reply keep (inl row) =
    keep_from w'.accounts
    (row_keeps w call (record { moves = moves; after = w'; reply = reply }) row (queues_from w.accounts keep))
queues_kept w w' call moves reply keep (inr stops) = subst (λ (v : World). KeepQueues v.accounts) (sym stops.same) keep
