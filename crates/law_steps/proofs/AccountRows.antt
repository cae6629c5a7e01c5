-- The rows of accounts and tickets.
use Rattle.std.proofs.Common.{ℕ, ◌+◌, ◌==◌, nat_lt, remove, refl, sym, ap, ltb-false}
use Rattle.sdr_base.specs.declared.account.Acct.{Acct}
use Rattle.sdr_base.specs.declared.account.Amounts.{Amounts}
use Rattle.sdr_base.specs.declared.kind.Space.{Space}
use Rattle.law_steps.proofs.AccountQueues.{stands_of}
use Rattle.law_steps.proofs.BarredLemmas.{left_gone}
use Rattle.law_steps.proofs.ZcoOutcomes.{AccountChange, Queued, ZcoOutcome, nothing}
use Rattle.law_steps.specs.Charged.{of_ticket}
use Rattle.sdr_model.specs.AccountSteps.{new_ticket, pending_of, with_maximum, with_request, without_ticket}
use Rattle.sdr_model.specs.Accounts.{account_of, most_amount, tickets_of, with_account, with_tickets}
use Rattle.sdr_model.specs.Amounts.{amount, first_above}
use Rattle.sdr_model.specs.AccountSteps as account
use Rattle.sdr_model.specs.Queue.{enqueued}
use Rattle.sdr_model.specs.World.{World}
use Rattle.sdr_model.specs.declared.call.Call.TheVariants as calls
use Rattle.sdr_model.specs.declared.accounts.Ticket.{Ticket}
use Rattle.law_steps.proofs.OutcomeLemmas.{Comes, asked, found, of_nothing, owes_none, refused, takes, told}

-- the queue is served
pub set_maximum : (w : World) (acct : Acct) (space : Space) (value : ℕ)
    → Comes w (calls.SetMaximum acct space value) (λ o. account.SetMaximum w o acct space value)
set_maximum w acct space value = asked (nat_lt most_amount value) (λ above. refused) (λ within. told (λ o after.
    let accounts = with_account w.accounts acct (with_maximum (account_of w.accounts acct) space value) in
    ZcoOutcome.serves_queue acct nothing (owes_none (λ b space. refl) (λ b space. refl) (λ b space. refl))
    (ap (λ (v : World). v.things) after)
    (AccountChange.served (record w { accounts = accounts }) refl
    (Queued.maximum space value (ltb-false _ _ within) refl refl)
    (ap (λ (v : World). v.things) after) (ap (λ (v : World). v.accounts) after))))

-- the world in which a ticket has entered the queue of an account
abbrev with_entered : World → Acct → Ticket → World
with_entered w acct t = record w {
  accounts =
      record (with_tickets w.accounts acct (enqueued (tickets_of w.accounts acct) t)) { next = t.number + 1 };
}

pub request : (w : World) (acct : Acct) (file bulk heap coarse fine : ℕ)
    → Comes w (calls.Request acct file bulk heap coarse fine)
    (λ o. account.Request w o acct (record { file = file; bulk = bulk; heap = heap }) coarse fine)
request w acct file bulk heap coarse fine =
    let amounts : Amounts = record { file = file; bulk = bulk; heap = heap } in
    found (first_above amounts (account_of w.accounts acct).maxima)
    (λ low. asked (w.accounts.next == most_amount) (λ last. refused) (λ more. takes (λ o block fresh after.
    let t = new_ticket w.accounts.next block amounts coarse fine in
    ZcoOutcome.serves_queue acct nothing (owes_none (λ b space. refl) (λ b space. refl) (λ b space. refl))
    (ap (λ (v : World). v.things) after)
    (AccountChange.served (with_entered w acct t) refl
    (Queued.entered t amounts block coarse fine refl low more refl refl)
    (ap (λ (v : World). v.things) after) (ap (λ (v : World). v.accounts) after)))))
    (λ space is. refused)

pub shred : (w : World) (number : ℕ) → Comes w (calls.Shred number) (λ o. account.Shred w o number)
shred w number = found (pending_of w number) (λ none. refused) (λ p is. told (λ o after.
    ZcoOutcome.serves_queue p.acct (amount p.ticket.left)
    (record {
      charge = λ b space. sym (of_nothing p.acct b space);
      release = λ b space. sym (of_nothing p.acct b space);
      ticket = λ b space. ap (λ q. of_ticket q b space) is;
    }) (ap (λ (v : World). v.things) after)
    (AccountChange.served (record w {
      accounts = with_tickets w.accounts p.acct (remove (tickets_of w.accounts p.acct) p.place);
    }) refl (Queued.gone p.place
    (λ space. left_gone space (tickets_of w.accounts p.acct) p.place p.ticket (stands_of w number p is).ticket_is) refl)
    (ap (λ (v : World). v.things) after) (ap (λ (v : World). v.accounts) after))))
