-- Charges: what an account allows, with a ticket or without.
use Rattle.std.specs.Prelude.{ℕ, ◌==◌, Option, None, Some, MatchBool}
use Rattle.sdr_base.specs.declared.account.Acct.{Acct}
use Rattle.sdr_base.specs.declared.account.Amounts.{Amounts}
use Rattle.sdr_base.specs.declared.kind.Space.{Space}
use Rattle.sdr_base.specs.declared.refusal.Refusal.{Refusal}
use Rattle.sdr_base.specs.declared.refusal.Refusal.TheVariants as refusals
use Rattle.sdr_model.specs.Accounts.{Pending, account_of, pending_in, tickets_of, with_ticket}
use Rattle.sdr_model.specs.Amounts.{amount, amounts_by, first_above, minus, no_amounts}
use Rattle.sdr_model.specs.Charges.{occupancy, rooms}
use Rattle.sdr_model.specs.Queue.{barrier}
use Rattle.sdr_model.specs.Steps.{Outcome, RefusedFor, RefusedUnless, RefusedWithout}
use Rattle.sdr_model.specs.World.{World}

-- The call is refused where the account has no such ticket or it waits, and else goes on with it. 0 is no ticket.
abbrev pub OnTicket : World → Outcome → Acct → ℕ → (Option Pending → Type 0) → Type 0
OnTicket w o acct number goes =
    MatchBool (number == 0) (goes None)
    (RefusedWithout w o (pending_in w.accounts acct number) (refusals.BadTicket number)
    (λ p. RefusedUnless w o p.ticket.granted (refusals.NotAwarded number)
    (goes (Some p))))

-- what is left of the grant of a ticket; nothing where there is none
abbrev pub grant_left : Option Pending → Amounts
grant_left None = no_amounts
grant_left (Some p) = p.ticket.left

-- the world in which the grant of a ticket covers of these amounts what it can
abbrev pub with_covered : World → Option Pending → Amounts → World
with_covered w None amounts = w
with_covered w (Some p) amounts = record w {
  accounts = with_ticket w.accounts p (record p.ticket { left = minus p.ticket.left amounts });
}

-- the refusal of amounts above the room of an account
abbrev pub no_space : World → Acct → Amounts → Space → Refusal
no_space w acct uncovered space =
    refusals.NoSpace space (occupancy w acct space) (amount uncovered space)
    (amount (account_of w.accounts acct).maxima space)

-- The call charges an account. What is left of the ticket's grant covers what it can. Where anything isn't covered and a
-- ticket waits, the call is refused; else where what isn't covered is above the room, for the first such space. Else it
-- goes on in the world in which the grant is used.
abbrev pub Charges : World → Outcome → Acct → ℕ → (Space → ℕ) → (World → Type 0) → Type 0
Charges w o acct number charge goes =
    OnTicket w o acct number (λ p.
    let uncovered = minus (amounts_by charge) (grant_left p) in
    RefusedFor w o (barrier uncovered (tickets_of w.accounts acct)) (λ t. refusals.Queue t.number)
    (RefusedFor w o (first_above uncovered (rooms w acct)) (no_space w acct uncovered)
    (goes (with_covered w p (amounts_by charge)))))
