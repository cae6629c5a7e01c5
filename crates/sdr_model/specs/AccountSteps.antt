-- The steps of accounts and tickets.
use Rattle.std.specs.Prelude.{ℕ, ◌+◌, ◌==◌, [], ◌∷◌, Bool, false, remove, nat_lt, Option, if◌then◌else◌}
use Rattle.std.specs.Option.{option_map_or}
use Rattle.sdr_base.specs.declared.account.Acct.{Acct}
use Rattle.sdr_base.specs.declared.account.Amounts.{Amounts}
use Rattle.sdr_base.specs.declared.kind.Space.{Space}
use Rattle.sdr_base.specs.declared.refusal.Refusal.TheVariants as refusals
use Rattle.sdr_model.specs.Accounts.{Pending, account_of, most_amount, pending_among, pending_in, ticket_need, tickets_of, with_account, with_tickets}
use Rattle.sdr_model.specs.Amounts.{amount, amounts_by, first_above, is_same_space, no_amounts}
use Rattle.sdr_model.specs.Charges.{occupancy}
use Rattle.sdr_model.specs.Queue.{enqueued, with_served}
use Rattle.sdr_model.specs.Steps.{Outcome, RefusedFor, RefusedIf, RefusedUnless, RefusedWithout, ReadsBytes, Does, Takes, gave}
use Rattle.sdr_model.specs.World.{World}
use Rattle.sdr_model.specs.declared.accounts.Account.{Account}
use Rattle.sdr_model.specs.declared.accounts.Ticket.{Ticket}
use Rattle.sdr_model.specs.declared.answer.Reply.TheVariants as replies

-- the ticket of a number, in the queue of either account
abbrev pub pending_of : World → ℕ → Option Pending
pending_of w number = pending_among w.accounts number

-- what is occupied of a space is given
abbrev pub Occupancy : World → Outcome → Acct → Space → Type 0
Occupancy w o acct space = ReadsBytes w o [] (replies.Value (occupancy w acct space))

-- the maximum of a space is given
abbrev pub Maximum : World → Outcome → Acct → Space → Type 0
Maximum w o acct space = ReadsBytes w o [] (replies.Value (amount (account_of w.accounts acct).maxima space))

-- these amounts, but this one of a space
abbrev pub with_amount : Amounts → Space → ℕ → Amounts
with_amount amounts space value = amounts_by (λ other. if is_same_space space other then value else amount amounts other)

-- the account with this maximum of a space
abbrev pub with_maximum : Account → Space → ℕ → Account
with_maximum account space value = record account { maxima = with_amount account.maxima space value }

-- the maximum of a space is set, and the queue is served
abbrev pub SetMaximum : World → Outcome → Acct → Space → ℕ → Type 0
SetMaximum w o acct space value =
    RefusedIf w o (nat_lt most_amount value) (refusals.TooLarge space value most_amount)
    (Does o []
    (with_served (record w {
      accounts =
          with_account w.accounts acct (with_maximum (account_of w.accounts acct) space value);
    }) acct)
    replies.Done)

-- the world in which a new ticket has entered the queue of an account, which is served
abbrev pub with_request : World → Acct → Ticket → World
with_request w acct t =
    with_served (record w {
      accounts =
          record (with_tickets w.accounts acct (enqueued (tickets_of w.accounts acct) t)) { next = t.number + 1 };
    }) acct

-- whether the ticket is granted, where there is one
abbrev pub is_granted : Option Pending → Bool
is_granted pending = option_map_or (λ (p : Pending). p.ticket.granted) pending false

-- a new ticket that waits
abbrev pub new_ticket : ℕ → ℕ → Amounts → ℕ → ℕ → Ticket
new_ticket number block asked coarse fine = record {
  block = block;
  number = number;
  coarse = coarse;
  fine = fine;
  asked = asked;
  left = no_amounts;
  granted = false;
}

-- A new ticket asks for these amounts, where none is above its maximum. It enters the queue, and may be granted at once.
abbrev pub Request : World → Outcome → Acct → Amounts → ℕ → ℕ → Type 0
Request w o acct asked coarse fine =
    let number = w.accounts.next in
    let maxima = (account_of w.accounts acct).maxima in
    let next : ℕ → World = λ block. with_request w acct (new_ticket number block asked coarse fine) in
    RefusedFor w o (first_above asked maxima) (λ space. refusals.TooLarge space (amount asked space) (amount maxima space))
    (RefusedIf w o (number == most_amount) (refusals.BadTicket most_amount)
    (Takes w o ticket_need next
    (λ block. replies.Ticket number (is_granted (pending_in (next block).accounts acct number)))))

-- the ticket is granted, or the call is refused
abbrev pub Awarded : World → Outcome → ℕ → Type 0
Awarded w o number =
    RefusedWithout w o (pending_of w number) (refusals.BadTicket number)
    (λ p. RefusedUnless w o p.ticket.granted (refusals.NotAwarded number)
    (ReadsBytes w o [] replies.Done))

-- the world without a ticket, in which the queue is served
abbrev pub without_ticket : World → Pending → World
without_ticket w p =
    with_served (record w {
      accounts = with_tickets w.accounts p.acct (remove (tickets_of w.accounts p.acct) p.place);
    }) p.acct

-- the ticket goes, with what is left of its grant, and the queue is served
abbrev pub Shred : World → Outcome → ℕ → Type 0
Shred w o number =
    RefusedWithout w o (pending_of w number) (refusals.BadTicket number)
    (λ p. Does o (gave (p.ticket.block ∷ [])) (without_ticket w p) replies.Done)
