-- The queue of an account's tickets.
use Rattle.std.specs.Prelude.{◌==◌, ◌&&◌, ◌||◌, not, List, [], ◌∷◌, Bool, true, find, insert, nat_lt, nat_le, Option, None, if◌then◌else◌}
use Rattle.std.specs.List.{prefix_len}
use Rattle.sdr_base.specs.declared.account.Acct.{Acct}
use Rattle.sdr_base.specs.declared.account.Amounts.{Amounts}
use Rattle.sdr_model.specs.Accounts.{account_of, tickets_of, with_tickets}
use Rattle.sdr_model.specs.Amounts.{are_within, minus, plus, is_nothing}
use Rattle.sdr_model.specs.Charges.{occupancies}
use Rattle.sdr_model.specs.World.{World}
use Rattle.sdr_model.specs.declared.accounts.Ticket.{Ticket}

-- whether a ticket stands before another that comes to wait: it is granted, or hasn't less priority
abbrev pub stands_before : Ticket → Ticket → Bool
stands_before t new = t.granted || nat_lt new.coarse t.coarse || (t.coarse == new.coarse && nat_le new.fine t.fine)

-- the queue with a new ticket: behind those that stand before it
abbrev pub enqueued : List Ticket → Ticket → List Ticket
enqueued tickets new = insert tickets (prefix_len (λ t. stands_before t new) tickets) new

-- the ticket with all that it asks granted
abbrev pub granted : Ticket → Ticket
granted t = record t { left = t.asked; granted = true }

-- The queue, served: the first waiting ticket is granted while each amount that it asks is at most the room, and a
-- grant is occupied from then on.
abbrev pub served : Amounts → Amounts → List Ticket → List Ticket
served maxima occupied [] = []
served maxima occupied (t ∷ ts) =
    if t.granted then t ∷ served maxima occupied ts
    else if are_within t.asked (minus maxima occupied) then granted t ∷ served maxima (plus occupied t.asked) ts
    else t ∷ ts

-- the world with an account's queue served
abbrev pub with_served : World → Acct → World
with_served w acct = record w {
  accounts =
      with_tickets w.accounts acct
      (served (account_of w.accounts acct).maxima (occupancies w acct) (tickets_of w.accounts acct));
}

-- the first ticket that waits
abbrev pub front_waiting : List Ticket → Option Ticket
front_waiting = find (λ t. not t.granted)

-- the ticket that is before a charge: the first that waits, where anything isn't covered
abbrev pub barrier : Amounts → List Ticket → Option Ticket
barrier uncovered tickets = if is_nothing uncovered then None else front_waiting tickets
