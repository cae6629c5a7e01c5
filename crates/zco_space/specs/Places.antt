-- A new ticket, and its place in a queue.
use Rattle.std.specs.Prelude.{◌≡◌, ℕ, false, List, [], ◌∷◌, ◌++◌}
use Rattle.sdr_base.specs.Entries.{Adds}
use Rattle.sdr_base.specs.Linked.{first_of, last_of}
use Rattle.sdr_base.specs.Making.{besides, with_moves}
use Rattle.sdr_base.specs.Objects.{Heap}
use Rattle.sdr_base.specs.Tickets.{ticket_words}
use Rattle.sdr_base.specs.Words.{TakesBytes, layout}
use Rattle.sdr_base.specs.declared.account.Acct.{Acct}
use Rattle.sdr_base.specs.declared.kind.Kind.TheVariants as kinds
use Rattle.sdr_base.specs.declared.moves.Move.TheVariants.{Took}
use Rattle.sdr_model.specs.Amounts.{no_amounts}
use Rattle.sdr_model.specs.Queue.{enqueued}
use Rattle.sdr_model.specs.TicketRows.{ticket_row}
use Rattle.sdr_model.specs.declared.accounts.Ticket.{Ticket}
use Rattle.zco_acct.specs.Kept.{KeepsQueue, TicketFits, block_of, queue_entries}
use Rattle.zco_space.specs.Links.{with_ends}
use Rattle.zco_space.specs.declared.requesting.Place.{Place}

-- a ticket that is new waits, and nothing is left of it
pub record IsNew (t : Ticket) : Type 0 where
  pub left : t.left ≡ no_amounts
  pub waiting : t.granted ≡ false
  pub fits : TicketFits t

-- the ticket at an address
abbrev pub at_addr : Ticket → ℕ → Ticket
at_addr t addr = record t { block = addr }

-- a block for a ticket was taken, before another
pub record TakesTicket (acct : Acct) (t : Ticket) (next : ℕ) (old new : Heap) (addr : ℕ) : Type 0 where
  pub takes : TakesBytes kinds.Ticket (layout (ticket_words acct next (ticket_row t)) []) addr old new

-- this is where a new ticket goes in a queue
pub record IsPlace (new : Ticket) (tickets : List Ticket) (place : Place) : Type 0 where
  pub before : List Ticket
  pub behind : List Ticket
  pub whole : tickets ≡ before ++ behind
  pub enters : (addr : ℕ) → enqueued tickets (at_addr new addr) ≡ before ++ (at_addr new addr ∷ behind)
  pub at_previous : place.previous ≡ last_of block_of 0 before
  pub at_next : place.next ≡ first_of block_of 0 behind

-- so it is in whichever queue is kept
pub record FindsPlace (acct : Acct) (new : Ticket) (heap : Heap) (place : Place) : Type 0 where
  pub finds : (tickets : List Ticket) → KeepsQueue heap acct tickets → IsPlace new tickets place

-- the new ticket has entered whichever queue is kept, and all else stays
pub record EntersQueue (acct : Acct) (new : Ticket) (old now : Heap) (addr : ℕ) : Type 0 where
  pub adds : (tickets : List Ticket) → KeepsQueue old acct tickets →
      Adds old.blocks now.blocks addr (queue_entries acct tickets) (queue_entries acct (enqueued tickets (at_addr new addr)))
  pub keeps : (tickets : List Ticket) → KeepsQueue old acct tickets →
      KeepsQueue now acct (enqueued tickets (at_addr new addr))
  pub others : (tickets : List Ticket) → KeepsQueue old acct tickets →
      besides now ≡ besides (with_ends (with_moves old (Took 96 addr ∷ [])) acct (enqueued tickets (at_addr new addr)))
