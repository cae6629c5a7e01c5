-- A ticket as the plain row that its block keeps.
use Rattle.sdr_base.specs.Tickets.{TicketRow}
use Rattle.sdr_model.specs.declared.accounts.Ticket.{Ticket}

-- a ticket
abbrev pub ticket_row : Ticket → TicketRow
ticket_row t = record {
  addr = t.block;
  number = t.number;
  coarse = t.coarse;
  fine = t.fine;
  asked = t.asked;
  left = t.left;
  granted = t.granted;
}
