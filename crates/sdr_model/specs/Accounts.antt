-- Accounts of space, and the tickets in their queues.
use Rattle.std.specs.Prelude.{◌≡◌, ◌<◌, ℕ, ◌^◌, ◌==◌, List, [], ◌++◌, Bool, true, false, map, set, length, slice_get, unwrap_or, position, Option, Some}
use Rattle.std.specs.Option.{option_map, option_or}
use Rattle.sdr_base.specs.declared.account.Acct.{Acct}
use Rattle.sdr_base.specs.declared.account.Acct.TheVariants as accts
use Rattle.sdr_base.specs.declared.kind.Kind.TheVariants as kinds
use Rattle.sdr_base.specs.declared.kind.Space.{Space}
use Rattle.sdr_base.specs.declared.kind.Space.TheVariants as spaces
use Rattle.sdr_model.specs.Amounts.{amounts_by, no_amounts}
use Rattle.sdr_model.specs.declared.accounts.Account.{Account}
use Rattle.sdr_model.specs.declared.accounts.Accounts.{Accounts}
pub use Rattle.sdr_model.specs.declared.accounts.Pending.{Pending}
use Rattle.sdr_model.specs.declared.accounts.Ticket.{Ticket}
use Rattle.sdr_model.specs.declared.things.UsedBlock.{UsedBlock}

-- an account's maximum of a space, the number of a ticket and what a ticket asks of a space are at most this
abbrev pub most_amount : ℕ
most_amount = 2 ^ 40

-- what a ticket fills
abbrev pub ticket_need : ℕ
ticket_need = 96

-- the maxima of an account that is fresh, where that of heap space is this
abbrev pub fresh_maxima : ℕ → Space → ℕ
fresh_maxima heap spaces.File = most_amount
fresh_maxima heap spaces.Bulk = most_amount
fresh_maxima heap spaces.Heap = heap

-- an account without tickets
abbrev pub unused_account : ℕ → Account
unused_account heap = record { tickets = []; maxima = amounts_by (fresh_maxima heap) }

-- both accounts without tickets; the next ticket has number 1
abbrev pub fresh_accounts : ℕ → Accounts
fresh_accounts heap = record { inbound = unused_account heap; outbound = unused_account heap; next = 1 }

-- one of both
abbrev pub account_of : Accounts → Acct → Account
account_of accounts accts.Inbound = accounts.inbound
account_of accounts accts.Outbound = accounts.outbound

-- with another in its place
abbrev pub with_account : Accounts → Acct → Account → Accounts
with_account accounts accts.Inbound account = record accounts { inbound = account }
with_account accounts accts.Outbound account = record accounts { outbound = account }

-- whether two accounts are the same one
abbrev pub is_same_account : Acct → Acct → Bool
is_same_account accts.Inbound accts.Inbound = true
is_same_account accts.Outbound accts.Outbound = true
is_same_account a b = false

-- the tickets in the queue of an account
abbrev pub tickets_of : Accounts → Acct → List Ticket
tickets_of accounts acct = (account_of accounts acct).tickets

-- with these in the queue of an account
abbrev pub with_tickets : Accounts → Acct → List Ticket → Accounts
with_tickets accounts acct tickets = with_account accounts acct (record (account_of accounts acct) { tickets = tickets })

-- no ticket: what stands for one where there is none
abbrev pub no_ticket : Ticket
no_ticket = record {
  block = 0;
  number = 0;
  coarse = 0;
  fine = 0;
  asked = no_amounts;
  left = no_amounts;
  granted = false;
}

-- the ticket at a place of a queue
abbrev pub ticket_at : List Ticket → ℕ → Ticket
ticket_at tickets place = unwrap_or (slice_get tickets place) no_ticket

-- the ticket of a number in the queue of an account
abbrev pub pending_in : Accounts → Acct → ℕ → Option Pending
pending_in accounts acct number =
    let tickets = tickets_of accounts acct in
    option_map (λ place. record { acct = acct; place = place; ticket = ticket_at tickets place })
    (position (λ t. t.number == number) tickets)

-- the ticket of a number, in the queue of either account
abbrev pub pending_among : Accounts → ℕ → Option Pending
pending_among accounts number =
    option_or (pending_in accounts accts.Inbound number) (pending_in accounts accts.Outbound number)

-- the ticket stands at its place
pub record IsInPlace (accounts : Accounts) (p : Pending) : Type 0 where
  pub there : p.place < length (tickets_of accounts p.acct)
  pub is : slice_get (tickets_of accounts p.acct) p.place ≡ Some p.ticket

-- with another ticket in the place of one
abbrev pub with_ticket : Accounts → Pending → Ticket → Accounts
with_ticket accounts p ticket =
    with_tickets accounts p.acct (set (tickets_of accounts p.acct) p.place ticket)

-- the block of a ticket
abbrev pub block_for_ticket : Ticket → UsedBlock
block_for_ticket t = record { addr = t.block; kind = kinds.Ticket; bytes = ticket_need }

-- the blocks of all tickets
abbrev pub ticket_blocks : Accounts → List UsedBlock
ticket_blocks accounts = map block_for_ticket accounts.inbound.tickets ++ map block_for_ticket accounts.outbound.tickets
