-- The queue of tickets that is kept in a heap for an account.
use Rattle.std.specs.Prelude.{◌≡◌, ◌<◌, ◌^◌, ℕ, List, ◌++◌, All, Option, Some}
use Rattle.sdr_base.specs.Blocks.{Block}
use Rattle.sdr_base.specs.Entries.{Entries, BlocksAre}
use Rattle.sdr_base.specs.Linked.{first_of, last_of, linked}
use Rattle.sdr_base.specs.Objects.{Heap}
use Rattle.sdr_base.specs.Tickets.{ticket_block}
use Rattle.sdr_base.specs.declared.account.Acct.{Acct}
use Rattle.sdr_base.specs.declared.account.Amounts.{Amounts}
use Rattle.sdr_model.specs.TicketRows.{ticket_row}
use Rattle.sdr_model.specs.declared.accounts.Ticket.{Ticket}
use Rattle.zco_acct.specs.Words.{first_word, last_word}

-- where a ticket stands
abbrev pub block_of : Ticket → ℕ
block_of t = t.block

-- the block of a ticket in the queue of an account, before another
abbrev pub queued_block : Acct → ℕ → ℕ → Ticket → Block
queued_block acct previous next t = ticket_block acct previous next (ticket_row t)

-- the blocks of the tickets in the queue of an account: a chain in queue order
abbrev pub queue_entries : Acct → List Ticket → Entries
queue_entries acct tickets = linked block_of (queued_block acct) 0 0 tickets

-- each amount fits a word
pub record AmountsFit (amounts : Amounts) : Type 0 where
  pub file : amounts.file < 2 ^ 64
  pub bulk : amounts.bulk < 2 ^ 64
  pub heap : amounts.heap < 2 ^ 64

-- the numbers of a ticket fit their words, and its priorities a byte
pub record TicketFits (t : Ticket) : Type 0 where
  pub block : t.block < 2 ^ 64
  pub number : t.number < 2 ^ 64
  pub coarse : t.coarse < 2 ^ 8
  pub fine : t.fine < 2 ^ 8
  pub asked : AmountsFit t.asked
  pub left : AmountsFit t.left

-- the heap keeps these tickets in the queue of an account
pub record KeepsQueue (heap : Heap) (acct : Acct) (tickets : List Ticket) : Type 0 where
  pub rest : Entries
  pub stands : BlocksAre heap.blocks (queue_entries acct tickets ++ rest)
  pub first : heap.roots (first_word acct) ≡ first_of block_of 0 tickets
  pub last : heap.roots (last_word acct) ≡ last_of block_of 0 tickets
  pub fits : All TicketFits tickets

-- it keeps some queue for the account
pub record SomeQueue (heap : Heap) (acct : Acct) : Type 0 where
  pub tickets : List Ticket
  pub keeps : KeepsQueue heap acct tickets

-- what stands there is the block of this ticket, before the next one
pub record KeepsTicket (found : Option Block) (acct : Acct) (next : ℕ) (t : Ticket) : Type 0 where
  pub block : found ≡ Some (queued_block acct 0 next t)
  pub fits : TicketFits t
  pub small : next < 2 ^ 64

-- some ticket stands there
pub record SomeTicket (found : Option Block) : Type 0 where
  pub acct : Acct
  pub next : ℕ
  pub ticket : Ticket
  pub keeps : KeepsTicket found acct next ticket
