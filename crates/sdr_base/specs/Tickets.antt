-- The blocks that keep the tickets of an account: a chain in queue order.
use Rattle.std.specs.Prelude.{ℕ, Bool, List, [], ◌∷◌, ◌++◌}
use Rattle.sdr_base.specs.Blocks.{Block}
use Rattle.sdr_base.specs.Entries.{Entries}
use Rattle.sdr_base.specs.Linked.{linked}
use Rattle.sdr_base.specs.Sources.{flag_word}
use Rattle.sdr_base.specs.Words.{layout}
use Rattle.sdr_base.specs.ZcoObjects.{account_number}
use Rattle.sdr_base.specs.declared.account.Acct.{Acct}
use Rattle.sdr_base.specs.declared.account.Amounts.{Amounts}
use Rattle.sdr_base.specs.declared.kind.Kind.TheVariants as kinds

-- a ticket: its address and number, its coarse and fine priority, what it asks and what is left of its grant, and whether
-- it is granted
pub record TicketRow : Type 0 where
  pub addr : ℕ
  pub number : ℕ
  pub coarse : ℕ
  pub fine : ℕ
  pub asked : Amounts
  pub left : Amounts
  pub granted : Bool

-- where a ticket stands
abbrev pub ticket_addr : TicketRow → ℕ
ticket_addr row = row.addr

-- the words of an amount of each space: file, bulk and heap
abbrev pub amount_words : Amounts → List ℕ
amount_words amounts = amounts.file ∷ amounts.bulk ∷ amounts.heap ∷ []

-- the words of a ticket in the queue of an account, before another
abbrev pub ticket_words : Acct → ℕ → TicketRow → List ℕ
ticket_words account next row =
    row.number ∷ account_number account ∷ row.coarse ∷ row.fine
    ∷ amount_words row.asked ++ amount_words row.left ++ flag_word row.granted ∷ next ∷ []

-- the block of a ticket
abbrev pub ticket_block : Acct → ℕ → ℕ → TicketRow → Block
ticket_block account previous next row =
    record { kind = kinds.Ticket; bytes = layout (ticket_words account next row) [] }

-- the blocks of the tickets of an account
abbrev pub ticket_entries : Acct → List TicketRow → Entries
ticket_entries account rows = linked ticket_addr (ticket_block account) 0 0 rows
