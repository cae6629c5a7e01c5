-- What the bytes of a ticket's block say, and how its grant is written.
use Rattle.std.specs.Prelude.{◌≡◌, ◌+◌, ◌*◌, ◌==◌, ℕ, true, List, [], ◌∷◌, ◌++◌, Option}
use Rattle.sdr_base.specs.Blocks.{Block}
use Rattle.sdr_base.specs.Cells.{lines_of}
use Rattle.sdr_base.specs.Objects.{Heap, with_bytes}
use Rattle.sdr_base.specs.Stored.{number_at}
use Rattle.sdr_base.specs.Tickets.{amount_words}
use Rattle.sdr_base.specs.Words.{layout}
use Rattle.sdr_base.specs.declared.account.Acct.{Acct}
use Rattle.sdr_base.specs.declared.account.Amounts.{Amounts}
use Rattle.sdr_model.specs.declared.accounts.Ticket.{Ticket}
use Rattle.zco_acct.specs.Kept.{KeepsTicket}
use Rattle.zco_acct.specs.declared.ticket.Queued.{Queued}

-- the amounts in three words, from a field on
abbrev pub amounts_at : ℕ → List ℕ → Amounts
amounts_at field bytes = record {
  file = number_at (8 * field) bytes;
  bulk = number_at (8 * (field + 1)) bytes;
  heap = number_at (8 * (field + 2)) bytes;
}

-- the ticket that these bytes say, and the next one's address
abbrev pub queued_at : ℕ → List ℕ → Queued
queued_at addr bytes = record {
  ticket = record {
    block = addr;
    number = number_at 0 bytes;
    coarse = number_at 16 bytes;
    fine = number_at 24 bytes;
    asked = amounts_at 4 bytes;
    left = amounts_at 7 bytes;
    granted = number_at 80 bytes == 1;
  };
  next = number_at 88 bytes;
}

-- whichever ticket stands there is told, with the next one's address
pub record TellsTicket (found : Option Block) (addr : ℕ) (value : Queued) : Type 0 where
  pub tells : (acct : Acct) (next : ℕ) (t : Ticket) → KeepsTicket found acct next t → t.block ≡ addr →
      value ≡ record { ticket = t; next = next }

-- the words of a grant of which so much is left: the amounts, and that it is granted
abbrev pub grant_bytes : Amounts → List ℕ
grant_bytes left = layout (amount_words left ++ 1 ∷ []) []

-- the heap with such a grant in the block of a ticket
abbrev pub with_grant : Heap → ℕ → Amounts → Heap
with_grant heap addr left = with_bytes heap addr 56 (grant_bytes left)

-- the ticket, granted, with so much left
abbrev pub granted_with : Ticket → Amounts → Ticket
granted_with t left = record t { left = left; granted = true }

-- the lines of a grant in the block of a ticket: at most two
abbrev pub grant_lines : ℕ → List ℕ
grant_lines addr = lines_of (addr + 56) 32
