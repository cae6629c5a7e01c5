-- The control words of an account, and what they say.
use Rattle.std.specs.Prelude.{ℕ, ◌+◌, ◌*◌, List, ◌++◌}
use Rattle.sdr_base.specs.Cells.{lines_of}
use Rattle.sdr_base.specs.Objects.{Heap, with_root}
use Rattle.sdr_base.specs.declared.account.Acct.{Acct}
use Rattle.sdr_base.specs.declared.account.Acct.TheVariants as accts
use Rattle.sdr_base.specs.declared.account.Amounts.{Amounts}
use Rattle.sdr_base.specs.declared.control.TheConstants.{INBOUND, OUTBOUND, FILE_OCCUPANCY, FILE_MAXIMUM, FIRST_TICKET, LAST_TICKET}
use Rattle.sdr_base.specs.declared.kind.Space.{Space}
use Rattle.sdr_base.specs.declared.line.TheConstants.{WORD}
use Rattle.sdr_base.specs.declared.kind.Space.TheVariants as spaces
use Rattle.sdr_model.specs.Amounts.{amounts_by}

-- where the control words of an account begin
abbrev pub begin_of : Acct → ℕ
begin_of accts.Inbound = INBOUND
begin_of accts.Outbound = OUTBOUND

-- the place of a space among the three words of an amount
abbrev pub space_place : Space → ℕ
space_place spaces.File = 0
space_place spaces.Bulk = 1
space_place spaces.Heap = 2

-- the control word of what is occupied of a space
abbrev pub occupancy_word : Acct → Space → ℕ
occupancy_word acct space = begin_of acct + FILE_OCCUPANCY + space_place space

-- the control word of the maximum of a space
abbrev pub maximum_word : Acct → Space → ℕ
maximum_word acct space = begin_of acct + FILE_MAXIMUM + space_place space

-- the control word of the first ticket
abbrev pub first_word : Acct → ℕ
first_word acct = begin_of acct + FIRST_TICKET

-- the control word of the last ticket
abbrev pub last_word : Acct → ℕ
last_word acct = begin_of acct + LAST_TICKET

-- what is occupied in an account
abbrev pub occupied_in : Heap → Acct → Amounts
occupied_in heap acct = amounts_by (λ space. heap.roots (occupancy_word acct space))

-- the maxima of an account
abbrev pub maxima_in : Heap → Acct → Amounts
maxima_in heap acct = amounts_by (λ space. heap.roots (maximum_word acct space))

-- the heap with these amounts occupied in an account
abbrev pub with_occupied : Heap → Acct → Amounts → Heap
with_occupied heap acct amounts =
    with_root
    (with_root (with_root heap (occupancy_word acct spaces.File) amounts.file) (occupancy_word acct spaces.Bulk) amounts.bulk)
    (occupancy_word acct spaces.Heap) amounts.heap

-- the lines of the control words that say what is occupied in an account
abbrev pub occupied_lines : Acct → List ℕ
occupied_lines acct =
    lines_of (WORD * occupancy_word acct spaces.File) WORD ++ lines_of (WORD * occupancy_word acct spaces.Bulk) WORD
    ++ lines_of (WORD * occupancy_word acct spaces.Heap) WORD
