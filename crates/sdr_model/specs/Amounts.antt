-- Amounts of the spaces that an account has.
use Rattle.std.specs.Prelude.{ℕ, ◌+◌, ◌-◌, ◌==◌, Bool, true, false, ◌&&◌, nat_le, nat_lt, Option, None, Some, if◌then◌else◌}
use Rattle.sdr_base.specs.declared.account.Amounts.{Amounts}
use Rattle.sdr_base.specs.declared.kind.Space.{Space}
use Rattle.sdr_base.specs.declared.kind.Space.TheVariants as spaces

-- the amount of a space
abbrev pub amount : Amounts → Space → ℕ
amount a spaces.File = a.file
amount a spaces.Bulk = a.bulk
amount a spaces.Heap = a.heap

-- so much of each space
abbrev pub amounts_by : (Space → ℕ) → Amounts
amounts_by of = record { file = of spaces.File; bulk = of spaces.Bulk; heap = of spaces.Heap }

-- nothing of any space
abbrev pub no_amounts : Amounts
no_amounts = amounts_by (λ space. 0)

-- whether two spaces are the same
abbrev pub is_same_space : Space → Space → Bool
is_same_space spaces.File spaces.File = true
is_same_space spaces.Bulk spaces.Bulk = true
is_same_space spaces.Heap spaces.Heap = true
is_same_space a b = false

-- so much in one space: how much that is of each space
abbrev pub in_space : Space → ℕ → Space → ℕ
in_space one n space = if is_same_space one space then n else 0

-- space by space, the sum of two amounts
abbrev pub plus : Amounts → Amounts → Amounts
plus a b = amounts_by (λ space. amount a space + amount b space)

-- space by space, what of an amount another doesn't cover
abbrev pub minus : Amounts → Amounts → Amounts
minus a b = amounts_by (λ space. amount a space - amount b space)

-- whether the amount is nothing of any space
abbrev pub is_nothing : Amounts → Bool
is_nothing a = a.file == 0 && a.bulk == 0 && a.heap == 0

-- whether the amount is at most another in each space
abbrev pub are_within : Amounts → Amounts → Bool
are_within a b = nat_le a.file b.file && nat_le a.bulk b.bulk && nat_le a.heap b.heap

-- the first space, of file, bulk and heap, in which the amount is above another
abbrev pub first_above : Amounts → Amounts → Option Space
first_above a b =
    if nat_lt b.file a.file then Some spaces.File
    else if nat_lt b.bulk a.bulk then Some spaces.Bulk
    else if nat_lt b.heap a.heap then Some spaces.Heap
    else None
