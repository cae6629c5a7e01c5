-- Sums that may be more than a word holds.
use Rattle.sdr_base.specs.declared.account.Amounts.{Amounts}
use Rattle.sdr_base.specs.declared.kind.Space.{Space}
use Rattle.sdr_model.specs.Amounts.{amounts_by}
use Rattle.std.specs.Prelude.{ℕ, min}

-- what a word holds of a number: the number, or the greatest word where it is more
abbrev pub capped : ℕ → ℕ
capped n = min n 18446744073709551615

-- so much of each space, as words hold it
abbrev pub capped_by : (Space → ℕ) → Amounts
capped_by of = amounts_by (λ space. capped (of space))
