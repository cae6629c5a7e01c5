-- How long a line grows.
use Rattle.std.specs.Prelude.{decimal}
use Rattle.std.proofs.lemmas.Fmt.{length-decimal-le}
use Rattle.std.proofs.Common.{◌<◌, ◌≤◌, ◌^◌, ℕ, length, length-append, arith}

-- a number of 64 bits has at most 20 digits
pub short_digits : (n : ℕ) → n < 2 ^ 64 → length (decimal n) ≤ 20
short_digits n fits = length-decimal-le 20 n (omega arith) (omega arith) fits

pub ruleset digits = (short_digits, length-append)
