-- A number for each word of a heap region, in memory.
use Rattle.std.specs.Prelude.{◌≡◌, ◌<◌, ◌-◌, ◌*◌, ◌^◌, ℕ, List, get_or, length, min}
use Rattle.sdr_base.specs.declared.line.TheConstants.{WORD}

-- each word has the number of its place, or the greatest that fits where that is less
pub record AreTold (number : ℕ → ℕ) (numbers : List ℕ) : Type 0 where
  pub each : (word : ℕ) → word < length numbers → get_or numbers word 0 ≡ min (number (WORD * word)) (2 ^ 64 - 1)
