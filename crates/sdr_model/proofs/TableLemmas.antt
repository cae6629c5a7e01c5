-- Where a row lies in a table.
use Rattle.std.proofs.Common.{◌≡◌, ◌+◌, ◌*◌, ◌<◌, ◌≤◌, ℕ, arith, mul-le-mul_right}

-- a row lies within the bytes of all rows
pub row-within : (rows size row length : ℕ) → row < rows → length ≡ rows * size → size * row + size ≤ length
row-within rows size row length inside whole = omega (arith, whole, mul-le-mul_right size (le inside))
  where
    le : row < rows → row + 1 ≤ rows
    le i = omega (arith, i)
