-- How an input is held.
use Rattle.std.proofs.Common.{ℕ, ◌≤◌, ◌+◌, ◌≡◌, arith}
use Rattle.std.proofs.KnownBytes.{Consumes-nil, Consumes-trans, Consumes-kept}
use Rattle.std.proofs.lemmas.Slice.{overwrites}
use Rattle.sdr_base.specs.Causes.{Rose, counted}

-- a count that rose in a part of the time rose in all of it
pub rose_later : (first before now : ℕ) → first ≤ before → Rose before now → Rose first now
rose_later first before now le rose = omega (arith, le, rose)

-- a count goes up by one at most
pub counted_once : (before now : ℕ) → now ≡ counted before → now ≤ before + 1
counted_once before now is = omega (arith, is)

pub ruleset holding = (Consumes-nil, Consumes-trans, Consumes-kept, rose_later, counted_once, overwrites)
