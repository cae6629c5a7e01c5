-- What waits in a buffer before an output.
use Rattle.std.specs.Prelude.{ℕ, List, Option}
use Rattle.std.specs.Io.KnownBytes.{Appends}

-- the bytes that wait, and how often a write was refused since something was last put
pub record Waiting : Type 0 where
  pub bytes : List ℕ
  pub refused : ℕ

-- known bytes stay at the front, and some come behind them
pub record Grows (old new : Option (List ℕ)) : Type 0 where
  pub more : List ℕ
  pub written : Appends old new more
