-- A held input as a source, as contracts see it.
use Rattle.std.specs.Prelude.{ℕ, List, Bool}

-- the bytes that are left, whether a fault comes behind them, and the faults and reads so far
pub record HeldFeed : Type 0 where
  pub left : List ℕ
  pub failed : Bool
  pub faults : ℕ
  pub reads : ℕ
