-- A heap on a disk that was handed in, under a condition on this disk as it was: what it stands for, and what a crash leaves of it.
use Rattle.std.specs.Prelude.{ℕ, Bool, List}
use Rattle.sdr_machine.specs.Standing.{GroundState}
use Rattle.sdr_station.specs.CrashNow as station
use Rattle.sdr_station.specs.Grounded.{Grounded, Leaves, OpensAs, StandsForBoth, StandsInMemory}

-- The heap stands for the states before the transaction and now: it does so in memory, and on its disk where the condition was met.
pub record StandsWhere {D M : Type 0} (condition : Type 0) (bytes : D → List ℕ) (tells : D → Bool) (moment : D → ℕ)
    (may_hold_after : D → ℕ → List ℕ → Type 0) (g : Grounded D M) (v : GroundState) : Type 0 where
  pub memory : StandsInMemory g v
  pub disk : condition → StandsForBoth bytes tells moment may_hold_after g v

-- The condition was met, and a crash at a moment may leave this of a disk that tells it.
pub record LeavesWhere {D : Type 0} (condition : Type 0) (tells : D → Bool) (may_hold_after : D → ℕ → List ℕ → Type 0) (disk : D)
    (m : ℕ) (image : List ℕ) : Type 0 where
  pub met : condition
  pub left : Leaves tells may_hold_after disk m image

-- a crash now leaves what opens to the state before the transaction
pub crash_now : {D M : Type 0} (condition : Type 0) (bytes : D → List ℕ) (tells : D → Bool) (moment : D → ℕ) (may_hold_after : D → ℕ → List ℕ → Type 0)
    (g : Grounded D M) (v : GroundState) (image : List ℕ) → StandsWhere condition bytes tells moment may_hold_after g v
    → LeavesWhere condition tells may_hold_after g.heap.cells.disk g.moment image → OpensAs image v.before
crash_now condition bytes tells moment may_hold_after g v image at l = station.crash_now bytes tells moment may_hold_after g v image (at.disk l.met) l.left
