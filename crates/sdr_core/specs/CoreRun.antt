-- A core as a run.
use Rattle.std.proofs.Common.{ap, sym}
use Rattle.std.specs.Prelude.{◌≡◌, List, ℕ, [], true, if◌then◌else◌}
use Rattle.sdr_machine.specs.Core.{Core}
use Rattle.sdr_machine.specs.Serving.{IsInState}
use Rattle.sdr_machine.specs.Standing.{GroundState}
use Rattle.sdr_machine.specs.Transaction.{bytes_given}
use Rattle.sdr_machine.specs.declared.came.Came.{Came}
use Rattle.sdr_machine.specs.declared.has_ground.HasGround.{Ghosts}
use Rattle.sdr_core.specs.CoreKept.{LoggedLock, core_at}

-- the lock stands for something, by which this is the core
pub record CoreAt {T : Type 0} (g : Ghosts T) (k : LoggedLock T) (c : Core) : Type 0 where
  pub for : GroundState
  pub stood : IsInState g.stands k.lock for
  pub is : core_at k for ≡ c

-- whatever the ground stands for, these are the bytes that an event gave which was answered so
abbrev pub GivesBytes : {T : Type 0} → Ghosts T → LoggedLock T → Came → List ℕ → Type 0
GivesBytes g k a bytes =
    (v : GroundState) → (a.called ≡ true → g.stands k.lock.base v)
    → bytes ≡ (if a.called then bytes_given a.answer v.now.world.shown else [])

-- its daemons are those of the lock
pub rolls_at : {T : Type 0} (g : Ghosts T) (k : LoggedLock T) (c : Core) → CoreAt g k c → c.machine.roll ≡ k.lock.roll
rolls_at g k c at = ap (λ (x : Core). x.machine.roll) (sym at.is)
