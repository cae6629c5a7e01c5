-- When a disk isn't put back.
use Rattle.std.specs.Prelude.{◌≤◌, ℕ, ⊤, Result, IfErr}
use Rattle.sdr_base.specs.Causes.{Rose}
use Rattle.sdr_log.specs.declared.error.BackError.{BackError}
use Rattle.sdr_log.specs.declared.error.BackError.TheVariants as errors

-- what holds where the log is bad
abbrev pub OnBadLog : BackError → Type 0 → Type 0
OnBadLog errors.BadLog P = P
OnBadLog error P = ⊤

-- what holds where the disk didn't fail
abbrev pub UnlessFault : BackError → Type 0 → Type 0
UnlessFault errors.DiskFault P = ⊤
UnlessFault error P = P

-- what holds where the disk failed
abbrev pub OnFault : BackError → Type 0 → Type 0
OnFault errors.DiskFault P = P
OnFault error P = ⊤

-- the count of faults has not fallen, and a fault has its cause
pub record HasBackCause {T : Type 0} (before now : ℕ) (result : Result T BackError) : Type 0 where
  pub later : before ≤ now
  pub explained : IfErr result (λ why. OnFault why (Rose before now))
