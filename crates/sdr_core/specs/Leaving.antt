-- What a core has come to by some events.
use Rattle.std.specs.Prelude.{◌≡◌, ℕ, List}
use Rattle.sdr_machine.specs.Core.{Core}
use Rattle.sdr_machine.specs.Lapses.{LapsesLast}
use Rattle.sdr_machine.specs.Machine.{Made}
use Rattle.sdr_machine.specs.Serving.{IsInState, IsInSomeState}
use Rattle.sdr_machine.specs.Standing.{GroundState}
use Rattle.sdr_machine.specs.declared.has_ground.HasGround.{Ghosts}
use Rattle.sdr_core.specs.CoreKept.{LoggedLock, core_at}

-- some events were made, by which a core has come to this, and P tells of them
pub record Ran (P : List Made → Core → Type 0) (core : Core) : Type 0 where
  pub made : List Made
  pub tells : P made core

-- Whatever core it was, some events of which P tells were made of it, by which it has come to one that it is now. Its media tell the
-- same, and no count of theirs has fallen.
pub record RunLeads {T : Type 0} (g : Ghosts T) (P : Core → List Made → Core → Type 0) (old new : LoggedLock T) : Type
    0 where
  pub each : (v : GroundState) → IsInState g.stands old.lock v → IsInSomeState g.stands new.lock (λ v'. Ran (P (core_at old v)) (core_at new v'))
  pub media : g.told new.lock.base ≡ g.told old.lock.base
  pub lapses : LapsesLast (g.lapses old.lock.base) (g.lapses new.lock.base)

-- the ground lasts for as many calls as are made
abbrev pub LastsOn : {T : Type 0} → Ghosts T → T → Type 0
LastsOn g base = (n : ℕ) → g.lasts base n
