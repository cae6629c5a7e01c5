-- Input that is read whole before it is used.
use Rattle.std.specs.Prelude.{◌≡◌, ◌≤◌, ◌⊎◌, ℕ, List, length, Option, MatchBool}
use Rattle.std.specs.Io.KnownBytes.{Consumes, IsAtEnd}
use Rattle.sdr_base.specs.Causes.{Rose}
use Rattle.sdr_system.specs.declared.held.Held.{Held}
use Rattle.sdr_system.specs.declared.held.TheConstants.{MOST_HELD}

-- The first bytes of an input were taken in order and are held: all that it had, or as many as are held at most, or those before a fault
-- of it, which is held as failed.
pub record HoldsInput (left left' : Option (List ℕ)) (faults faults' : ℕ) (held : Held) : Type 0 where
  pub taken : Consumes left left' held.bytes
  pub most : length held.bytes ≤ MOST_HELD
  pub ends : MatchBool held.failed (Rose faults faults') (IsAtEnd left' ⊎ (length held.bytes ≡ MOST_HELD))
