-- An empty input has no daemon, and its journal is empty.
use Rattle.std.proofs.Common.{[], Option, arith}
use Rattle.sdr_base.specs.Media.{Told}
use Rattle.sdr_daemon.specs.Scripts.{KeepsToScripts}
use Rattle.sdr_machine.specs.Ground.{State}

pub empty_input : (told : Option Told) (first : State) → KeepsToScripts told first [] []
empty_input told first = record { each = tt; others = λ k d within. absurd (omega (arith, within)) }
