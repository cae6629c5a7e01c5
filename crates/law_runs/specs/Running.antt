-- What holds of every core run.
use Rattle.std.specs.Prelude.{ℕ, List, Option}
use Rattle.sdr_base.specs.Media.{Told}
use Rattle.sdr_machine.specs.Core.{Core, RunsCore, first_core}
use Rattle.sdr_machine.specs.Ground.{State}
use Rattle.sdr_machine.specs.Machine.{Made}

-- whatever media tell, for all daemons, from every first state and by all events: this holds of the core that they lead to
abbrev pub OfEachRun : (Option Told → List ℕ → State → Core → Type 0) → Type 0
OfEachRun P =
    (told : Option Told) (daemons : List ℕ) (first : State) (made : List Made) (core : Core) →
    RunsCore told (first_core daemons first) made core → P told daemons first core
