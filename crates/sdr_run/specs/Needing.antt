-- How many extents that lie with media the events of a run need bytes of.
use Rattle.std.specs.Prelude.{ℕ, ◌+◌, List, [], ◌∷◌, Option}
use Rattle.sdr_base.specs.Media.{Told}
use Rattle.sdr_machine.specs.Asked.{outside_asked}
use Rattle.sdr_machine.specs.Core.{Core, RunsCore, first_core}
use Rattle.sdr_machine.specs.Ground.{bare}
use Rattle.sdr_machine.specs.Machine.{Made}
use Rattle.sdr_model.specs.World.{empty_world}
use Rattle.sdr_model.specs.declared.script.ScriptStep.{ScriptStep}
use Rattle.sdr_run.specs.Schedule.{RunsDry}
use Rattle.sdr_words.specs.Daemons.{daemons_of}

-- how many these events need bytes of, each on the machine that made it
abbrev pub outside_along : (told : Option Told) (c : Core) (made : List Made) (c' : Core) → RunsCore told c made c' → ℕ
outside_along told c [] c' runs = 0
outside_along told c (e ∷ made) c' runs = outside_asked c.machine e.daemon e.said.event + outside_along told runs.0 made c' runs.2

-- how many those of a dry run need bytes of
abbrev pub outside_of_run : {told : Option Told} {script rest : List ScriptStep} {made : List Made} {core : Core} → RunsDry told script rest made core → ℕ
outside_of_run {told = told} {script = script} {made = made} {core = core} run =
    outside_along told (first_core (daemons_of script) (bare empty_world)) made core run.runs
