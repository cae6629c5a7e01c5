-- The script of a load: its rounds, one behind another.
use Rattle.std.specs.Prelude.{ℕ, ◌+◌, List}
use Rattle.std.specs.List.{flat_map, range_with_len}
use Rattle.sdr_load.specs.Rounds.{round_of}
use Rattle.sdr_load.specs.Statements.{numbered}
use Rattle.sdr_load.specs.declared.statement.Statement.{Statement}
use Rattle.sdr_model.specs.declared.script.ScriptStep.{ScriptStep}

-- the statements of so many rounds from one on, one behind another
abbrev pub said_from : ℕ → ℕ → List Statement
said_from round rounds = flat_map round_of (range_with_len round rounds)

-- the script of a load of so many rounds behind round 0: a line for each statement, from 1 on
abbrev pub script_for : ℕ → List ScriptStep
script_for rounds = numbered 1 (said_from 0 (rounds + 1))
