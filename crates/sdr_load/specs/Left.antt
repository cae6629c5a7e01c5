-- The steps of a load that are left, where one round is held.
use Rattle.std.specs.Prelude.{ℕ, ◌+◌, ◌-◌, ◌*◌, ◌≤◌, List, ◌++◌, drop}
use Rattle.sdr_load.specs.Schedule.{said_from}
use Rattle.sdr_load.specs.Statements.{numbered}
use Rattle.sdr_load.specs.declared.round.TheConstants.{MOST_ROUNDS}
use Rattle.sdr_model.specs.declared.script.ScriptStep.{ScriptStep}

-- the steps of a round that aren't done, then those of the rounds behind it up to the last, from a line on
abbrev pub left_of : List ScriptStep → ℕ → ℕ → ℕ → ℕ → List ScriptStep
left_of steps done line round last = drop done steps ++ numbered line (said_from (round + 1) (last - round))

-- a round of a load is held that has so many steps, of which so many are done; the next one begins in this line
pub record IsHeld (round last held done line : ℕ) : Type 0 where
  pub few : last ≤ MOST_ROUNDS
  pub within : round ≤ last
  pub some : done ≤ held
  pub ended : held ≤ done → last ≤ round
  pub lines : line ≤ 10 * round + 11
