-- What a ground stands for.
use Rattle.std.specs.Prelude.{List}
use Rattle.sdr_base.specs.declared.moves.Move.{Move}
use Rattle.sdr_machine.specs.Ground.{State}

-- what a ground stands for: the states before the open transaction and now, and the moves of the last call
pub record GroundState : Type 0 where
  pub before : State
  pub now : State
  pub moves : List Move

-- no transaction is open, and this is the state
abbrev pub standing_at : State → List Move → GroundState
standing_at s moves = record { before = s; now = s; moves = moves }
