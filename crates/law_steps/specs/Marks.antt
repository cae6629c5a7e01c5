-- What an answered changing call leaves beside things and names.
use Rattle.std.specs.Prelude.{◌≡◌, List, [], ◌++◌}
use Rattle.sdr_base.specs.declared.moves.Move.{Move}
use Rattle.sdr_model.specs.Steps.{taken_addresses}
use Rattle.sdr_model.specs.World.{World}

-- the blocks taken are marked, behind those marked before, no bytes are shown, and the count of blocks taken without a
-- heap stays
pub record MarksTaken (old : World) (moves : List Move) (new : World) : Type 0 where
  pub marks : new.marks ≡ old.marks ++ taken_addresses moves
  pub shown : new.shown ≡ []
  pub taken : new.taken ≡ old.taken
