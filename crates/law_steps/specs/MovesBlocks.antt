-- What moves do to the blocks of a world.
use Rattle.std.specs.Prelude.{◌≡◌, ℕ, ◌+◌, List, [], ◌∷◌, map, sum_by}
use Rattle.sdr_base.specs.declared.moves.Move.{Move}
use Rattle.sdr_base.specs.declared.moves.Move.TheVariants.{Took, Gave}
use Rattle.sdr_model.specs.Blocks.{blocks_of, addresses_of}
use Rattle.sdr_model.specs.Steps.{taken_addresses}
use Rattle.sdr_model.specs.World.{World}
use Rattle.sdr_model.specs.declared.things.UsedBlock.{UsedBlock}

-- the needs of the blocks taken, in order
abbrev pub taken_needs : List Move → List ℕ
taken_needs [] = []
taken_needs (Took need addr ∷ moves) = need ∷ taken_needs moves
taken_needs (move ∷ moves) = taken_needs moves

-- the addresses of the blocks given back, in order
abbrev pub given_addresses : List Move → List ℕ
given_addresses [] = []
given_addresses (Gave addr ∷ moves) = addr ∷ given_addresses moves
given_addresses (move ∷ moves) = given_addresses moves

-- The blocks of the world before, with those taken, are the blocks of the world after, with those given back: whatever
-- is measured of each block, the sums are the same. The blocks taken have the needs and addresses of the moves that
-- take, in order, and those given back the addresses of the moves that give.
pub record MovesBlocks (old : World) (moves : List Move) (new : World) : Type 0 where
  pub taken : List UsedBlock
  pub given : List UsedBlock
  pub needs : map (λ b. b.bytes) taken ≡ taken_needs moves
  pub takes : addresses_of taken ≡ taken_addresses moves
  pub gives : addresses_of given ≡ given_addresses moves
  pub sums : (measure : UsedBlock → ℕ)
      → sum_by measure (blocks_of old) + sum_by measure taken ≡ sum_by measure (blocks_of new) + sum_by measure given
