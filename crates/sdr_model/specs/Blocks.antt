-- The blocks of a world: all that a heap has in use for it.
use Rattle.std.specs.Prelude.{ℕ, List, ◌∷◌, ◌++◌, map}
use Rattle.std.specs.FinMap as finite
use Rattle.std.specs.List.{flat_map}
use Rattle.sdr_model.specs.Accounts.{ticket_blocks}
use Rattle.sdr_model.specs.Things.{Things, own_block, inner_blocks, block_for_name}
use Rattle.sdr_model.specs.World.{World}
use Rattle.sdr_model.specs.declared.things.UsedBlock.{UsedBlock}
use Rattle.sdr_model.specs.declared.things.Thing.{Thing}

-- the blocks of a thing: its own, and then those of what is in it
abbrev pub thing_blocks : ℕ → Thing → List UsedBlock
thing_blocks addr thing = own_block addr thing ∷ inner_blocks thing

-- the blocks of all these things, by rising address of the things
abbrev pub things_blocks : Things → List UsedBlock
things_blocks things = flat_map (λ e. thing_blocks e.0 e.1) (finite.entries things)

-- the blocks of a world: those of its things, then those of its catalogue's entries and of its tickets
abbrev pub blocks_of : World → List UsedBlock
blocks_of w = things_blocks w.things ++ map block_for_name w.names ++ ticket_blocks w.accounts

-- where these blocks begin
abbrev pub addresses_of : List UsedBlock → List ℕ
addresses_of = map (λ b. b.addr)
