-- Which thing a block inside a thing belongs to.
use Rattle.std.specs.Prelude.{◌≡◌, ◌<◌, ℕ, Some}
use Rattle.std.specs.FinMap as finite
use Rattle.std.specs.List.{All}
use Rattle.mem_store.specs.Draft.{Draft}
use Rattle.sdr_model.specs.Dry.{next_addr}
use Rattle.sdr_model.specs.Things.{Owners, Things, inner_blocks}
use Rattle.sdr_model.specs.declared.things.UsedBlock.{UsedBlock}
use Rattle.sdr_model.specs.declared.things.Thing.{Thing}

-- the block at an address is noted as inside the thing at another, its owner, and lies below the next address
pub record IsOwned (owners : Owners) (next owner addr : ℕ) : Type 0 where
  pub noted : finite.get owners addr ≡ Some owner
  pub below : addr < next

-- this block is noted as inside the thing at an address
abbrev pub Owns : Owners → ℕ → ℕ → UsedBlock → Type 0
Owns owners next owner block = IsOwned owners next owner block.addr

-- the address of a thing lies below the next, and each block inside the thing is noted as inside it
pub record OwnsInside (owners : Owners) (next owner : ℕ) (thing : Thing) : Type 0 where
  pub below : owner < next
  pub inside : All (Owns owners next owner) (inner_blocks thing)

-- each of the things owns the blocks inside it
pub record OwnInside (owners : Owners) (next : ℕ) (things : Things) : Type 0 where
  pub each : (addr : ℕ) (thing : Thing) → finite.get things addr ≡ Some thing → OwnsInside owners next addr thing

-- the things at the begin and the things now own the blocks inside them
pub record AllOwnInside (owners : Owners) (next : ℕ) (old new : Things) : Type 0 where
  pub begun : OwnInside owners next old
  pub now : OwnInside owners next new

-- in a world in the making, the block at an address may stand inside the thing at another
abbrev pub MayHave : Draft → ℕ → ℕ → Type 0
MayHave d owner addr = IsOwned d.owners (next_addr d.now.taken) owner addr

-- in a world in the making, this thing may be put at an address
abbrev pub MayPut : Draft → ℕ → Thing → Type 0
MayPut d addr thing = OwnsInside d.owners (next_addr d.now.taken) addr thing
