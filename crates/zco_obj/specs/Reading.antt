-- What is told of an object.
use Rattle.std.specs.Prelude.{◌≡◌, ◌+◌, ℕ}
use Rattle.sdr_base.specs.Blocks.{Blocks, IsKind}
use Rattle.sdr_base.specs.Linked.{first_of}
use Rattle.sdr_base.specs.ZcoObjects.{ObjectRow, capsule_addr, extent_addr}
use Rattle.sdr_base.specs.declared.kind.Kind.TheVariants as kinds
use Rattle.zco_obj.specs.Kept.{KeepsObject, capsules_length, extents_length}
use Rattle.zco_obj.specs.declared.object.Firsts.{Firsts}

-- this is told of whichever object is kept
pub record Tells {T : Type 0} (blocks : Blocks) (object : ℕ) (f : ObjectRow → T) (value : T) : Type 0 where
  pub tells : (row : ObjectRow) → KeepsObject blocks object row → value ≡ f row

-- an object stands there, and this is told of it
pub record TellsObject {T : Type 0} (blocks : Blocks) (object : ℕ) (f : ObjectRow → T) (value : T) : Type 0 where
  pub kind : IsKind (blocks object) kinds.Object
  pub told : Tells blocks object f value

-- the bytes of an object on the wire
abbrev pub wire_length : ObjectRow → ℕ
wire_length row = capsules_length row.headers + extents_length row.extents + capsules_length row.trailers

-- these are the addresses of the first header, extent and trailer
pub record AreFirsts (row : ObjectRow) (firsts : Firsts) : Type 0 where
  pub header : firsts.header ≡ first_of capsule_addr 0 row.headers
  pub extent : firsts.extent ≡ first_of extent_addr 0 row.extents
  pub trailer : firsts.trailer ≡ first_of capsule_addr 0 row.trailers

-- so it is with whichever object is kept
pub record TellsFirsts (blocks : Blocks) (object : ℕ) (firsts : Firsts) : Type 0 where
  pub told : (row : ObjectRow) → KeepsObject blocks object row → AreFirsts row firsts
