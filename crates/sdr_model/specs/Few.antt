-- How many headers, extents and trailers objects have.
use Rattle.sdr_model.specs.Things.{Things}
use Rattle.sdr_model.specs.declared.things.Thing.TheVariants as things
use Rattle.sdr_model.specs.declared.zco.ZcoObject.{ZcoObject}
use Rattle.std.specs.FinMap as finite
use Rattle.std.specs.Prelude.{◌≡◌, ◌≤◌, ℕ, ◌+◌, ◌^◌, length, Some}

-- how many headers, extents and trailers an object has
abbrev pub pieces : ZcoObject → ℕ
pieces z = length z.headers + length z.extents + length z.trailers

-- every object among these things has at most so many pieces
pub record HasFewPieces (most : ℕ) (all : Things) : Type 0 where
  pub each : (addr : ℕ) (z : ZcoObject) → finite.get all addr ≡ Some (things.Object z) → pieces z ≤ most

-- where each object has at most so many pieces, a call can be made
abbrev pub most_pieces : ℕ
most_pieces = 2 ^ 22
