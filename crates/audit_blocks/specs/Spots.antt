-- What begins with each word of a heap region.
use Rattle.std.specs.Prelude.{◌≡◌, ◌<◌, ◌==◌, ◌+◌, ◌*◌, ℕ, Bool, true, false, cond, List, length, get_or, Option, None, Some, find}
use Rattle.std.specs.Option.{option_or}
use Rattle.sdr_base.specs.Pools.{PoolBlock}
use Rattle.sdr_base.specs.declared.line.TheConstants.{WORD}
use Rattle.audit_blocks.specs.declared.spot.Spot.{Spot}
use Rattle.audit_blocks.specs.declared.spot.Spot.TheVariants as spots

-- the block that begins at a place, of those whose leaders stand so far before their addresses
abbrev pub begun_in : ℕ → List PoolBlock → ℕ → Option PoolBlock
begun_in frame blocks place = find (λ (block : PoolBlock). block.addr == place + frame) blocks

-- the block that begins at a place
abbrev pub begun_at : List PoolBlock → List PoolBlock → ℕ → Option PoolBlock
begun_at small large place = option_or (begun_in WORD small place) (begun_in (2 * WORD) large place)

-- what is told of the block that begins with a word
abbrev pub spot_of : Option PoolBlock → Spot
spot_of None = spots.Nothing
spot_of (Some block) = cond block.used spots.Used spots.Free

-- it is told of each word whether a block begins with it, and whether that is in use
abbrev pub AreSpots : List PoolBlock → List PoolBlock → List Spot → Type 0
AreSpots small large told =
    (word : ℕ) → word < length told → get_or told word spots.Nothing ≡ spot_of (begun_at small large (WORD * word))

-- whether a word is told that a block in use begins with it
abbrev pub is_used_spot : Spot → Bool
is_used_spot spots.Used = true
is_used_spot spot = false

-- whether a word is told so, by its number; behind the region none is
abbrev pub is_told_used : List Spot → ℕ → Bool
is_told_used told word = is_used_spot (get_or told word spots.Nothing)

-- whether a word is told that a free block begins with it
abbrev pub is_free_spot : Spot → Bool
is_free_spot spots.Free = true
is_free_spot spot = false
