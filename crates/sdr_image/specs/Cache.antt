-- Clean lines that stand in memory.
use Rattle.std.specs.Prelude.{◌≡◌, ◌%◌, ℕ, List, [], ◌∷◌, length, get_or, Option, Some, None}
use Rattle.sdr_log.specs.declared.record.Record.{Record}
use Rattle.sdr_image.specs.declared.cache.TheConstants.{MOST_CACHED}

-- the lines that stand in these places, with their bytes
abbrev pub entries_of : List (Option Record) → List (ℕ × List ℕ)
entries_of [] = []
entries_of (None ∷ places) = entries_of places
entries_of (Some r ∷ places) = (r.line, r.bytes) ∷ entries_of places

-- as many places as lines may be kept, and a line stands only in its own
pub record IsTable (places : List (Option Record)) : Type 0 where
  pub long : length places ≡ MOST_CACHED
  pub placed : (k : ℕ) (r : Record) → get_or places k None ≡ Some r → r.line % MOST_CACHED ≡ k
