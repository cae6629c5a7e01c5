-- The blocks of all things in a map.
use Rattle.std.specs.Prelude.{ℕ}
use Rattle.std.specs.List.{flat_map}
use Rattle.std.specs.Ordering.{nat_cmp}
use Rattle.std.specs.FinMap as map
use Rattle.sdr_base.specs.Entries.{Entries}

-- the blocks of each thing of a map, as f gives them
abbrev pub section : {X : Type 0} → (ℕ → X → Entries) → map.FinMap nat_cmp X → Entries
section f m = flat_map (λ e. f e.0 e.1) (map.entries m)
