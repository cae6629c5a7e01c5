-- Extents, cut to a part of their bytes.
use Rattle.std.specs.Prelude.{ℕ, suc, ◌+◌, ◌-◌, ◌==◌, List, [], ◌∷◌, min, if◌then◌else◌}
use Rattle.sdr_model.specs.declared.zco.Extent.{Extent}

-- an extent, cut to its bytes from one place on and before another
abbrev pub cut : ℕ → ℕ → Extent → Extent
cut from to e =
    let first = min from e.length in
    record e { offset = e.offset + first; length = min to e.length - first }

-- these extents, cut to their bytes from one place on and before another; those of which no byte is left are left out
abbrev pub cut_all : ℕ → ℕ → List Extent → List Extent
cut_all from to [] = []
cut_all from to (e ∷ es) =
    let rest = cut_all (from - e.length) (to - e.length) es in
    if (cut from to e).length == 0 then rest else cut from to e ∷ rest

-- the extents of which no byte lies from one place on and before another
abbrev pub left_out : ℕ → ℕ → List Extent → List Extent
left_out from to [] = []
left_out from to (e ∷ es) =
    let rest = left_out (from - e.length) (to - e.length) es in
    if (cut from to e).length == 0 then e ∷ rest else rest

-- these extents, each in a block of its own: the first at `at k`, the others at the next addresses
abbrev pub placed : (ℕ → ℕ) → ℕ → List Extent → List Extent
placed at k [] = []
placed at k (e ∷ es) = record e { block = at k } ∷ placed at (suc k) es
