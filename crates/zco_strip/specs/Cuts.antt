-- The extents of an object, cut to a part of their bytes, and those outside it.
use Rattle.std.specs.Prelude.{◌≤◌, ℕ, ◌+◌, ◌-◌, ◌==◌, List, [], ◌∷◌, All, min, if◌then◌else◌}
use Rattle.sdr_base.specs.ZcoObjects.{ExtentRow, ObjectRow}
use Rattle.zco_obj.specs.Kept.{extents_length}

-- an extent, cut to its bytes from one place on and before another
abbrev pub cut : ℕ → ℕ → ExtentRow → ExtentRow
cut from to e =
    let first = min from e.length in
    record e { offset = e.offset + first; length = min to e.length - first }

-- these extents, cut to their bytes from one place on and before another; those of which no byte is left are left out
abbrev pub cut_all : ℕ → ℕ → List ExtentRow → List ExtentRow
cut_all from to [] = []
cut_all from to (e ∷ es) =
    let rest = cut_all (from - e.length) (to - e.length) es in
    if (cut from to e).length == 0 then rest else cut from to e ∷ rest

-- the extents of which no byte lies from one place on and before another
abbrev pub left_out : ℕ → ℕ → List ExtentRow → List ExtentRow
left_out from to [] = []
left_out from to (e ∷ es) =
    let rest = left_out (from - e.length) (to - e.length) es in
    if (cut from to e).length == 0 then e ∷ rest else rest

-- an extent has a byte
abbrev pub HasByte : ExtentRow → Type 0
HasByte e = 1 ≤ e.length

-- each of them has
abbrev pub HaveBytes : List ExtentRow → Type 0
HaveBytes = All HasByte

-- where the part of an object ends
abbrev pub part_end : ObjectRow → ℕ
part_end row = row.part_offset + row.part_length

-- the extents of an object that lie in its part, cut to it
abbrev pub inside : ObjectRow → List ExtentRow
inside row = cut_all row.part_offset (part_end row) row.extents

-- those of which no byte lies in it
abbrev pub outside : ObjectRow → List ExtentRow
outside row = left_out row.part_offset (part_end row) row.extents

-- the object with its extents cut to its part, which is then the whole
abbrev pub stripped : ObjectRow → ObjectRow
stripped row = record row { extents = inside row; part_offset = 0; part_length = extents_length (inside row) }
