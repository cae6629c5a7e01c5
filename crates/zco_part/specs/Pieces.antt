-- The pieces of sources that a part of some extents has.
use Rattle.std.specs.Prelude.{ℕ, ◌+◌, ◌-◌, ◌==◌, List, [], ◌∷◌, ◌++◌, min, if◌then◌else◌}
use Rattle.sdr_base.specs.ZcoObjects.{ExtentRow, ObjectRow}
use Rattle.sdr_base.specs.declared.account.Acct.{Acct}
use Rattle.zco_obj.specs.Extents.{extent_of}
use Rattle.zco_obj.specs.Kept.{extents_length}
use Rattle.zco_obj.specs.Links.{piece_of}
use Rattle.zco_obj.specs.declared.extent.ExtentPiece.{ExtentPiece}

-- a piece, cut to its bytes from one place on and before another
abbrev pub cut : ℕ → ℕ → ExtentPiece → ExtentPiece
cut from to p =
    let first = min from p.bytes in
    record { of = p.of; offset = p.offset + first; bytes = min to p.bytes - first }

-- a piece, unless it has no byte
abbrev pub filled : ExtentPiece → List ExtentPiece
filled p = if p.bytes == 0 then [] else p ∷ []

-- what these extents name of their bytes from one place on and before another
abbrev pub pieces : ℕ → ℕ → List ExtentRow → List ExtentPiece
pieces from to [] = []
pieces from to (e ∷ es) = filled (cut from to (piece_of e)) ++ pieces (from - e.length) (to - e.length) es

-- what an object's extents name of so many bytes of its part, from a place in it on
abbrev pub asked : ℕ → ℕ → ObjectRow → List ExtentPiece
asked offset bytes row = pieces (row.part_offset + offset) (row.part_offset + offset + bytes) row.extents

-- extents of these pieces, each at the address that stands in its place
abbrev pub extents_at : List ℕ → List ExtentPiece → List ExtentRow
extents_at (addr ∷ addrs) (p ∷ ps) = extent_of addr p ∷ extents_at addrs ps
extents_at addrs ps = []

-- an object of these extents alone, whose part is its whole
abbrev pub whole_row : Acct → List ExtentRow → ObjectRow
whole_row acct extents = record {
  account = acct;
  headers = [];
  extents = extents;
  trailers = [];
  part_offset = 0;
  part_length = extents_length extents;
}
