-- Worked rows: what a part of an object's extents names, and how often a source is counted for it.
use Rattle.std.proofs.Common.{◌≡◌, List, [], ◌∷◌, refl}
use Rattle.sdr_base.specs.ZcoObjects.{ObjectRow}
use Rattle.sdr_base.specs.declared.account.Acct.TheVariants as accts
use Rattle.zco_obj.specs.declared.extent.ExtentPiece.{ExtentPiece}
use Rattle.zco_part.specs.Pieces.{asked}
use Rattle.zco_part.specs.Sources.{pieces_of}

-- an object of three extents, of three, four and five bytes, the first and the last of one source; its part begins at byte 1
abbrev object : ObjectRow
object = record {
  account = accts.Inbound;
  headers = [];
  extents =
      record { addr = 40; source = 88; offset = 10; length = 3 } ∷ record { addr = 48; source = 96; offset = 20; length = 4 }
      ∷ record { addr = 56; source = 88; offset = 30; length = 5 } ∷ [];
  trailers = [];
  part_offset = 1;
  part_length = 10;
}

-- within one extent
row_within : asked 0 2 object ≡ record { of = 88; offset = 11; bytes = 2 } ∷ []
row_within = refl

-- across all of them, cut at both ends
across : List ExtentPiece
across = record { of = 88; offset = 12; bytes = 1 } ∷ record { of = 96; offset = 20; bytes = 4 } ∷ record { of = 88; offset = 30; bytes = 2 } ∷ []

row_across : asked 1 7 object ≡ across
unfolding across
row_across = refl

-- a whole extent, with none of those that it touches
row_whole : asked 2 4 object ≡ record { of = 96; offset = 20; bytes = 4 } ∷ []
row_whole = refl

-- of no byte
row_none : asked 3 0 object ≡ []
row_none = refl

-- a source is counted once for each extent
row_counted : pieces_of 88 (asked 1 7 object) ≡ 2
row_counted = refl
