-- Worked rows: what an object becomes that is bonded, what it charges more, and in which moves.
use Rattle.std.proofs.Common.{◌≡◌, List, [], ◌∷◌, refl}
use Rattle.sdr_base.specs.ZcoObjects.{ExtentRow, ObjectRow}
use Rattle.sdr_base.specs.declared.account.Acct.TheVariants as accts
use Rattle.sdr_base.specs.declared.moves.Move.TheVariants.{Gave, Took}
use Rattle.zco_bond.specs.Bonded.{BondedCapsule, bonding_moves, joined, whole_of}
use Rattle.zco_bond.specs.Charging.{bond_amounts}

-- an object of a header of one byte, an extent of five of which its part has four, and a trailer of three
abbrev object : ObjectRow
object = record {
  account = accts.Outbound;
  headers = record { addr = 40; text = 104 ∷ [] } ∷ [];
  extents = record { addr = 64; source = 96; offset = 2; length = 5 } ∷ [];
  trailers = record { addr = 48; text = 116 ∷ 114 ∷ 108 ∷ [] } ∷ [];
  part_offset = 1;
  part_length = 4;
}

-- what the header became, and what the trailer did, whose raw object got the block that was the header's
abbrev header : BondedCapsule
header = record { capsule = record { addr = 40; text = 104 ∷ [] }; raw = 200; source = 216; extent = 272 }

abbrev trailer : BondedCapsule
trailer = record { capsule = record { addr = 48; text = 116 ∷ 114 ∷ 108 ∷ [] }; raw = 40; source = 312; extent = 368 }

-- 33 less 16 for the header, and 35 less 16 for the trailer
row_charge : bond_amounts object ≡ record { file = 0; bulk = 0; heap = 36 }
row_charge = refl

-- without headers and trailers nothing is charged
row_nothing : bond_amounts (record object { headers = []; trailers = [] }) ≡ record { file = 0; bulk = 0; heap = 0 }
row_nothing = refl

row_moves : bonding_moves (header ∷ trailer ∷ [])
    ≡ Took 9 200 ∷ Took 48 216 ∷ Took 32 272 ∷ Gave 40 ∷ Took 11 40 ∷ Took 48 312 ∷ Took 32 368 ∷ Gave 48 ∷ []
row_moves = refl

-- the header's extent is before the one that was there, and the trailer's behind it
abbrev extents : List ExtentRow
extents =
    record { addr = 272; source = 216; offset = 0; length = 1 } ∷ record { addr = 64; source = 96; offset = 2; length = 5 }
    ∷ record { addr = 368; source = 312; offset = 0; length = 3 } ∷ []

row_extents : joined (header ∷ []) object.extents (trailer ∷ []) ≡ extents
row_extents = refl

-- the part has all nine bytes
row_part : (whole_of object extents).part_length ≡ 9
row_part = refl
