-- Headers and trailers that have become extents.
use Rattle.std.specs.Prelude.{◌<◌, ◌^◌, ℕ, List, [], ◌∷◌, ◌++◌, length, map, flat_map}
use Rattle.sdr_base.specs.Entries.{Entries}
use Rattle.sdr_base.specs.Linked.{linked}
use Rattle.sdr_base.specs.Raws.{raw_entries}
use Rattle.sdr_base.specs.ZcoObjects.{CapsuleRow, ExtentRow, ObjectRow, extent_addr, extent_block}
use Rattle.sdr_base.specs.declared.account.Acct.{Acct}
use Rattle.sdr_base.specs.declared.moves.Move.{Move}
use Rattle.sdr_base.specs.declared.moves.Move.TheVariants.{Gave, Took}
use Rattle.sdr_model.specs.Things.{extent_need, raw_need, source_need}
use Rattle.zco_obj.specs.Appending.{taking_over}
use Rattle.zco_obj.specs.Kept.{extents_length}
use Rattle.zco_ref.specs.Counting.{attached}
use Rattle.zco_ref.specs.Kept.{counted_entries}

-- a header or trailer that has become an extent: what it was, and where its raw object, the source of that and the extent are
pub record BondedCapsule : Type 0 where
  pub capsule : CapsuleRow
  pub raw : ℕ
  pub source : ℕ
  pub extent : ℕ

-- the headers or trailers that they were
abbrev pub capsules_of : List BondedCapsule → List CapsuleRow
capsules_of = map (λ b. b.capsule)

-- the moves in which a text at an address becomes an extent: its raw object, the source and the extent are taken, and its own
-- block is given back
abbrev pub moves_of : ℕ → ℕ → ℕ → ℕ → ℕ → List Move
moves_of bytes gone raw source extent =
    Took (raw_need bytes) raw ∷ Took (source_need 0) source ∷ Took extent_need extent ∷ Gave gone ∷ []

-- the moves in which one became an extent
abbrev pub bonding : BondedCapsule → List Move
bonding b = moves_of (length b.capsule.text) b.capsule.addr b.raw b.source b.extent

-- the moves in which these did, one after another
abbrev pub bonding_moves : List BondedCapsule → List Move
bonding_moves = flat_map bonding

-- the extent at an address of the first bytes of a source, so many
abbrev pub first_bytes : ℕ → ℕ → ℕ → ExtentRow
first_bytes addr source bytes = record { addr = addr; source = source; offset = 0; length = bytes }

-- the extent that one became: all bytes of its source
abbrev pub bonded_extent : BondedCapsule → ExtentRow
bonded_extent b = first_bytes b.extent b.source (length b.capsule.text)

-- the extents that these became
abbrev pub bonded_extents : List BondedCapsule → List ExtentRow
bonded_extents = map bonded_extent

-- the blocks of the source of one, which an extent of the account names, and of the raw object of its text, which the source
-- has taken over
abbrev pub bonded_source : Acct → BondedCapsule → Entries
bonded_source acct b =
    counted_entries b.source (attached acct (taking_over b.raw b.capsule.text)) ++ raw_entries b.raw b.source b.capsule.text

-- the blocks of the sources of these, with their raw objects
abbrev pub bonded_sources : Acct → List BondedCapsule → Entries
bonded_sources acct = flat_map (bonded_source acct)

-- its three addresses are those of blocks
pub record IsSmall (b : BondedCapsule) : Type 0 where
  pub raw : b.raw < 2 ^ 32
  pub source : b.source < 2 ^ 32
  pub extent : b.extent < 2 ^ 32

-- a chain of extents before another
abbrev pub chained : ℕ → List ExtentRow → Entries
chained next extents = linked extent_addr extent_block 0 next extents

-- the extents of an object once its headers and its trailers became these
abbrev pub joined : List BondedCapsule → List ExtentRow → List BondedCapsule → List ExtentRow
joined headers extents trailers = bonded_extents headers ++ (extents ++ bonded_extents trailers)

-- the object of these extents alone, whose part is the whole
abbrev pub whole_of : ObjectRow → List ExtentRow → ObjectRow
whole_of row extents = record row {
  headers = [];
  extents = extents;
  trailers = [];
  part_offset = 0;
  part_length = extents_length extents;
}
