-- A chain of headers or trailers that becomes extents at a place in a chain of extents.
use Rattle.std.specs.Prelude.{◌≡◌, ◌+◌, ◌*◌, ◌/◌, ◌<◌, ◌≤◌, ◌^◌, ℕ, List, ◌++◌, length, All}
use Rattle.sdr_base.specs.Blocks.{Blocks}
use Rattle.sdr_base.specs.Entries.{Changes, Entries, BlocksAre}
use Rattle.sdr_base.specs.Linked.{first_of, last_of}
use Rattle.sdr_base.specs.Making.{Made}
use Rattle.sdr_base.specs.Objects.{Heap}
use Rattle.sdr_base.specs.ZcoObjects.{CapsuleRow, ExtentRow, capsule_addr, capsule_entries, extent_addr}
use Rattle.sdr_base.specs.declared.account.Acct.{Acct}
use Rattle.sdr_base.specs.declared.moves.Move.{Move}
use Rattle.sdr_base.specs.declared.stop.Stop.{Stop}
use Rattle.zco_obj.specs.Kept.{CapsuleFits}
use Rattle.zco_bond.specs.Bonded.{BondedCapsule, IsSmall, bonded_extents, bonded_sources, bonding_moves, capsules_of, chained}
use Rattle.zco_bond.specs.Fresh.{Fresh}
use Rattle.zco_bond.specs.Rows.{RowStops}
use Rattle.zco_bond.specs.declared.gap.Chain.{Chain}
use Rattle.zco_bond.specs.declared.gap.Gap.{Gap}

-- a chain of extents ends at the place, and a chain of headers or trailers stands beside
pub record ChainsAt (blocks : Blocks) (first : ℕ) (gap : Gap) (front : List ExtentRow) (rows : List CapsuleRow) : Type 0 where
  pub rest : Entries
  pub stands : BlocksAre blocks (chained gap.next front ++ (capsule_entries rows ++ rest))
  pub at_previous : gap.previous ≡ last_of extent_addr 0 front
  pub at_first : first ≡ first_of capsule_addr 0 rows
  pub fits : All CapsuleFits rows
  pub few : length rows < 2 ^ 22

-- some do, and there is room for the moves
pub record SomeChains (heap : Heap) (first : ℕ) (gap : Gap) : Type 0 where
  pub front : List ExtentRow
  pub rows : List CapsuleRow
  pub is : ChainsAt heap.blocks first gap front rows
  pub room : 4 * length rows ≤ heap.spare

-- so many lines are touched at most where a header or trailer becomes an extent
abbrev pub bond_lines : CapsuleRow → ℕ
bond_lines c = 114 + (8 + length c.text) / 32

-- these have all become extents at the place; they begin and end so, where there is one at least
pub record ChainBonded (acct : Acct) (gap : Gap) (front : List ExtentRow) (rows : List CapsuleRow) (old new : Heap) (chain : Chain)
    : Type 0 where
  pub bonded : List BondedCapsule
  pub whole : capsules_of bonded ≡ rows
  pub small : All IsSmall bonded
  pub first : chain.first ≡ first_of extent_addr gap.next (bonded_extents bonded)
  pub last : chain.last ≡ last_of extent_addr gap.previous (bonded_extents bonded)
  pub changes : Changes old.blocks new.blocks (chained gap.next front ++ capsule_entries rows)
      (chained gap.next (front ++ bonded_extents bonded) ++ bonded_sources acct bonded)
  pub made : Made (bonding_moves bonded) old new
  pub fresh : Fresh (bonding_moves bonded) old.blocks new.blocks

-- so it is with whichever chains are there
pub record BondsChain (acct : Acct) (first : ℕ) (gap : Gap) (old new : Heap) (chain : Chain) : Type 0 where
  pub bonds : (front : List ExtentRow) (rows : List CapsuleRow) → ChainsAt old.blocks first gap front rows →
      ChainBonded acct gap front rows old new chain

-- these are the moves in which these headers or trailers become extents
pub record IsBondRow (rows : List CapsuleRow) (moves : List Move) : Type 0 where
  pub bonded : List BondedCapsule
  pub whole : capsules_of bonded ≡ rows
  pub is : moves ≡ bonding_moves bonded

-- why not all of whichever are there become extents
pub record ChainStops (first : ℕ) (gap : Gap) (old new : Heap) (stop : Stop) : Type 0 where
  pub stops : (front : List ExtentRow) (rows : List CapsuleRow) → ChainsAt old.blocks first gap front rows →
      RowStops (IsBondRow rows) old new stop
