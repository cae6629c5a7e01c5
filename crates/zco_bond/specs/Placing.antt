-- An extent at a place in a chain, and a header or trailer that becomes one there.
use Rattle.std.specs.Prelude.{◌≡◌, ◌≢◌, ◌<◌, ◌^◌, ℕ, List, [], ◌∷◌, ◌++◌}
use Rattle.sdr_base.specs.Blocks.{Blocks}
use Rattle.sdr_base.specs.Entries.{Changes, Entries, BlocksAre}
use Rattle.sdr_base.specs.Linked.{last_of}
use Rattle.sdr_base.specs.Making.{Made}
use Rattle.sdr_base.specs.Objects.{Heap}
use Rattle.sdr_base.specs.ZcoObjects.{CapsuleRow, ExtentRow, capsule_block, extent_addr}
use Rattle.sdr_base.specs.declared.account.Acct.{Acct}
use Rattle.sdr_base.specs.declared.moves.Move.{Move}
use Rattle.sdr_base.specs.declared.moves.Move.TheVariants.{Took}
use Rattle.sdr_model.specs.Things.{extent_need}
use Rattle.zco_obj.specs.Kept.{CapsuleFits}
use Rattle.zco_bond.specs.Bonded.{BondedCapsule, bonded_extent, bonded_source, chained, first_bytes, moves_of}
use Rattle.zco_bond.specs.Fresh.{Fresh, is_free}
use Rattle.zco_bond.specs.Texts.{IsText}
use Rattle.zco_bond.specs.declared.gap.Gap.{Gap}
use Rattle.zco_bond.specs.declared.text.Text.{Text}

-- an extent of the first bytes of a source has come where nothing was, behind whichever chain ends at the place
pub record InsertsExtent (source bytes : ℕ) (gap : Gap) (old new : Heap) (addr : ℕ) : Type 0 where
  pub small : addr < 2 ^ 32
  pub nonzero : addr ≢ 0
  pub free : is_free old.blocks addr
  pub inserts : (front : List ExtentRow) → gap.previous ≡ last_of extent_addr 0 front →
      Changes old.blocks new.blocks (chained gap.next front) (chained gap.next (front ++ first_bytes addr source bytes ∷ []))
  pub made : Made (Took extent_need addr ∷ []) old new

-- a chain of extents ends at the place, and a header or trailer stands beside, before another
pub record PlaceAt (blocks : Blocks) (text : Text) (gap : Gap) (front : List ExtentRow) (next : ℕ) (c : CapsuleRow) : Type 0 where
  pub rest : Entries
  pub stands : BlocksAre blocks (chained gap.next front ++ ((c.addr, capsule_block 0 next c) ∷ rest))
  pub at_previous : gap.previous ≡ last_of extent_addr 0 front
  pub at_text : text.of ≡ c.addr
  pub fits : CapsuleFits c
  pub small : next < 2 ^ 64

-- some chain does, and some header or trailer stands so, whose text this is
pub record SomePlace (blocks : Blocks) (text : Text) (gap : Gap) : Type 0 where
  pub front : List ExtentRow
  pub next : ℕ
  pub capsule : CapsuleRow
  pub is : PlaceAt blocks text gap front next capsule
  pub named : IsText blocks text

-- a header or trailer that became this extent
abbrev pub bonded_at : CapsuleRow → ℕ → ℕ → ℕ → BondedCapsule
bonded_at c raw source extent = record { capsule = c; raw = raw; source = source; extent = extent }

-- whichever header or trailer stands there has become an extent at the place, of a source that counts it, which has taken over
-- a raw object of the text, each where nothing was at that time
pub record BondsText (acct : Acct) (text : Text) (gap : Gap) (old new : Heap) (extent : ℕ) : Type 0 where
  pub raw : ℕ
  pub source : ℕ
  pub raw_small : raw < 2 ^ 32
  pub source_small : source < 2 ^ 32
  pub small : extent < 2 ^ 32
  pub bonds : (front : List ExtentRow) (next : ℕ) (c : CapsuleRow) → PlaceAt old.blocks text gap front next c →
      Changes old.blocks new.blocks (chained gap.next front ++ ((c.addr, capsule_block 0 next c) ∷ []))
      (chained gap.next (front ++ bonded_extent (bonded_at c raw source extent) ∷ [])
      ++ bonded_source acct (bonded_at c raw source extent))
  pub made : Made (moves_of text.bytes text.of raw source extent) old new
  pub fresh : Fresh (moves_of text.bytes text.of raw source extent) old.blocks new.blocks

-- these are the moves in which it becomes one
pub record IsTextRow (text : Text) (moves : List Move) : Type 0 where
  pub raw : ℕ
  pub source : ℕ
  pub extent : ℕ
  pub is : moves ≡ moves_of text.bytes text.of raw source extent
