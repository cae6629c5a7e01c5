-- The text of a header or trailer, in a raw object with a source of its own.
use Rattle.std.specs.Prelude.{◌≡◌, ◌<◌, ◌^◌, ℕ, List, [], ◌∷◌, ◌++◌, length, Option}
use Rattle.sdr_base.specs.Blocks.{Block, Blocks}
use Rattle.sdr_base.specs.Entries.{Changes}
use Rattle.sdr_base.specs.Making.{Made}
use Rattle.sdr_base.specs.Objects.{Heap}
use Rattle.sdr_base.specs.Raws.{raw_block, raw_entries}
use Rattle.sdr_base.specs.Words.{TakesBytes}
use Rattle.sdr_base.specs.ZcoObjects.{CapsuleRow}
use Rattle.sdr_base.specs.declared.kind.Kind.TheVariants as kinds
use Rattle.sdr_base.specs.declared.moves.Move.{Move}
use Rattle.sdr_base.specs.declared.moves.Move.TheVariants.{Took}
use Rattle.sdr_model.specs.Things.{raw_need, source_need}
use Rattle.zco_obj.specs.Appending.{taking_over}
use Rattle.zco_obj.specs.Walks.{KeepsCapsule, SomeCapsule}
use Rattle.zco_ref.specs.Kept.{counted_entries}
use Rattle.zco_bond.specs.Fresh.{TakesFree, is_free}
use Rattle.zco_bond.specs.declared.text.Text.{Text}

-- some header or trailer stands there, and whichever does has a text of so many bytes
pub record IsText (blocks : Blocks) (text : Text) : Type 0 where
  pub some : SomeCapsule (blocks text.of)
  pub tells : (next : ℕ) (c : CapsuleRow) → KeepsCapsule (blocks text.of) next c → text.bytes ≡ length c.text

-- these are the bytes of a raw object of the text of whichever header or trailer stands there, which no source names
pub record FillsRaw (found : Option Block) (bytes : List ℕ) : Type 0 where
  pub fills : (next : ℕ) (c : CapsuleRow) → KeepsCapsule found next c → bytes ≡ (raw_block 0 c.text).bytes

-- a raw object of the text of whichever stands there was made, which no source names
pub record CopiesText (text : Text) (old new : Heap) (raw : ℕ) : Type 0 where
  pub copies : (next : ℕ) (c : CapsuleRow) → KeepsCapsule (old.blocks text.of) next c →
      TakesBytes kinds.Raw (raw_block 0 c.text).bytes raw old new

-- the moves in which a text of so many bytes gets a raw object and a source
abbrev pub source_moves : ℕ → ℕ → ℕ → List Move
source_moves bytes raw source = Took (raw_need bytes) raw ∷ Took (source_need 0) source ∷ []

-- a raw object of the text of whichever stands there was made, and a source, which has taken it over and which no extent names,
-- each where nothing was
pub record MakesSource (text : Text) (old new : Heap) (source : ℕ) : Type 0 where
  pub raw : ℕ
  pub raw_small : raw < 2 ^ 32
  pub small : source < 2 ^ 32
  pub takes : TakesFree (is_free old.blocks) (source_moves text.bytes raw source)
  pub makes : (next : ℕ) (c : CapsuleRow) → KeepsCapsule (old.blocks text.of) next c →
      Changes old.blocks new.blocks [] (counted_entries source (taking_over raw c.text) ++ raw_entries raw source c.text)
  pub made : Made (source_moves text.bytes raw source) old new

-- these are the moves in which a text of so many bytes gets them
pub record IsSourceRow (bytes : ℕ) (moves : List Move) : Type 0 where
  pub raw : ℕ
  pub source : ℕ
  pub is : moves ≡ source_moves bytes raw source
