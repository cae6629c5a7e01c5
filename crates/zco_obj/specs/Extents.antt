-- An extent that comes, and the part that grows with it.
use Rattle.std.specs.Prelude.{◌≡◌, ◌+◌, ◌==◌, ℕ, List, [], ◌∷◌, ◌++◌, if◌then◌else◌}
use Rattle.sdr_base.specs.Blocks.{Block}
use Rattle.sdr_base.specs.Entries.{Changes, Entries}
use Rattle.sdr_base.specs.Linked.{first_of, last_of, linked}
use Rattle.sdr_base.specs.Making.{Made, besides}
use Rattle.sdr_base.specs.Objects.{Heap}
use Rattle.sdr_base.specs.Words.{layout}
use Rattle.sdr_base.specs.ZcoObjects.{ExtentRow, ObjectRow, account_number, capsule_addr, extent_addr, extent_block, object_entries}
use Rattle.sdr_base.specs.declared.kind.Kind.TheVariants as kinds
use Rattle.sdr_base.specs.declared.moves.Move.TheVariants.{Took}
use Rattle.sdr_model.specs.Things.{extent_need}
use Rattle.zco_obj.specs.Charging.{IsFree}
use Rattle.zco_obj.specs.Kept.{KeepsObject, extents_length}
use Rattle.zco_obj.specs.declared.extent.ExtentPiece.{ExtentPiece}

-- the length of an object's part once so many bytes came: the part grows where it reached the end of what is there
abbrev pub grown : ObjectRow → ℕ → ℕ
grown row bytes =
    if row.part_offset + row.part_length == extents_length row.extents then row.part_length + bytes else row.part_length

-- the object with one more extent, which is last
abbrev pub with_extent : ObjectRow → ExtentRow → ObjectRow
with_extent row e = record row { extents = row.extents ++ e ∷ []; part_length = grown row e.length }

-- the words of an object, where its first and its last extent have these addresses, and its part is so long
abbrev pub extent_ends : ObjectRow → ℕ → ℕ → ℕ → List ℕ
extent_ends row first last part =
    account_number row.account
    ∷ first ∷ last
    ∷ first_of capsule_addr 0 row.headers ∷ last_of capsule_addr 0 row.headers
    ∷ first_of capsule_addr 0 row.trailers ∷ last_of capsule_addr 0 row.trailers
    ∷ row.part_offset ∷ part ∷ []

-- its block
abbrev pub extents_block : ObjectRow → ℕ → ℕ → ℕ → Block
extents_block row first last part = record { kind = kinds.Object; bytes = layout (extent_ends row first last part) [] }

-- its block, and a chain of extents before another
abbrev pub spanned : ℕ → ObjectRow → ℕ → ℕ → ℕ → ℕ → List ExtentRow → Entries
spanned object row first last part next rows =
    (object, extents_block row first last part) ∷ linked extent_addr extent_block 0 next rows

-- wherever `last` is the last extent, another follows it, and is the last one
pub record LinksExtent (object last added : ℕ) (old new : Heap) : Type 0 where
  pub links : (row : ObjectRow) (part : ℕ) (rows : List ExtentRow) → last ≡ last_of extent_addr 0 rows →
      Changes old.blocks new.blocks (spanned object row (first_of extent_addr 0 rows) last part 0 rows)
      (spanned object row (first_of extent_addr added rows) added part added rows)
  pub same : besides new ≡ besides old

-- the length of the part of whichever object is there has become this one
pub record SetsPart (object : ℕ) (of : ObjectRow → ℕ) (old new : Heap) : Type 0 where
  pub sets : (row : ObjectRow) → KeepsObject old.blocks object row →
      Changes old.blocks new.blocks (object_entries object row) (object_entries object (record row { part_length = of row }))
  pub same : besides new ≡ besides old

-- the extent at an address that names this part of a source
abbrev pub extent_of : ℕ → ExtentPiece → ExtentRow
extent_of addr piece = record { addr = addr; source = piece.of; offset = piece.offset; length = piece.bytes }

-- whichever object is kept has one more extent, which is last, and all else stays
pub record AddsExtent (object : ℕ) (piece : ExtentPiece) (old new : Heap) : Type 0 where
  pub addr : ℕ
  pub new_block : IsFree old.blocks addr
  pub adds : (row : ObjectRow) → KeepsObject old.blocks object row →
      Changes old.blocks new.blocks (object_entries object row) (object_entries object (with_extent row (extent_of addr piece)))
  pub made : Made (Took extent_need addr ∷ []) old new
