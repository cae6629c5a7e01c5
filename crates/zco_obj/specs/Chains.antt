-- The headers or the trailers of an object, while their links are set.
use Rattle.std.specs.Prelude.{◌≡◌, ◌==◌, ℕ, List, [], ◌∷◌, ◌++◌, length, if◌then◌else◌}
use Rattle.sdr_base.specs.Blocks.{Block, Blocks}
use Rattle.sdr_base.specs.Entries.{Changes, Entries}
use Rattle.sdr_base.specs.Linked.{first_of, last_of, linked}
use Rattle.sdr_base.specs.Making.{Made, besides}
use Rattle.sdr_base.specs.Objects.{Heap}
use Rattle.sdr_base.specs.Words.{TakesBytes, layout}
use Rattle.sdr_base.specs.ZcoObjects.{CapsuleRow, ObjectRow, account_number, capsule_addr, capsule_block, extent_addr, object_entries}
use Rattle.sdr_base.specs.declared.kind.Kind.TheVariants as kinds
use Rattle.sdr_base.specs.declared.layout.object.TheConstants.{FIRST_HEADER, FIRST_TRAILER, LAST_HEADER, LAST_TRAILER}
use Rattle.sdr_base.specs.declared.moves.Move.TheVariants.{Gave, Took}
use Rattle.sdr_model.specs.Things.{capsule_need}
use Rattle.zco_obj.specs.Charging.{IsFree}
use Rattle.zco_obj.specs.Kept.{KeepsObject}
use Rattle.zco_obj.specs.declared.linking.Side.{Side}
use Rattle.zco_obj.specs.declared.linking.Side.TheVariants as sides

-- the word field with the address of the first one of a side
abbrev pub first_field : Side → ℕ
first_field sides.Headers = FIRST_HEADER
first_field sides.Trailers = FIRST_TRAILER

-- the word field with the address of the last one of a side
abbrev pub last_field : Side → ℕ
last_field sides.Headers = LAST_HEADER
last_field sides.Trailers = LAST_TRAILER

-- the headers, or the trailers, of an object
abbrev pub capsules : Side → ObjectRow → List CapsuleRow
capsules sides.Headers row = row.headers
capsules sides.Trailers row = row.trailers

-- the object with these headers, or with these trailers
abbrev pub with_capsules : Side → List CapsuleRow → ObjectRow → ObjectRow
with_capsules sides.Headers rows row = record row { headers = rows }
with_capsules sides.Trailers rows row = record row { trailers = rows }

-- the words of an object, where the first and the last one of a side have these addresses
abbrev pub ends_words : Side → ObjectRow → ℕ → ℕ → List ℕ
ends_words sides.Headers row first last =
    account_number row.account
    ∷ first_of extent_addr 0 row.extents ∷ last_of extent_addr 0 row.extents
    ∷ first ∷ last
    ∷ first_of capsule_addr 0 row.trailers ∷ last_of capsule_addr 0 row.trailers
    ∷ row.part_offset ∷ row.part_length ∷ []
ends_words sides.Trailers row first last =
    account_number row.account
    ∷ first_of extent_addr 0 row.extents ∷ last_of extent_addr 0 row.extents
    ∷ first_of capsule_addr 0 row.headers ∷ last_of capsule_addr 0 row.headers
    ∷ first ∷ last
    ∷ row.part_offset ∷ row.part_length ∷ []

-- its block
abbrev pub ends_block : Side → ObjectRow → ℕ → ℕ → Block
ends_block side row first last = record { kind = kinds.Object; bytes = layout (ends_words side row first last) [] }

-- the block of an object, where the ends of a side have these addresses, and some first ones of the side before another
abbrev pub threaded : Side → ℕ → ObjectRow → ℕ → ℕ → ℕ → List CapsuleRow → Entries
threaded side object row first last next rows =
    (object, ends_block side row first last) ∷ linked capsule_addr capsule_block 0 next rows

-- wherever `prev` is the last of some first ones, another follows them now
pub record LinksNext (side : Side) (object prev next : ℕ) (old new : Heap) : Type 0 where
  pub links : (row : ObjectRow) (last was : ℕ) (rows : List CapsuleRow) → prev ≡ last_of capsule_addr 0 rows →
      Changes old.blocks new.blocks (threaded side object row (first_of capsule_addr was rows) last was rows)
      (threaded side object row (first_of capsule_addr next rows) last next rows)
  pub same : besides new ≡ besides old

-- where nothing follows `prev` it is the last one now
pub record LinksLast (side : Side) (object next prev : ℕ) (old new : Heap) : Type 0 where
  pub links : (row : ObjectRow) (first last : ℕ) →
      Changes old.blocks new.blocks ((object, ends_block side row first last) ∷ [])
      ((object, ends_block side row first (if next == 0 then prev else last)) ∷ [])
  pub same : besides new ≡ besides old

-- a block for a header or trailer was taken, before another
pub record TakesCapsule (next : ℕ) (text : List ℕ) (old new : Heap) (addr : ℕ) : Type 0 where
  pub takes : TakesBytes kinds.Capsule (layout (next ∷ []) text) addr old new

-- these are around a place in a side of an object: the last one before it, and the first one behind it
pub record IsGap (side : Side) (row : ObjectRow) (prev next : ℕ) (before behind : List CapsuleRow) : Type 0 where
  pub whole : capsules side row ≡ before ++ behind
  pub at_previous : prev ≡ last_of capsule_addr 0 before
  pub at_next : next ≡ first_of capsule_addr 0 behind

-- some object is kept, and the place is in it
pub record SomeGap (side : Side) (blocks : Blocks) (object prev next : ℕ) : Type 0 where
  pub row : ObjectRow
  pub before : List CapsuleRow
  pub behind : List CapsuleRow
  pub keeps : KeepsObject blocks object row
  pub gap : IsGap side row prev next before behind

-- a header or trailer has come at whichever such place, and all else stays
pub record InsertsCapsule (side : Side) (object prev next : ℕ) (text : List ℕ) (old new : Heap) (addr : ℕ) : Type 0 where
  pub new_block : IsFree old.blocks addr
  pub changes : (row : ObjectRow) (before behind : List CapsuleRow) → IsGap side row prev next before behind →
      Changes old.blocks new.blocks (object_entries object row)
      (object_entries object (with_capsules side (before ++ (record { addr = addr; text = text } ∷ behind)) row))
  pub made : Made (Took (capsule_need (length text)) addr ∷ []) old new

-- the header or trailer at this address stands between these
pub record IsSpot (side : Side) (row : ObjectRow) (prev next : ℕ) (before : List CapsuleRow) (c : CapsuleRow)
    (behind : List CapsuleRow) : Type 0 where
  pub whole : capsules side row ≡ before ++ (c ∷ behind)
  pub at_previous : prev ≡ last_of capsule_addr 0 before
  pub at_next : next ≡ first_of capsule_addr 0 behind

-- some object is kept, and it stands in it
pub record SomeSpot (side : Side) (blocks : Blocks) (object prev gone next : ℕ) : Type 0 where
  pub row : ObjectRow
  pub before : List CapsuleRow
  pub capsule : CapsuleRow
  pub behind : List CapsuleRow
  pub keeps : KeepsObject blocks object row
  pub spot : IsSpot side row prev next before capsule behind
  pub at_gone : gone ≡ capsule.addr

-- it has gone from whichever object has it there, and all else stays
pub record RemovesCapsule (side : Side) (object prev gone next : ℕ) (old new : Heap) : Type 0 where
  pub changes : (row : ObjectRow) (before : List CapsuleRow) (c : CapsuleRow) (behind : List CapsuleRow) →
      IsSpot side row prev next before c behind → gone ≡ c.addr →
      Changes old.blocks new.blocks (object_entries object row) (object_entries object (with_capsules side (before ++ behind) row))
  pub made : Made (Gave gone ∷ []) old new
