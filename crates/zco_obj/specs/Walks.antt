-- Chains of headers, extents and trailers, and how far one was walked.
use Rattle.std.specs.Prelude.{◌≡◌, ◌<◌, ◌^◌, ℕ, List, [], ◌∷◌, ◌++◌, length, sum_by, All, Option, Some}
use Rattle.sdr_base.specs.Blocks.{Block, Blocks}
use Rattle.sdr_base.specs.Entries.{Entries, BlocksAre}
use Rattle.sdr_base.specs.Linked.{first_of, last_of, linked}
use Rattle.sdr_base.specs.ZcoObjects.{CapsuleRow, ExtentRow, capsule_addr, capsule_block, extent_addr, extent_block}
use Rattle.zco_obj.specs.Kept.{CapsuleFits, ExtentFits}
use Rattle.zco_obj.specs.declared.seeing.Last.{Last}
use Rattle.zco_obj.specs.declared.seeing.SeenCapsule.{SeenCapsule}
use Rattle.zco_obj.specs.declared.seeing.SeenExtent.{SeenExtent}

-- what stands there is the block of this header or trailer, before the next one
pub record KeepsCapsule (found : Option Block) (next : ℕ) (c : CapsuleRow) : Type 0 where
  pub block : found ≡ Some (capsule_block 0 next c)
  pub fits : CapsuleFits c
  pub small : next < 2 ^ 64

-- some header or trailer stands there
pub record SomeCapsule (found : Option Block) : Type 0 where
  pub next : ℕ
  pub capsule : CapsuleRow
  pub keeps : KeepsCapsule found next capsule

-- whichever header or trailer stands there, so many bytes has its text, and this is the next one
pub record SeesCapsule (found : Option Block) (seen : SeenCapsule) : Type 0 where
  pub bytes : (next : ℕ) (c : CapsuleRow) → KeepsCapsule found next c → seen.bytes ≡ length c.text
  pub next : (next : ℕ) (c : CapsuleRow) → KeepsCapsule found next c → seen.next ≡ next

-- what stands there is the block of this extent, before the next one
pub record KeepsExtent (found : Option Block) (next : ℕ) (e : ExtentRow) : Type 0 where
  pub block : found ≡ Some (extent_block 0 next e)
  pub fits : ExtentFits e
  pub small : next < 2 ^ 64

-- some extent stands there
pub record SomeExtent (found : Option Block) : Type 0 where
  pub next : ℕ
  pub extent : ExtentRow
  pub keeps : KeepsExtent found next extent

-- whichever extent stands there, this is its source, its length, and the next one
pub record SeesExtent (found : Option Block) (seen : SeenExtent) : Type 0 where
  pub source : (next : ℕ) (e : ExtentRow) → KeepsExtent found next e → seen.source ≡ e.source
  pub length : (next : ℕ) (e : ExtentRow) → KeepsExtent found next e → seen.length ≡ e.length
  pub next : (next : ℕ) (e : ExtentRow) → KeepsExtent found next e → seen.next ≡ next

-- a chain of any layout stands there, each of which has P
pub record ChainAt {X : Type 0} (P : X → Type 0) (addr : X → ℕ) (block : ℕ → ℕ → X → Block) (blocks : Blocks) (first : ℕ)
    (xs : List X) : Type 0 where
  pub rest : Entries
  pub stands : BlocksAre blocks (linked addr block 0 0 xs ++ rest)
  pub at_first : first ≡ first_of addr 0 xs
  pub fits : All P xs
  pub few : length xs < 2 ^ 22

-- a chain of headers, or of trailers
abbrev pub CapsulesAt : Blocks → ℕ → List CapsuleRow → Type 0
CapsulesAt = ChainAt CapsuleFits capsule_addr capsule_block

-- a chain of extents
abbrev pub ExtentsAt : Blocks → ℕ → List ExtentRow → Type 0
ExtentsAt = ChainAt ExtentFits extent_addr extent_block

-- some chain of headers, or of trailers, stands there
pub record SomeCapsules (blocks : Blocks) (first : ℕ) : Type 0 where
  pub rows : List CapsuleRow
  pub is : CapsulesAt blocks first rows

-- some chain of extents stands there
pub record SomeExtents (blocks : Blocks) (first : ℕ) : Type 0 where
  pub rows : List ExtentRow
  pub is : ExtentsAt blocks first rows

-- some first ones of a chain were passed, so many; the cursor is at the first of those that are left
pub record Passed {X : Type 0} (addr : X → ℕ) (xs : List X) (cursor i : ℕ) : Type 0 where
  pub passed : List X
  pub left : List X
  pub whole : xs ≡ passed ++ left
  pub counted : length passed ≡ i
  pub at_cursor : cursor ≡ first_of addr 0 left

-- and a sum over those that were passed is so much
pub record Summed {X : Type 0} (addr : X → ℕ) (f : X → ℕ) (xs : List X) (cursor i total : ℕ) : Type 0 where
  pub walk : Passed addr xs cursor i
  pub sum : total ≡ sum_by f walk.passed

-- so it is of whichever chain stands there
pub record Sums {X : Type 0} (P : X → Type 0) (addr : X → ℕ) (block : ℕ → ℕ → X → Block) (f : X → ℕ) (blocks : Blocks)
    (first cursor i total : ℕ) : Type 0 where
  pub sums : (xs : List X) → ChainAt P addr block blocks first xs → Summed addr f xs cursor i total

-- the sum over whichever chain stands there is so much
pub record TellsSum {X : Type 0} (P : X → Type 0) (addr : X → ℕ) (block : ℕ → ℕ → X → Block) (f : X → ℕ) (blocks : Blocks)
    (first total : ℕ) : Type 0 where
  pub tells : (xs : List X) → ChainAt P addr block blocks first xs → total ≡ sum_by f xs

-- the bytes of whichever headers or trailers stand there
abbrev pub TellsCapsules : Blocks → ℕ → ℕ → Type 0
TellsCapsules = TellsSum CapsuleFits capsule_addr capsule_block (λ c. length c.text)

-- the bytes of whichever extents stand there
abbrev pub TellsExtents : Blocks → ℕ → ℕ → Type 0
TellsExtents = TellsSum ExtentFits extent_addr extent_block (λ e. e.length)

-- these are the last one of a chain and the one before it
pub record IsLast (rows : List CapsuleRow) (last : Last) : Type 0 where
  pub before : List CapsuleRow
  pub capsule : CapsuleRow
  pub whole : rows ≡ before ++ capsule ∷ []
  pub at_previous : last.previous ≡ last_of capsule_addr 0 before
  pub at_addr : last.addr ≡ capsule.addr

-- so it is of whichever chain stands there
pub record FindsLast (blocks : Blocks) (first : ℕ) (last : Last) : Type 0 where
  pub finds : (rows : List CapsuleRow) → CapsulesAt blocks first rows → IsLast rows last

-- so many were passed, the cursor is at the next one, and the last that was passed is before it
pub record AtOne (rows : List CapsuleRow) (previous cursor i : ℕ) : Type 0 where
  pub passed : List CapsuleRow
  pub capsule : CapsuleRow
  pub behind : List CapsuleRow
  pub whole : rows ≡ passed ++ (capsule ∷ behind)
  pub counted : length passed ≡ i
  pub at_previous : previous ≡ last_of capsule_addr 0 passed
  pub at_cursor : cursor ≡ capsule.addr

-- so it is of whichever chain stands there
pub record WalksOne (blocks : Blocks) (first previous cursor i : ℕ) : Type 0 where
  pub walks : (rows : List CapsuleRow) → CapsulesAt blocks first rows → AtOne rows previous cursor i
