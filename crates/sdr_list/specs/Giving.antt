-- A chain of blocks that is given back, the first one first.
use Rattle.std.specs.Prelude.{◌≡◌, ℕ, List, ◌++◌, length, map, All}
use Rattle.sdr_base.specs.Blocks.{Block, Blocks}
use Rattle.sdr_base.specs.Entries.{Entries, BlocksAre}
use Rattle.sdr_base.specs.Linked.{first_of, linked}
use Rattle.sdr_base.specs.Lists.{ElementFits, ListElement, addr_of, element_block, elements_between}
use Rattle.sdr_base.specs.Making.{GaveSome, Made, gave}
use Rattle.sdr_base.specs.Objects.{Heap, OnlyFault}
use Rattle.sdr_base.specs.declared.refusal.Refusal.TheVariants.{LogFull}
use Rattle.sdr_base.specs.declared.stop.Stop.{Stop}
use Rattle.sdr_base.specs.declared.stop.Stop.TheVariants.{Refused}

-- of a chain of any layout so many first ones were given back; the next one is at the cursor, and P holds of all
pub record Part {X : Type 0} (P : X → Type 0) (addr : X → ℕ) (block : ℕ → ℕ → X → Block) (next : ℕ) (old now : Heap)
    (cursor i : ℕ) (xs : List X) (rest : Entries) : Type 0 where
  pub gone : List X
  pub left : List X
  pub prev : ℕ
  pub whole : xs ≡ gone ++ left
  pub passed : length gone ≡ i
  pub at_cursor : cursor ≡ first_of addr next left
  pub holds : All P left
  pub stands : BlocksAre now.blocks (linked addr block prev next left ++ rest)
  pub made : Made (gave (map addr gone)) old now

-- a chain of elements stands there, so many, with other blocks
pub record ChainAt (blocks : Blocks) (first count list prev : ℕ) (xs : List ListElement) (rest : Entries) : Type 0 where
  pub stands : BlocksAre blocks (elements_between list prev 0 xs ++ rest)
  pub at_first : first ≡ first_of addr_of 0 xs
  pub counted : count ≡ length xs
  pub fits : All ElementFits xs

-- some chain of elements stands there
pub record SomeChain (blocks : Blocks) (first count : ℕ) : Type 0 where
  pub list : ℕ
  pub prev : ℕ
  pub xs : List ListElement
  pub rest : Entries
  pub is : ChainAt blocks first count list prev xs rest

-- of whichever chain stands there so many first ones were given back
pub record GivesElements (old now : Heap) (first count cursor i : ℕ) : Type 0 where
  pub gives : (list prev : ℕ) (xs : List ListElement) (rest : Entries) → ChainAt old.blocks first count list prev xs rest →
      Part ElementFits addr_of (element_block list) 0 old now cursor i xs rest

-- the chain was given back, and the other blocks stand
pub record Gone (old new : Heap) (xs : List ListElement) (rest : Entries) : Type 0 where
  pub stands : BlocksAre new.blocks rest
  pub made : Made (gave (map addr_of xs)) old new

-- whichever chain stands there was given back
pub record GivesChain (old new : Heap) (first count : ℕ) : Type 0 where
  pub gives : (list prev : ℕ) (xs : List ListElement) (rest : Entries) → ChainAt old.blocks first count list prev xs rest →
      Gone old new xs rest

-- of whichever chain stands there some first ones were given back
pub record GivesSome (old new : Heap) (first count : ℕ) : Type 0 where
  pub gives : (list prev : ℕ) (xs : List ListElement) (rest : Entries) → ChainAt old.blocks first count list prev xs rest →
      GaveSome (map addr_of xs) old new

-- why a chain isn't given back: there is no log room; or a fault
abbrev pub GiveStops : ℕ → ℕ → Heap → Heap → Stop → Type 0
GiveStops first count old new (Refused (LogFull lines room)) = GivesSome old new first count
GiveStops first count old new stop = OnlyFault stop
