-- A bucket that is given back, the first entry first.
use Rattle.std.specs.Prelude.{◌≡◌, ◌≤◌, ◌+◌, ◌-◌, ℕ, List, ◌∷◌, ◌++◌, length, map, Result, Ok, Err}
use Rattle.sdr_base.specs.Blocks.{Blocks}
use Rattle.sdr_base.specs.Entries.{Entries, BlocksAre}
use Rattle.sdr_base.specs.Hashes.{HashItem, item_addr, item_block}
use Rattle.sdr_base.specs.Making.{GaveSome, Made, gave}
use Rattle.sdr_base.specs.Objects.{Heap, OnlyFault}
use Rattle.sdr_base.specs.declared.refusal.Refusal.TheVariants.{LogFull}
use Rattle.sdr_base.specs.declared.stop.Stop.{Stop}
use Rattle.sdr_base.specs.declared.stop.Stop.TheVariants.{Refused}
use Rattle.sdr_hash.specs.Kept.{ItemFits}
use Rattle.sdr_hash.specs.Opened.{IsOpened, opened_entries, words_block}
use Rattle.sdr_hash.specs.declared.bucket.Link.{Link}
use Rattle.sdr_list.specs.Giving.{Part}

-- how many entries were given back at most, of so many at most: those that the answer has fewer, or all
abbrev pub given : ℕ → Result ℕ Stop → ℕ
given most (Ok left) = most - left
given most (Err stop) = most

-- a bucket is opened here, of so many entries at most
pub record OpenedAt (blocks : Blocks) (front : Link) (most key_length : ℕ) (words : List ℕ) (bucket : List HashItem)
    (rest : Entries) : Type 0 where
  pub stands : BlocksAre blocks (opened_entries front.addr words bucket ++ rest)
  pub opened : IsOpened key_length front.field words bucket
  pub few : length bucket ≤ most

-- some bucket is
pub record SomeOpened (blocks : Blocks) (front : Link) (most : ℕ) : Type 0 where
  pub key_length : ℕ
  pub words : List ℕ
  pub bucket : List HashItem
  pub rest : Entries
  pub is : OpenedAt blocks front most key_length words bucket rest

-- of whichever bucket is opened there so many first entries were given back
pub record GivesItems (old now : Heap) (front : Link) (most cursor i : ℕ) : Type 0 where
  pub gives : (key_length : ℕ) (words : List ℕ) (bucket : List HashItem) (rest : Entries) →
      OpenedAt old.blocks front most key_length words bucket rest →
      Part (ItemFits key_length) item_addr item_block 0 old now cursor i bucket ((front.addr, words_block words) ∷ rest)

-- the bucket's entries were given back, and the other blocks stand
pub record Gone (old new : Heap) (hash : ℕ) (words : List ℕ) (bucket : List HashItem) (rest : Entries)
    (most left : ℕ) : Type 0 where
  pub stands : BlocksAre new.blocks ((hash, words_block words) ∷ rest)
  pub counted : length bucket + left ≡ most
  pub made : Made (gave (map item_addr bucket)) old new

-- whichever bucket is opened there was given back
pub record GivesBucket (old new : Heap) (front : Link) (most left : ℕ) : Type 0 where
  pub gives : (key_length : ℕ) (words : List ℕ) (bucket : List HashItem) (rest : Entries) →
      OpenedAt old.blocks front most key_length words bucket rest →
      Gone old new front.addr words bucket rest most left

-- of whichever bucket is opened there some first entries were given back
pub record GivesSome (old new : Heap) (front : Link) (most : ℕ) : Type 0 where
  pub gives : (key_length : ℕ) (words : List ℕ) (bucket : List HashItem) (rest : Entries) →
      OpenedAt old.blocks front most key_length words bucket rest → GaveSome (map item_addr bucket) old new

-- why a bucket isn't given back: there is no log room; or a fault
abbrev pub GiveStops : Link → ℕ → Heap → Heap → Stop → Type 0
GiveStops front most old new (Refused (LogFull lines room)) = GivesSome old new front most
GiveStops front most old new stop = OnlyFault stop
