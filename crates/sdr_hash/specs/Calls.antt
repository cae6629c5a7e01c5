-- What the calls on hashes come to, and when they are refused.
use Rattle.std.specs.Prelude.{◌≡◌, ◌≢◌, ◌+◌, ◌*◌, ℕ, List, [], ◌∷◌, length, replicate, sum_by, Option, Some, None}
use Rattle.sdr_base.specs.Blocks.{Blocks, IsKind}
use Rattle.sdr_base.specs.Entries.{Adds, Changes}
use Rattle.sdr_base.specs.Hashes.{HashItem, HashRow, hash_entries}
use Rattle.sdr_base.specs.Making.{Made, MakesThing, besides}
use Rattle.sdr_base.specs.Objects.{Heap, Misses, OnlyFault, OnlyShort, OnlyUnmoved}
use Rattle.sdr_base.specs.declared.kind.Kind.TheVariants as kinds
use Rattle.sdr_base.specs.declared.line.TheConstants.{WORD}
use Rattle.sdr_base.specs.declared.moves.Move.TheVariants.{Took, Gave}
use Rattle.sdr_base.specs.declared.refusal.Refusal.TheVariants as refusals
use Rattle.sdr_base.specs.declared.stop.Stop.{Stop}
use Rattle.sdr_base.specs.declared.stop.Stop.TheVariants.{Refused}
use Rattle.sdr_hash.specs.Buckets.{item_of, with_item, with_value, without_key}
use Rattle.sdr_hash.specs.Kept.{IsNoShape, IsShape, KeepsHash}
use Rattle.sdr_hash.specs.declared.hash.TheConstants.{FRONTS_FROM}
use Rattle.sdr_hash.specs.declared.entry.TheConstants.{KEY_FROM}

-- a hash without entries
abbrev pub empty_hash : ℕ → ℕ → HashRow
empty_hash key_length buckets = record { key_length = key_length; buckets = replicate buckets [] }

-- the hash was made, without entries
pub record MakesHash (key_length buckets addr : ℕ) (old new : Heap) : Type 0 where
  pub shape : IsShape key_length buckets
  pub makes : MakesThing (FRONTS_FROM + WORD * buckets) addr (hash_entries addr (empty_hash key_length buckets)) old new

-- why it isn't: it is of no shape that is allowed, and all is as before; or there is no block for it, or no log room; or
-- a fault
abbrev pub CreateStops : ℕ → ℕ → Heap → Heap → Stop → Type 0
CreateStops key_length buckets old new (Refused (refusals.BadKeyLength bytes want)) =
    IsNoShape key_length buckets (Refused (refusals.BadKeyLength bytes want)) × (new ≡ old)
CreateStops key_length buckets old new (Refused (refusals.BadRow row rows)) =
    IsNoShape key_length buckets (Refused (refusals.BadRow row rows)) × (new ≡ old)
CreateStops key_length buckets old new (Refused refusal) =
    IsShape key_length buckets × OnlyShort (FRONTS_FROM + WORD * buckets) old new (Refused refusal)
CreateStops key_length buckets old new stop = OnlyFault stop

-- so many entries has whichever hash is kept
pub record CountsEntries (blocks : Blocks) (hash count : ℕ) : Type 0 where
  pub kind : IsKind (blocks hash) kinds.Hash
  pub counts : (row : HashRow) → KeepsHash blocks hash row → count ≡ sum_by length row.buckets

-- the key is as long as the keys of whichever hash is kept
pub record IsKeyOf (blocks : Blocks) (hash : ℕ) (key : List ℕ) : Type 0 where
  pub kind : IsKind (blocks hash) kinds.Hash
  pub long : (row : HashRow) → KeepsHash blocks hash row → length key ≡ row.key_length

-- the keys of whichever hash is kept are so long, and the key isn't
pub record IsNoKeyOf (blocks : Blocks) (hash : ℕ) (key : List ℕ) (want : ℕ) : Type 0 where
  pub kind : IsKind (blocks hash) kinds.Hash
  pub wants : (row : HashRow) → KeepsHash blocks hash row → want ≡ row.key_length
  pub differs : length key ≢ want

-- why a key has no bucket: for the hash's address, or for its length; or a fault
abbrev pub LacksBucket : Blocks → ℕ → List ℕ → Stop → Type 0
LacksBucket blocks hash key (Refused (refusals.BadKeyLength bytes want)) =
    (bytes ≡ length key) × IsNoKeyOf blocks hash key want
LacksBucket blocks hash key stop = Misses (blocks hash) hash kinds.Hash stop

-- what f tells of an entry, where there is one
abbrev pub item_told : (HashItem → ℕ) → Option HashItem → Option ℕ
item_told f None = None
item_told f (Some item) = Some (f item)

-- the key has this value in whichever hash is kept
pub record FindsKey (blocks : Blocks) (hash : ℕ) (key : List ℕ) (value : ℕ) : Type 0 where
  pub is : IsKeyOf blocks hash key
  pub finds : (row : HashRow) → KeepsHash blocks hash row → item_told (λ item. item.value) (item_of row key)
      ≡ Some value

-- whichever hash is kept hasn't the key
pub record LacksKey (blocks : Blocks) (hash : ℕ) (key : List ℕ) : Type 0 where
  pub is : IsKeyOf blocks hash key
  pub lacks : (row : HashRow) → KeepsHash blocks hash row → item_of row key ≡ None

-- why a key isn't found: it has no bucket, or it isn't there; or a fault
abbrev pub FindStops : Blocks → ℕ → List ℕ → Stop → Type 0
FindStops blocks hash key (Refused refusals.NotFound) = LacksKey blocks hash key
FindStops blocks hash key stop = LacksBucket blocks hash key stop

-- a new entry
abbrev pub new_item : ℕ → List ℕ → ℕ → HashItem
new_item addr key value = record { addr = addr; value = value; key = key }

-- a key that wasn't there has come in front of its bucket, in whichever hash is kept, and all else stays
pub record InsertsKey (hash : ℕ) (key : List ℕ) (value : ℕ) (old new : Heap) : Type 0 where
  pub lacks : LacksKey old.blocks hash key
  pub addr : ℕ
  pub adds : (row : HashRow) → KeepsHash old.blocks hash row →
      Adds old.blocks new.blocks addr (hash_entries hash row) (hash_entries hash (with_item row (new_item addr key value)))
  pub made : Made (Took (KEY_FROM + length key) addr ∷ []) old new

-- why none has come: it has no bucket, or it is there with this value, and all is as before; or there is no block for it,
-- or no log room; or a fault
abbrev pub InsertStops : ℕ → List ℕ → Heap → Heap → Stop → Type 0
InsertStops hash key old new (Refused (refusals.BadAddress bad)) =
    LacksBucket old.blocks hash key (Refused (refusals.BadAddress bad)) × (new ≡ old)
InsertStops hash key old new (Refused (refusals.WrongKind bad number)) =
    LacksBucket old.blocks hash key (Refused (refusals.WrongKind bad number)) × (new ≡ old)
InsertStops hash key old new (Refused (refusals.BadKeyLength bytes want)) =
    LacksBucket old.blocks hash key (Refused (refusals.BadKeyLength bytes want)) × (new ≡ old)
InsertStops hash key old new (Refused (refusals.KeyTaken value)) = FindsKey old.blocks hash key value × (new ≡ old)
InsertStops hash key old new (Refused refusal) =
    LacksKey old.blocks hash key × OnlyShort (KEY_FROM + length key) old new (Refused refusal)
InsertStops hash key old new stop = OnlyFault stop

-- the key is in whichever hash is kept, in an entry at this address
pub record HasKey (blocks : Blocks) (hash : ℕ) (key : List ℕ) : Type 0 where
  pub is : IsKeyOf blocks hash key
  pub addr : ℕ
  pub here : (row : HashRow) → KeepsHash blocks hash row → item_told (λ item. item.addr) (item_of row key) ≡ Some addr

-- the key has another value in whichever hash is kept, with no move, and all else stays
pub record RevisesKey (hash : ℕ) (key : List ℕ) (value : ℕ) (old new : Heap) : Type 0 where
  pub has : HasKey old.blocks hash key
  pub changes : (row : HashRow) → KeepsHash old.blocks hash row →
      Changes old.blocks new.blocks (hash_entries hash row) (hash_entries hash (with_value row key value))
  pub same : besides new ≡ besides old

-- the key was taken out of whichever hash is kept, and its entry given back, and all else stays
pub record RemovesKey (hash : ℕ) (key : List ℕ) (old new : Heap) : Type 0 where
  pub has : HasKey old.blocks hash key
  pub changes : (row : HashRow) → KeepsHash old.blocks hash row →
      Changes old.blocks new.blocks (hash_entries hash row) (hash_entries hash (without_key row key))
  pub made : Made (Gave has.addr ∷ []) old new

-- why a key isn't changed or taken out: it has no bucket, or it isn't there, and all is as before; or there is no log
-- room, and no move was made; or a fault
abbrev pub ChangeStops : ℕ → List ℕ → Heap → Heap → Stop → Type 0
ChangeStops hash key old new (Refused (refusals.BadAddress bad)) =
    LacksBucket old.blocks hash key (Refused (refusals.BadAddress bad)) × (new ≡ old)
ChangeStops hash key old new (Refused (refusals.WrongKind bad number)) =
    LacksBucket old.blocks hash key (Refused (refusals.WrongKind bad number)) × (new ≡ old)
ChangeStops hash key old new (Refused (refusals.BadKeyLength bytes want)) =
    LacksBucket old.blocks hash key (Refused (refusals.BadKeyLength bytes want)) × (new ≡ old)
ChangeStops hash key old new (Refused refusals.NotFound) = LacksKey old.blocks hash key × (new ≡ old)
ChangeStops hash key old new (Refused refusal) =
    HasKey old.blocks hash key × OnlyUnmoved old new (Refused refusal)
ChangeStops hash key old new stop = OnlyFault stop
