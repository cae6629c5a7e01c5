-- The calls on raw objects: what they answer, and when they are refused.
use Rattle.std.specs.Prelude.{◌≡◌, ◌≢◌, ◌≤◌, ◌<◌, ◌+◌, ◌-◌, ◌⊎◌, ℕ, true, false, List, length, Option, Some, None}
use Rattle.std.specs.Prelude.{Result, ⊤}
use Rattle.sdr_base.specs.Blocks.{Block, HasBytes, IsKind, Reaches}
use Rattle.sdr_base.specs.Kinds.{kind_number}
use Rattle.sdr_base.specs.Moves.{KeepsSome}
use Rattle.sdr_base.specs.Objects.{Heap, TakesZeros, OnlyUnmoved, OnlyFault, OnlyShort, with_bytes, with_given}
use Rattle.sdr_base.specs.Transaction.{HasReason, TouchesAtMost}
use Rattle.sdr_base.specs.Works.{LeadsOn, StaysQuiet}
use Rattle.sdr_base.specs.declared.has_heap.HasHeap.{Ghosts}
use Rattle.sdr_base.specs.declared.kind.Kind.{Kind}
use Rattle.sdr_base.specs.declared.kind.Kind.TheVariants as kinds
use Rattle.sdr_base.specs.declared.layout.raw.TheConstants.{BYTES}
use Rattle.sdr_base.specs.declared.refusal.Refusal.TheVariants as refusals
use Rattle.sdr_base.specs.declared.stop.Stop.{Stop}
use Rattle.sdr_base.specs.declared.stop.Stop.TheVariants.{Refused}
use Rattle.sdr_base.specs.declared.limits.TheConstants.{LONGEST_RAW, LONGEST_READ}
use Rattle.zco_ref.specs.Naming.{IsNamed, IsUnnamed}

-- a raw object has its source word
abbrev pub HasSourceWord : Option Block → Type 0
HasSourceWord None = ⊤
HasSourceWord (Some block) = block.kind ≡ kinds.Raw → BYTES ≤ length block.bytes

-- where a raw object is, no source names it
abbrev pub HasNoSource : Option Block → Type 0
HasNoSource found = IsKind found kinds.Raw → IsUnnamed found

-- the length that is told of a block: a raw object's without its source word
abbrev pub told_length : Kind → ℕ → ℕ
told_length kinds.Raw bytes = bytes - BYTES
told_length kind bytes = bytes

-- there is a block, and this is the length that is told of it
abbrev pub HasTold : Option Block → ℕ → Type 0
HasTold None value = ⊥
HasTold (Some block) value = value ≡ told_length block.kind (length block.bytes)

-- the raw object has so many bytes
abbrev pub HasRoom : Option Block → ℕ → Type 0
HasRoom found end = Reaches found (BYTES + end)

-- the raw object has fewer bytes
abbrev pub Exceeds : Option Block → ℕ → Type 0
Exceeds None end = ⊥
Exceeds (Some block) end = length block.bytes < BYTES + end

-- the block is a raw object or a string
abbrev pub IsRawOrText : Option Block → Type 0
IsRawOrText found = IsKind found kinds.Raw ⊎ IsKind found kinds.Text

-- the block is neither, and this is the number of its kind
abbrev pub IsNeither : Option Block → ℕ → Type 0
IsNeither None number = ⊥
IsNeither (Some block) number = (number ≡ kind_number block.kind) × (block.kind ≢ kinds.Raw) × (block.kind ≢ kinds.Text)

-- the address is refused to a call on a raw object
abbrev pub MissesRaw : Option Block → ℕ → Stop → Type 0 → Type 0
MissesRaw found addr (Refused (refusals.BadAddress bad)) other = (bad ≡ addr) × (found ≡ None)
MissesRaw None addr (Refused (refusals.WrongKind bad number)) other = ⊥
MissesRaw (Some block) addr (Refused (refusals.WrongKind bad number)) other =
    (bad ≡ addr) × (number ≡ kind_number block.kind) × (block.kind ≢ kinds.Raw)
MissesRaw found addr stop other = other

-- why `malloc` stops: the object would be too long, and all is as before; or there is no block or no log room for it,
-- and no more than its block was taken; or a fault
abbrev pub MallocStops : ℕ → Heap → Heap → Stop → Type 0
MallocStops bytes old new (Refused (refusals.BadLength length most)) =
    (length ≡ bytes) × (most ≡ LONGEST_RAW) × (LONGEST_RAW < bytes) × (new ≡ old)
MallocStops bytes old new (Refused refusal) =
    (bytes ≤ LONGEST_RAW) × OnlyShort (BYTES + bytes) old new (Refused refusal)
MallocStops bytes old new stop = OnlyFault stop

-- why `free` stops: for the address, or since a source names the raw object, with how many extents name that, and all is
-- as before; or for want of log room, and no move was made; or a fault
abbrev pub FreeStops : ℕ → Heap → Heap → Stop → Type 0
FreeStops addr old new (Refused (refusals.BadAddress bad)) = (bad ≡ addr) × (old.blocks addr ≡ None) × (new ≡ old)
FreeStops addr old new (Refused (refusals.WrongKind bad number)) =
    (bad ≡ addr) × IsNeither (old.blocks addr) number × (new ≡ old)
FreeStops addr old new (Refused (refusals.InUse bad count)) = (bad ≡ addr) × IsNamed old.blocks addr count × (new ≡ old)
FreeStops addr old new (Refused refusal) =
    IsRawOrText (old.blocks addr) × HasNoSource (old.blocks addr) × OnlyUnmoved old new (Refused refusal)
FreeStops addr old new stop = OnlyFault stop

-- why the length of a block isn't told: none begins at the address; or a fault
abbrev pub IsMissing : Option Block → ℕ → Stop → Type 0
IsMissing found addr (Refused (refusals.BadAddress bad)) = (bad ≡ addr) × (found ≡ None)
IsMissing found addr stop = OnlyFault stop

-- why a read of so many bytes from a place on stops: for the address, for their number, or for the place
abbrev pub ReadStops : Option Block → ℕ → ℕ → ℕ → Stop → Type 0
ReadStops found addr place count (Refused (refusals.BadLength length most)) =
    (length ≡ count) × (most ≡ LONGEST_READ) × (LONGEST_READ < count) × IsKind found kinds.Raw
ReadStops found addr place count (Refused (refusals.OutOfBounds bad at length)) =
    (bad ≡ addr) × (at ≡ place) × (length ≡ count) × (count ≤ LONGEST_READ) × Exceeds found (place + count)
    × IsKind found kinds.Raw
ReadStops found addr place count stop = MissesRaw found addr stop (OnlyFault stop)

-- why a write of so many bytes from a place on stops: for the address, for the place, or because the object was
-- neither taken nor staged, and then all is as before, the control words too; or for want of log room, and no move was
-- made; or a fault
abbrev pub WriteStops : Option Block → ℕ → ℕ → ℕ → Heap → Heap → Stop → Type 0
WriteStops found addr place count old new (Refused (refusals.OutOfBounds bad at length)) =
    (bad ≡ addr) × (at ≡ place) × (length ≡ count) × Exceeds found (place + count) × IsKind found kinds.Raw
    × (new ≡ old)
WriteStops found addr place count old new (Refused (refusals.NotStaged bad)) =
    (bad ≡ addr) × (old.marks addr ≡ false) × HasRoom found (place + count) × IsKind found kinds.Raw × (new ≡ old)
WriteStops found addr place count old new (Refused (refusals.LogFull lines room)) =
    (old.marks addr ≡ true) × HasRoom found (place + count) × IsKind found kinds.Raw
    × OnlyUnmoved old new (Refused (refusals.LogFull lines room))
WriteStops found addr place count old new (Refused refusal) =
    MissesRaw found addr (Refused refusal) ⊥ × (new ≡ old)
WriteStops found addr place count old new stop = OnlyFault stop

-- a raw object of so many zero bytes was made, which no source names
pub record MakesRaw (bytes addr : ℕ) (old new : Heap) : Type 0 where
  pub short : bytes ≤ LONGEST_RAW
  pub taken : TakesZeros kinds.Raw (BYTES + bytes) addr old new

-- a raw object that no source names, or a string, was given back
pub record Frees (addr : ℕ) (old new : Heap) : Type 0 where
  pub found : IsRawOrText (old.blocks addr)
  pub unnamed : HasNoSource (old.blocks addr)
  pub given : new ≡ with_given old addr

-- the raw object's bytes were given, so many from a place on
pub record ReadsRaw (found : Option Block) (place count : ℕ) (into : List ℕ) : Type 0 where
  pub raw : IsKind found kinds.Raw
  pub few : count ≤ LONGEST_READ
  pub inside : HasRoom found (place + count)
  pub bytes : HasBytes found (BYTES + place) count into

-- bytes were written into a raw object that was taken or staged in this transaction
pub record WritesRaw (addr place : ℕ) (from : List ℕ) (old new : Heap) : Type 0 where
  pub raw : IsKind (old.blocks addr) kinds.Raw
  pub inside : HasRoom (old.blocks addr) (place + length from)
  pub marked : old.marks addr ≡ true
  pub written : new ≡ with_bytes old addr (BYTES + place) from

-- the call reads and marks alone: no line is touched, there is a heap still, and each answer has its cause
pub record Stages {S T : Type 0} (m : Ghosts S) (old new : S) (result : Result T Stop) : Type 0 where
  pub kept : KeepsSome (m.keeps new)
  pub moved : LeadsOn m old new
  pub touched : (m.transaction new).touched ≡ (m.transaction old).touched
  pub room : TouchesAtMost 0 (m.transaction old) (m.transaction new) result
  pub cause : HasReason (m.transaction old) (m.transaction new) result
  pub quiet : StaysQuiet m old new
