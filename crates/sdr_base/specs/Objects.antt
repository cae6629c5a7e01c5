-- What a heap holds, and what the calls of `Objects` do to it.
use Rattle.std.specs.Prelude.{◌≡◌, ◌≢◌, ◌-◌, ◌<◌, ◌^◌, ℕ, Bool, true, List, [], ◌∷◌, ◌++◌, length, replicate, ⊤}
use Rattle.std.specs.Prelude.{Option, Some, None, Result, Ok, Err}
use Rattle.sdr_base.specs.Blocks.{Block, Blocks, IsOther, with_block, with_at, overwritten}
use Rattle.sdr_base.specs.declared.kind.Kind.{Kind}
use Rattle.sdr_base.specs.declared.moves.Move.{Move}
use Rattle.sdr_base.specs.declared.moves.Move.TheVariants.{Took, Gave, Short}
use Rattle.sdr_base.specs.declared.refusal.Refusal.TheVariants.{NoBlock, LogFull, BadAddress, WrongKind}
use Rattle.sdr_base.specs.declared.stop.Stop.{Stop}
use Rattle.sdr_base.specs.declared.stop.Stop.TheVariants.{Refused, DiskFault, MediaFault, Failed}

-- the bytes of the heap region; the blocks in use; the control words that belong to what they keep; the addresses
-- that are marked in this transaction; the moves since they were last emptied; and for how many more there is room
pub record Heap : Type 0 where
  pub size : ℕ
  pub blocks : Blocks
  pub roots : ℕ → ℕ
  pub marks : ℕ → Bool
  pub moves : List Move
  pub spare : ℕ

-- the heap with a move more
abbrev pub with_move : Heap → Move → Heap
with_move heap move = record heap { moves = heap.moves ++ move ∷ []; spare = heap.spare - 1 }

-- a marked block of so many zero bytes stands where none was, and all else is as before
pub record TakesZeros (kind : Kind) (need addr : ℕ) (old new : Heap) : Type 0 where
  pub nonzero : addr ≢ 0
  pub small : addr < 2 ^ 32
  pub fresh : old.blocks addr ≡ None
  pub taken : new ≡ record (with_move old (Took need addr)) {
    blocks = with_block old.blocks addr (Some (record { kind = kind; bytes = replicate need 0 }));
    marks = with_at old.marks addr true;
  }

-- the heap without the block at an address, which was given back
abbrev pub with_given : Heap → ℕ → Heap
with_given heap addr = record (with_move heap (Gave addr)) { blocks = with_block heap.blocks addr None }

-- the heap with other bytes in a block, from a place on
abbrev pub with_bytes : Heap → ℕ → ℕ → List ℕ → Heap
with_bytes heap addr place from =
    record heap { blocks = with_block heap.blocks addr (overwritten (heap.blocks addr) place from) }

-- the heap with another control word
abbrev pub with_root : Heap → ℕ → ℕ → Heap
with_root heap word value = record heap { roots = with_at heap.roots word value }

-- the heap with an address marked
abbrev pub with_mark : Heap → ℕ → Heap
with_mark heap addr = record heap { marks = with_at heap.marks addr true }

-- P holds, unless the call was stopped for want of log room or by a fault
abbrev pub UnlessStop : Stop → Type 0 → Type 0
UnlessStop (Refused (LogFull lines room)) P = ⊤
UnlessStop (Refused refusal) P = P
UnlessStop DiskFault P = ⊤
UnlessStop MediaFault P = ⊤
UnlessStop Failed P = ⊤

-- P holds of the state after a call, unless the call was stopped so
abbrev pub Settled : {T : Type 0} → Result T Stop → Type 0 → Type 0
Settled (Ok value) P = P
Settled (Err stop) P = UnlessStop stop P

-- the call stopped for want of log room or by a fault, and for no other reason
abbrev pub OnlyFull : Stop → Type 0
OnlyFull (Refused (LogFull lines room)) = ⊤
OnlyFull (Refused refusal) = ⊥
OnlyFull DiskFault = ⊤
OnlyFull MediaFault = ⊥
OnlyFull Failed = ⊤

-- no move was made, and there is room for as many more as before
pub record IsUnmoved (old new : Heap) : Type 0 where
  pub moves : new.moves ≡ old.moves
  pub spare : new.spare ≡ old.spare

-- the same, and where log room was wanting, no move was made
abbrev pub OnlyUnmoved : Heap → Heap → Stop → Type 0
OnlyUnmoved old new (Refused (LogFull lines room)) = IsUnmoved old new
OnlyUnmoved old new (Refused refusal) = ⊥
OnlyUnmoved old new DiskFault = ⊤
OnlyUnmoved old new MediaFault = ⊥
OnlyUnmoved old new Failed = ⊤

-- the call stopped by a fault
abbrev pub OnlyFault : Stop → Type 0
OnlyFault (Refused refusal) = ⊥
OnlyFault DiskFault = ⊤
OnlyFault MediaFault = ⊥
OnlyFault Failed = ⊤

-- these moves are some first ones of all
pub record AreFirstOf (all moves : List Move) : Type 0 where
  pub rest : List Move
  pub whole : all ≡ moves ++ rest

-- no move was made, or a block for so many bytes was taken and that was all
pub record TookNoMore (need : ℕ) (old new : Heap) : Type 0 where
  pub addr : ℕ
  pub made : List Move
  pub first : AreFirstOf (Took need addr ∷ []) made
  pub moves : new.moves ≡ old.moves ++ made
  pub spare : new.spare ≡ old.spare - length made

-- the call stopped for want of a block of so many bytes, which is noted, and all else is as before; or for want of log
-- room, and no more than the one block was taken; or by a fault
abbrev pub OnlyShort : ℕ → Heap → Heap → Stop → Type 0
OnlyShort need old new (Refused (NoBlock missing)) = (missing ≡ need) × (new ≡ with_move old (Short need))
OnlyShort need old new (Refused (LogFull lines room)) = TookNoMore need old new
OnlyShort need old new (Refused refusal) = ⊥
OnlyShort need old new DiskFault = ⊤
OnlyShort need old new MediaFault = ⊥
OnlyShort need old new Failed = ⊤

-- why a call that wants a block of a kind at an address stops: none begins there, or one of another kind, whose
-- number it tells; or a fault
abbrev pub Misses : Option Block → ℕ → Kind → Stop → Type 0
Misses found addr kind (Refused (BadAddress bad)) = (bad ≡ addr) × (found ≡ None)
Misses found addr kind (Refused (WrongKind bad number)) = (bad ≡ addr) × IsOther found kind number
Misses found addr kind stop = OnlyFault stop
