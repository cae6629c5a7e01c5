-- What a call on things does to a heap, beside the change of its blocks.
use Rattle.std.specs.Prelude.{◌≡◌, ◌-◌, ℕ, Bool, true, List, [], ◌∷◌, ◌++◌, length, map, None}
use Rattle.sdr_base.specs.Blocks.{with_at}
use Rattle.sdr_base.specs.Entries.{Entries, Adds}
use Rattle.sdr_base.specs.Objects.{AreFirstOf, Heap}
use Rattle.sdr_base.specs.declared.moves.Move.{Move}
use Rattle.sdr_base.specs.declared.moves.Move.TheVariants.{Gave, Took}

-- the marks once these moves were made: each block that they take is marked
abbrev pub marked_by : (ℕ → Bool) → List Move → ℕ → Bool
marked_by marks [] = marks
marked_by marks (Took need addr ∷ moves) = marked_by (with_at marks addr true) moves
marked_by marks (move ∷ moves) = marked_by marks moves

-- the heap with these moves more, and its blocks as they were
abbrev pub with_moves : Heap → List Move → Heap
with_moves heap moves = record heap {
  marks = marked_by heap.marks moves;
  moves = heap.moves ++ moves;
  spare = heap.spare - length moves;
}

-- all of the heap but its blocks
abbrev pub besides : Heap → Heap
besides heap = record heap { blocks = λ addr. None }

-- these moves were made, and what was taken is marked; beside the blocks all else is as before
pub record Made (moves : List Move) (old new : Heap) : Type 0 where
  pub all : besides new ≡ besides (with_moves old moves)

-- a thing was made at an address where nothing was: its first block, which the moves take, and these entries
pub record MakesThing (need addr : ℕ) (es : Entries) (old new : Heap) : Type 0 where
  pub adds : Adds old.blocks new.blocks addr [] es
  pub made : Made (Took need addr ∷ []) old new

-- the blocks at these addresses are given back, in order
abbrev pub gave : List ℕ → List Move
gave = map (λ addr. Gave addr)

-- some first ones of these were given back, and no other move was made
pub record GaveSome (addrs : List ℕ) (old new : Heap) : Type 0 where
  pub made : List Move
  pub first : AreFirstOf (gave addrs) made
  pub moves : new.moves ≡ old.moves ++ made
  pub spare : new.spare ≡ old.spare - length made
