-- What each call keeps beside what it is for, from what its steps keep of the cells.
use Rattle.std.proofs.Common.{◌≡◌, ℕ, Bool, List, refl, sym, ap, ◌∙◌, subst}
use Rattle.std.specs.Prelude.{Result, Ok, Err, IfErr}
use Rattle.sdr_base.specs.Cells.{TouchesWithin}
use Rattle.sdr_base.specs.KeptHeap.{KeepsRegion, block_in, root_in}
use Rattle.sdr_base.specs.Moves.{KeepsSome, Moves}
use Rattle.sdr_base.specs.Objects.{Heap, IsUnmoved, OnlyFull, OnlyUnmoved, Settled}
use Rattle.sdr_base.specs.Transaction.{Transaction, HasReason, TouchesAtMost, TouchesNone}
use Rattle.sdr_base.specs.Works.{LeadsOn, Looks, StaysQuiet, Spends}
use Rattle.sdr_base.specs.declared.has_heap.HasHeap.{Ghosts}
use Rattle.sdr_base.specs.declared.stop.Stop.{Stop}
use Rattle.sdr_base.proofs.MovesLemmas.{Moves-kept, Moves-then}
use Rattle.sdr_base.proofs.ObjectsLemmas.{Settled-then}
use Rattle.sdr_base.proofs.TransactionLemmas.{touches_none}
use Rattle.sdr_heap.specs.Noted.{Held}
use Rattle.sdr_heap.proofs.HeldLemmas.{full_unmoved, moved_same}
use Rattle.sdr_heap.proofs.SeenLemmas.{heap_of}

-- what contracts say of a heap over these cells
abbrev pub ghosts_of : {C : Type 0} → (C → List ℕ) → (C → Transaction) → (C → C → Type 0) → Ghosts (Held C)
ghosts_of bytes transaction quiet = record {
  heap = heap_of bytes;
  keeps = λ s. KeepsRegion s.size (bytes s.cells);
  transaction = λ s. transaction s.cells;
  quiet = λ a b. quiet a.cells b.cells × (b.size ≡ a.size);
  moved = λ a b. Moves (KeepsRegion a.size (bytes a.cells)) (KeepsRegion b.size (bytes b.cells)) a.moves b.moves;
}

module _ {C : Type 0} (bytes : C → List ℕ) (transaction : C → Transaction) (quiet : C → C → Type 0)
    (trans : (a b c : C) → quiet a b → quiet b c → quiet a c) where
  -- from whatever state before
  pub held_leads : (inside seen new : Held C) → inside ≡ seen →
      Moves (KeepsRegion inside.size (bytes inside.cells)) (KeepsRegion new.size (bytes new.cells)) inside.moves
      new.moves →
      LeadsOn (ghosts_of bytes transaction quiet) seen new
  held_leads inside seen new is moved =
      subst (λ (h : Held C). LeadsOn (ghosts_of bytes transaction quiet) h new) is
      (λ begin led. Moves-then (KeepsRegion begin.size (bytes begin.cells))
      (KeepsRegion inside.size (bytes inside.cells)) (KeepsRegion new.size (bytes new.cells)) begin.moves inside.moves
      new.moves led moved)

  pub held_quiet : (inside seen new : Held C) → inside ≡ seen → new.size ≡ inside.size →
      quiet inside.cells new.cells → StaysQuiet (ghosts_of bytes transaction quiet) seen new
  held_quiet inside seen new is size more =
      subst (λ (h : Held C). StaysQuiet (ghosts_of bytes transaction quiet) h new) is
      (λ begin before. (trans begin.cells inside.cells new.cells before.0 more, size ∙ before.1))

  -- a call that changes the heap
  pub held_works : {T : Type 0} (lines : ℕ) (inside seen new : Held C) (result : Result T Stop) → inside ≡ seen →
      new.size ≡ inside.size → KeepsSome (KeepsRegion seen.size (bytes seen.cells)) →
      Settled result (Moves (KeepsRegion inside.size (bytes inside.cells)) (KeepsRegion new.size (bytes new.cells))
      inside.moves new.moves) →
      TouchesAtMost lines (transaction inside.cells) (transaction new.cells) result →
      HasReason (transaction inside.cells) (transaction new.cells) result → quiet inside.cells new.cells →
      Spends (ghosts_of bytes transaction quiet) lines seen new result
  held_works lines inside seen new result is size kept moved room cause more = record {
    kept = Settled-then result (λ m.
        Moves-kept (KeepsRegion inside.size (bytes inside.cells)) (KeepsRegion new.size (bytes new.cells)) inside.moves
        new.moves m
        (subst (λ (h : Held C). KeepsSome (KeepsRegion h.size (bytes h.cells))) (sym is) kept)) moved;
    moved = Settled-then result (λ m. held_leads inside seen new is m) moved;
    room = subst (λ (h : Held C). TouchesAtMost lines (transaction h.cells) (transaction new.cells) result) is room;
    cause = subst (λ (h : Held C). HasReason (transaction h.cells) (transaction new.cells) result) is cause;
    quiet = held_quiet inside seen new is size more;
  }

  -- which lines it touches
  pub held_lines : {T : Type 0} (own : List ℕ) (inside seen : Held C) (cells : C) (result : Result T Stop) → inside ≡ seen →
      TouchesWithin own (transaction inside.cells) (transaction cells) result →
      TouchesWithin own (transaction seen.cells) (transaction cells) result
  held_lines own inside seen cells result is lines =
      subst (λ (h : Held C). TouchesWithin own (transaction h.cells) (transaction cells) result) is lines

  -- a call that reads the cells alone
  pub held_looks : {T : Type 0} (inside seen : Held C) (cells : C) (result : Result T Stop) → inside ≡ seen →
      KeepsSome (KeepsRegion seen.size (bytes seen.cells)) → bytes cells ≡ bytes inside.cells →
      TouchesNone (transaction inside.cells) (transaction cells) result →
      HasReason (transaction inside.cells) (transaction cells) result → quiet inside.cells cells →
      Looks (ghosts_of bytes transaction quiet) seen (record inside { cells = cells }) result
  held_looks {T} inside seen cells result is kept same room cause more =
      subst (λ (h : Held C). Looks (ghosts_of bytes transaction quiet) h (record inside { cells = cells }) result) is
      (record {
        same = ap (λ (x : List ℕ). record (heap_of bytes inside) { blocks = block_in x; roots = root_in x }) same;
        kept = subst (λ (x : List ℕ). KeepsSome (KeepsRegion inside.size x)) (sym same)
            (subst (λ (h : Held C). KeepsSome (KeepsRegion h.size (bytes h.cells))) (sym is) kept);
        moved = held_leads inside inside (record inside { cells = cells }) refl
            (moved_same inside.size (bytes inside.cells) (bytes cells) inside.moves same);
        touched = room.touched;
        room = touches_none room;
        cause = cause;
        quiet = held_quiet inside inside (record inside { cells = cells }) refl refl more;
      })

  -- a mark that is set
  pub marked_leads : (inside seen : Held C) (marks : List Bool) → inside ≡ seen →
      LeadsOn (ghosts_of bytes transaction quiet) seen (record inside { marks = marks })
  marked_leads inside seen marks is =
      held_leads inside seen (record inside { marks = marks }) is
      (moved_same inside.size (bytes inside.cells) (bytes inside.cells) inside.moves refl)

  pub marked_quiet : ((a : C) → quiet a a) → (inside seen : Held C) (marks : List Bool) → inside ≡ seen →
      StaysQuiet (ghosts_of bytes transaction quiet) seen (record inside { marks = marks })
  marked_quiet itself inside seen marks is =
      held_quiet inside seen (record inside { marks = marks }) is refl (itself inside.cells)

-- the moves stay where cells alone are others
pub held_unmoved : {C : Type 0} (bytes : C → List ℕ) (inside seen : Held C) (cells : C) → inside ≡ seen →
    IsUnmoved (heap_of bytes seen) (heap_of bytes (record inside { cells = cells }))
held_unmoved {C} bytes inside seen cells is = record {
  moves = ap (λ (h : Held C). h.moves) is;
  spare = ap (λ (h : Held C). h.spare) is;
}

-- a call that was stopped for want of log room or by a fault made no move
pub full_stays : {T : Type 0} {old new : Heap} (result : Result T Stop) → IsUnmoved old new → IfErr result OnlyFull →
    IfErr result (OnlyUnmoved old new)
full_stays (Ok value) same full = full
full_stays (Err stop) same full = full_unmoved stop same full
