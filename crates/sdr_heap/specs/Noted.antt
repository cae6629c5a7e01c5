-- What a heap has beside the bytes of its cells: marks and moves.
use Rattle.std.specs.Prelude.{◌≡◌, ◌≤◌, ◌<◌, ◌==◌, ◌+◌, ◌-◌, ◌/◌, ◌%◌, ◌&&◌, ℕ, Bool, false, true}
use Rattle.std.specs.Prelude.{List, length, take, get_or}
use Rattle.std.specs.List.{All, Contains}
use Rattle.sdr_base.specs.declared.line.TheConstants.{WORD}
use Rattle.sdr_base.specs.declared.moves.Move.{Move}

-- whether an address is marked, where there is a mark for each word
abbrev pub marked_in : List Bool → ℕ → Bool
marked_in marks addr = addr % WORD == 0 && get_or marks (addr / WORD) false

-- a list names words that there are, and each marked one as long as it has room for another; there is memory for as many
-- as it has room for
pub record ListsMarked (marks : List Bool) (listed : List ℕ) (room capacity : ℕ) : Type 0 where
  pub reserved : room ≤ capacity
  pub inside : All (λ word. word < length marks) listed
  pub named : length listed < room → (word : ℕ) → get_or marks word false ≡ true → Contains listed word

-- the moves in the first so many places
abbrev pub moves_in : List Move → ℕ → List Move
moves_in places used = take used places

-- for how many more there is room
abbrev pub spare_in : List Move → ℕ → ℕ
spare_in places used = length places - used

-- a heap: its cells, the bytes of the region as it was made, a mark for each word, the moves, and for how many more
-- there is room
pub record Held (C : Type 0) : Type 0 where
  pub cells : C
  pub size : ℕ
  pub marks : List Bool
  pub moves : List Move
  pub spare : ℕ

-- there is a mark for each word, and room for the moves of a call
pub record FitsRegion (size : ℕ) (marks : List Bool) (places : ℕ) : Type 0 where
  pub words : length marks ≡ size / WORD
  pub room : size / 4 + 4 ≤ places
