-- What contracts see of a writer and of a pass.
use Rattle.std.specs.Prelude.{◌≡◌, ℕ, ◌+◌, ◌<◌, ◌≤◌, Bool, true, false, cond, List, length, nat_le}
use mathlib.Core.List.{IsPrefix}
use Rattle.atomic_table.specs.Seated.{TableId}
use Rattle.sdr_model.specs.declared.journal.Entry.{Entry}

-- A writer: of which board it is, and the entries whose totals it published last.
pub record Published : Type 0 where
  pub board : TableId
  pub entries : List Entry

-- a writer that published the totals of these entries last
abbrev pub published : TableId → List Entry → Published
published board entries = record { board = board; entries = entries }

-- A pass: of which board it is, and the entries that it has seen the totals of; how often it looked at the board, the entries whose
-- totals stood there as it last began to look, and whether the writer was writing in that look.
pub record Seen : Type 0 where
  pub board : TableId
  pub entries : List Entry
  pub looks : ℕ
  pub stood : List Entry
  pub met : Bool

-- a pass that never looked, and was told of these entries
abbrev pub told : TableId → List Entry → Seen
told board entries = record { board = board; entries = entries; looks = 0; stood = entries; met = false }

-- the longer of two lists
abbrev pub longer : List Entry → List Entry → List Entry
longer xs ys = cond (nat_le (length xs) (length ys)) ys xs

-- A look makes this of a pass: where it doesn't meet the writer, the pass has seen what stood on the board.
pub record HasLooked (old new : Seen) : Type 0 where
  pub board : new.board ≡ old.board
  pub looks : new.looks ≡ old.looks + 1
  pub stood : IsPrefix old.stood new.stood
  pub all : IsPrefix old.entries new.stood
  pub seen : new.met ≡ false → new.entries ≡ new.stood
  pub kept : new.met ≡ true → new.entries ≡ old.entries

-- A read of at most so many looks makes this of a pass: where its last look doesn't meet the writer, the pass has seen what stood on the board
-- as that look began; and where each of so many looks meets the writer, the pass has seen what it had seen before.
pub record HasRead (most : ℕ) (old new : Seen) : Type 0 where
  pub board : new.board ≡ old.board
  pub looks : old.looks < new.looks
  pub few : new.looks ≤ old.looks + most
  pub stood : IsPrefix old.stood new.stood
  pub all : IsPrefix old.entries new.stood
  pub seen : new.met ≡ false → new.entries ≡ new.stood
  pub kept : new.met ≡ true → new.entries ≡ old.entries
  pub tried : new.met ≡ true → new.looks ≡ old.looks + most
