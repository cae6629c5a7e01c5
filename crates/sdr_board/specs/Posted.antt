-- The rule of a board: what its words are, and what is so of each writer and reader.
use Rattle.std.specs.Prelude.{◌≡◌, ℕ, ◌≤◌, true, List, [], ◌∷◌, ◌++◌, drop, length}
use lib.ListN.{get_elem?}
use mathlib.Core.List.{IsPrefix}
use mathlib.Core.Option.{some}
use Rattle.atomic_table.specs.Table.{State}
use Rattle.sdr_board.specs.Totals.{totals, words_of}
use Rattle.sdr_board.specs.declared.view.View.{View}
use Rattle.sdr_model.specs.declared.journal.Entry.{Entry}

-- the words of the totals of these entries, the first of which are written anew
abbrev pub posted : List Entry → List ℕ → List ℕ
posted log written = written ++ drop (length written) (words_of (totals log))

-- all words, where totals of so many entries are begun
abbrev pub board_words : List Entry → ℕ → List ℕ → List ℕ
board_words log begun written = length log ∷ begun ∷ posted log written

-- What a seat knows is so.
pub record Fits (log : List Entry) (begun : ℕ) (written : List ℕ) (writer seat : ℕ) (v : View) : Type 0 where
  pub seen : IsPrefix v.seen log
  pub told : IsPrefix v.told log
  pub stood : IsPrefix v.stood log
  pub front : v.front ≤ begun
  pub writes : v.writes ≡ true → (seat ≡ writer) × (v.seen ≡ log) × (v.begun ≡ begun) × (v.written ≡ written)

-- The words are those of the totals of the entries that are published; while totals of more entries are begun, some words are written anew.
pub record IsPosted {S : Type 0} (s : State S View) : Type 0 where
  pub log : List Entry
  pub begun : ℕ
  pub written : List ℕ
  pub writer : ℕ
  pub words : s.words ≡ board_words log begun written
  pub within : length log ≤ begun
  pub rest : begun ≡ length log → written ≡ []
  pub fits : (i : ℕ) (v : View) → get_elem? s.views i ≡ some v → Fits log begun written writer i v
