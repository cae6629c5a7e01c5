-- The totals of a journal, and of its first entries.
use Rattle.std.specs.Prelude.{◌≡◌, ℕ, ◌+◌, ◌-◌, ◌^◌, min, Bool, true, false, cond, List, [], ◌∷◌, count_by, length, sum_by, take}
use Rattle.sdr_base.specs.declared.moves.Move.TheVariants.{Took, Gave}
use Rattle.sdr_base.specs.declared.moves.Move.{Move}
use Rattle.sdr_board.specs.declared.totals.Totals.{Totals}
use Rattle.sdr_model.specs.declared.answer.Close.TheVariants as closes
use Rattle.sdr_model.specs.declared.journal.Entry.{Entry}
use Rattle.sdr_model.specs.declared.journal.Said.{Said}
use Rattle.sdr_model.specs.declared.journal.What.TheVariants as whats
use Rattle.sdr_model.specs.declared.journal.What.{What}

-- whether it is a transaction that ended
abbrev pub is_ended : What → Bool
is_ended (whats.Work said closes.Ended) = true
is_ended what = false

-- whether it is a transaction that was cancelled
abbrev pub is_cancelled : What → Bool
is_cancelled (whats.Work said (closes.Cancelled reason)) = true
is_cancelled what = false

-- whether it is a transaction that was left by an exit
abbrev pub is_exited : What → Bool
is_exited (whats.Work said closes.Exited) = true
is_exited what = false

-- whether the disk failed in it
abbrev pub is_faulted : What → Bool
is_faulted (whats.Work said closes.Faulted) = true
is_faulted what = false

-- whether it is a look at a ticket: one that waited, was granted, or could not be served any more
abbrev pub is_look : What → Bool
is_look (whats.Waits ticket) = true
is_look (whats.Awarded ticket) = true
is_look (whats.Stalled ticket) = true
is_look what = false

-- whether a daemon left by it
abbrev pub is_left : What → Bool
is_left (whats.Leaves leave) = true
is_left what = false

-- whether a block was taken by the move
abbrev pub is_taking : Move → Bool
is_taking (Took need addr) = true
is_taking move = false

-- whether a block was given back by the move
abbrev pub is_giving : Move → Bool
is_giving (Gave addr) = true
is_giving move = false

-- how many moves of such a kind there are in what is said
abbrev pub moves_said : (Move → Bool) → List Said → ℕ
moves_said kind said = sum_by (λ s. count_by kind s.moves) said

-- how many moves of such a kind an ended transaction made; there are none in anything else
abbrev pub moves_in : (Move → Bool) → What → ℕ
moves_in kind (whats.Work said closes.Ended) = moves_said kind said
moves_in kind what = 0

-- the lock number of the last entry, or 0
abbrev pub last_number : List Entry → ℕ
last_number [] = 0
last_number (e ∷ []) = e.number
last_number (e ∷ next ∷ entries) = last_number (next ∷ entries)

-- the number, or the largest that a word holds
abbrev pub capped : ℕ → ℕ
capped n = min n (2 ^ 64 - 1)

-- the totals of the entries
abbrev pub totals : List Entry → Totals
totals entries = record {
  entries = length entries;
  number = last_number entries;
  ended = count_by (λ e. is_ended e.what) entries;
  cancelled = count_by (λ e. is_cancelled e.what) entries;
  exited = count_by (λ e. is_exited e.what) entries;
  faulted = count_by (λ e. is_faulted e.what) entries;
  looks = count_by (λ e. is_look e.what) entries;
  left = count_by (λ e. is_left e.what) entries;
  taken = capped (sum_by (λ e. moves_in is_taking e.what) entries);
  given = capped (sum_by (λ e. moves_in is_giving e.what) entries);
}

-- the totals of the first so many entries of a journal
abbrev pub totals_of_first : ℕ → List Entry → Totals
totals_of_first k journal = totals (take k journal)

-- the entries are those of each outcome, the looks and the leaves
abbrev pub AddsUp : Totals → Type 0
AddsUp t = t.entries ≡ t.ended + t.cancelled + t.exited + t.faulted + t.looks + t.left

-- these totals with one entry more
abbrev pub with_entry : Totals → Entry → Totals
with_entry t e = record {
  entries = t.entries + 1;
  number = e.number;
  ended = t.ended + cond (is_ended e.what) 1 0;
  cancelled = t.cancelled + cond (is_cancelled e.what) 1 0;
  exited = t.exited + cond (is_exited e.what) 1 0;
  faulted = t.faulted + cond (is_faulted e.what) 1 0;
  looks = t.looks + cond (is_look e.what) 1 0;
  left = t.left + cond (is_left e.what) 1 0;
  taken = capped (t.taken + moves_in is_taking e.what);
  given = capped (t.given + moves_in is_giving e.what);
}

-- these totals with so many blocks more taken and given back
abbrev pub with_moves : Totals → ℕ → ℕ → Totals
with_moves t taken given = record t { taken = capped (t.taken + taken); given = capped (t.given + given) }

-- the totals but the first, in order
abbrev pub words_of : Totals → List ℕ
words_of t =
    t.number ∷ t.ended ∷ t.cancelled ∷ t.exited ∷ t.faulted ∷ t.looks ∷ t.left ∷ t.taken ∷ t.given ∷ []
