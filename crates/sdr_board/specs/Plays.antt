-- What each step tells: who steps before it, the number found in the word (or written there), and who steps after it.
use Rattle.std.specs.Prelude.{◌≡◌, ℕ, ◌≤◌, ◌==◌, List, [], ◌∷◌, ◌++◌, length, slice_index, MatchBool}
use mathlib.Core.List.{IsPrefix}
use Rattle.atomic_table.specs.Table.{Me}
use Rattle.sdr_board.specs.Known.{longer}
use Rattle.sdr_board.specs.Posted.{board_words}
use Rattle.sdr_board.specs.Views.{writer_view, writing_view, with_look, with_front, with_seen, with_met, with_longer}
use Rattle.sdr_board.specs.declared.view.View.{View}
use Rattle.sdr_model.specs.declared.journal.Entry.{Entry}

module _ {S : Type 0} where
  -- a reader looks how many entries' totals stand on the board: what it has seen or looked at stands there
  abbrev pub Looking : Me S View → ℕ → Me S View → Type 0
  Looking me found after =
      (log : List Entry) × (front : ℕ)
      × (after ≡ (with_look me.0 log front, me.1))
      × IsPrefix me.0.seen log
      × IsPrefix me.0.stood log
      × (found ≡ length log)

  -- a reader reads the word of this place, which is as it was at its look where no more totals are begun
  abbrev pub Peeking : ℕ → Me S View → ℕ → Me S View → Type 0
  Peeking place me found after =
      (front : ℕ)
      × (after ≡ (with_front me.0 front, me.1))
      × (me.0.front ≤ front)
      × (front ≤ length me.0.stood → found ≡ slice_index (board_words me.0.stood (length me.0.stood) []) place)

  -- a reader looks of how many entries totals are begun: where these are those of its look it has seen their totals, and else it has met the writer
  abbrev pub Checking : Me S View → ℕ → Me S View → Type 0
  Checking me found after =
      (me.0.front ≤ found) × MatchBool (found == length me.0.stood) (after ≡ (with_seen me.0, me.1)) (after ≡ (with_met me.0, me.1))

  -- a reader has seen the longer of what it had seen and was told, and each of both begins it
  abbrev pub Comparing : Me S View → ℕ → Me S View → Type 0
  Comparing me found after =
      (after ≡ (with_longer me.0, me.1))
      × IsPrefix me.0.seen (longer me.0.seen me.0.told)
      × IsPrefix me.0.told (longer me.0.seen me.0.told)

  -- the writer begins totals of so many entries
  abbrev pub Beginning : Me S View → ℕ → Me S View → Type 0
  Beginning me new after = after ≡ (writing_view me.0.seen new [], me.1)

  -- the writer writes one word more
  abbrev pub Writing : Me S View → ℕ → Me S View → Type 0
  Writing me new after = after ≡ (writing_view me.0.seen me.0.begun (me.0.written ++ new ∷ []), me.1)

  -- the writer has published this journal
  abbrev pub Ending : List Entry → Me S View → ℕ → Me S View → Type 0
  Ending journal me found after = after ≡ (writer_view journal, me.1)
