use Rattle.std.proofs.Common.{◌≡◌, ◌∙◌, ◌+◌, ℕ, List, [], ap, arith, length, refl, sym}
use Rattle.std.proofs.lemmas.List.{length-set, take_all}
use Rattle.std.specs.Prelude.{⊤, slice_index}
use Rattle.atomic_table.specs.Table.{Me}
use Rattle.sdr_board.specs.Posted.{board_words}
use Rattle.sdr_board.specs.Totals.{totals, words_of}
use Rattle.sdr_board.specs.Views.{with_front}
use Rattle.sdr_board.specs.declared.view.View.{View}
use Rattle.sdr_board.proofs.ReaderSteps.{next_read, peeks}
use Rattle.sdr_board.proofs.board.Board.peek.Goals as goal
use Rattle.sdr_model.specs.declared.journal.Entry.{Entry}

abbrev Mine : Type 0
Mine = Me ⊤ View

pub load-requires : goal.load-requires
load-requires c =
    let seat = c.loop-i.place in (
      c.loop-i.invariant.0 ∙ c.requires.board ∙ sym c.self.view_is,
      omega (arith, c.self.invariant, c.loop-i-test.true),
      peeks c.self.inside.table.shared.table_id.slots seat.id _ seat.me.0 seat.me.1,
    )

pub loop-i-preserved : goal.loop-i-preserved
loop-i-preserved c =
    let place = c.args.place.now in
    let i = c.loop-i.i in
    let so_far = c.loop-i.invariant in
    let told = c.load.ensures.2 in
    let front : c.load.new.seat.me.0.front ≡ told.0 = ap (λ (m : Mine). m.0.front) told.1 in
    let stood : c.loop-i.place.me.0.stood ≡ place.me.0.stood = ap (λ (m : Mine). m.0.stood) so_far.1 in
    let long : length c.loop-i.words ≡ 9 = so_far.4 in (
      c.load.ensures.0 ∙ so_far.0,
      told.1 ∙ ap (λ (m : Mine). (with_front m.0 told.0, m.1)) so_far.1 ∙ ap (λ (n : ℕ). (with_front place.me.0 n, place.me.1)) (sym front),
      omega (arith, front, so_far.2, told.2),
      λ still. next_read place.me.0.stood c.loop-i.words i c.load.result (omega (arith, long, c.loop-i-test.true)) c.loop-i-test.true
          (so_far.3 (omega (arith, front, told.2, still)))
          (told.3 (omega (arith, front, still, ap (λ (l : List Entry). length l) stood)) ∙ ap (λ (l : List Entry). slice_index (board_words l (length l) []) (2 + i)) stood),
      length-set c.loop-i.words i c.load.result ∙ long,
    )

pub returns-clause-words : goal.returns-clause-words
returns-clause-words c = λ still.
    let i = c.loop-i.i in
    let all = words_of (totals c.args.place.now.me.0.stood) in
    let so_far = c.loop-i.invariant in
    let nine : length all ≡ 9 = refl in
    sym (take_all i c.loop-i.words (omega (arith, so_far.4, c.loop-i-test.false))) ∙ so_far.3 still ∙ take_all i all (omega (arith, nine, c.loop-i-test.false))
