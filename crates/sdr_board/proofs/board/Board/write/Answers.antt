use Rattle.std.proofs.Common.{◌≡◌, ◌∙◌, ◌+◌, sym, ap, subst, arith, take, length}
use Rattle.std.proofs.lemmas.List.{length-take-le}
use Rattle.std.specs.Prelude.{⊤, slice_index}
use Rattle.atomic_table.specs.Table.{Allows, Me}
use Rattle.sdr_board.specs.Plays.{Writing}
use Rattle.sdr_board.specs.Posted.{IsPosted}
use Rattle.sdr_board.specs.declared.view.View.{View}
use Rattle.sdr_board.proofs.WriterSteps.{writes_word}
use Rattle.sdr_board.proofs.board.Board.write.Goals as goal

abbrev Mine : Type 0
Mine = Me ⊤ View

pub store-requires : goal.store-requires
store-requires c =
    let seat = c.loop-i.place in
    let place = c.args.place.now in
    let i = c.loop-i.i in
    let slots = c.self.inside.table.shared.table_id.slots in
    let words = c.words-words.result in
    let x = slice_index words i in
    let nine : length words ≡ 9 = ap length c.words-words.ensures in
    let long : length (take i words) ≡ i = length-take-le i words (omega (arith, nine, c.loop-i-test.true)) in (
      c.loop-i.invariant.0 ∙ c.requires.board ∙ sym c.self.view_is,
      omega (arith, c.self.invariant, c.loop-i-test.true),
      subst (λ (m : Mine). Allows (IsPosted {S = ⊤}) slots seat.id m (2 + i) (λ _. x) (λ _. Writing m x)) (sym c.loop-i.invariant.1)
          (writes_word slots seat.id (2 + i) x place.me.0.begun place.me.0.seen (take i words) place.me.1 (omega (arith, long, c.loop-i-test.true)) c.requires.more (omega (arith, long))),
    )
