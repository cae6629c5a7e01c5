use Rattle.std.proofs.Common.{◌∙◌, sym, ap, arith}
use Rattle.sdr_board.proofs.ReaderSteps.{joins, compares}
use Rattle.sdr_board.proofs.board.Board.join.Goals as goal

pub join_seat-requires : goal.join_seat-requires
join_seat-requires c =
    let mine = c.mine.inside.place in
    let other = c.other.inside.place in (
      ap (λ p. p.board) c.mine.view_is ∙ c.requires.board.0 ∙ sym c.self.view_is,
      ap (λ p. p.board) c.other.view_is ∙ c.requires.board.1 ∙ sym c.self.view_is,
      c.other.invariant.1,
      omega (arith, c.self.invariant),
      joins mine.id mine.me.0 other.id other.me.0,
    )

pub load-requires : goal.load-requires
load-requires c =
    let seat = c.join_seat.new.seat in (
      c.join_seat.ensures.0 ∙ ap (λ p. p.board) c.mine.view_is ∙ c.requires.board.0 ∙ sym c.self.view_is,
      omega (arith, c.self.invariant),
      compares c.self.inside.table.shared.table_id.slots seat.id seat.me.0 seat.me.1 (ap (λ m. m.0.writes) c.join_seat.ensures.2 ∙ c.mine.invariant.0),
    )
