use Rattle.std.proofs.Common.{◌∙◌, sym, ap, arith}
use Rattle.sdr_board.proofs.ReaderSteps.{splits}
use Rattle.sdr_board.proofs.board.Board.split.Goals as goal

pub split_seat-place-requires : goal.split_seat-place-requires
split_seat-place-requires c = (
  ap (λ w. w.board) c.writer.view_is ∙ c.requires.board ∙ sym c.self.view_is,
  omega (arith, c.self.invariant),
  splits c.writer.inside.place.id c.writer.inside.place.me.0,
)
