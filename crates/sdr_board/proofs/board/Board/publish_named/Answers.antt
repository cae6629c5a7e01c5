use Rattle.std.proofs.Common.{sym, subst}
use Rattle.sdr_board.specs.Totals.{AddsUp}
use Rattle.sdr_board.proofs.TotalsLemmas.{adds_up}
use Rattle.sdr_board.proofs.board.Board.publish_named.Goals as goal

pub with_all-last-requires-clause-adds : goal.with_all-last-requires-clause-adds
with_all-last-requires-clause-adds g c = subst AddsUp (sym c.writer.invariant.1) (adds_up c.writer.inside.place.me.0.seen)
