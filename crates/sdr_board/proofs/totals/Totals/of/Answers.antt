use Rattle.std.proofs.Common.{[], refl}
use Rattle.sdr_board.proofs.totals.Totals.of.Goals as goal

pub returns : goal.returns
returns c = c.with_all.ensures [] refl
