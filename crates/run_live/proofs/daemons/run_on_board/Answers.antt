use Rattle.std.proofs.Common.{◌∙◌, ap}
use Rattle.sdr_board.specs.Totals.{totals}
use Rattle.run_live.proofs.daemons.run_on_board.Goals as goal

pub returns : goal.returns
returns g c =
    let e = c.run_all-ran.ensures in
    record {
      keeps = e.keeps;
      run = e.run;
      ended = e.ended;
      failed = e.failed;
      wanting = e.starved;
      totals_are = c.read_totals-totals.ensures ∙ ap totals c.as_slice.ensures;
    }
