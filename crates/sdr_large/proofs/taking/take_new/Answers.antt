-- The block ends at `high`, and `high` becomes its begin.
use Rattle.std.proofs.Common.{arith}
use Rattle.sdr_large.proofs.NewLemmas.{new_put, new_done}
use Rattle.sdr_large.proofs.taking.take_new.Goals as goal

pub put_used-requires : goal.put_used-requires
put_used-requires g c = record {
  gap = new_put _ _ _ _ c.args.words c.in_ok-low.low c.in_ok-high.high c.requires.pools c.in_ok-low.ensures.given
      c.in_ok-low.ensures.same c.in_ok-high.ensures.given c.in_ok-high.ensures.same (omega arith)
      c.in_ok-write_number.ensures.written c.requires.some;
}

pub returns-clause-taken : goal.returns-clause-taken
returns-clause-taken g c =
    new_done _ _ _ _ _ c.args.words c.in_ok-low.low c.in_ok-high.high c.in_ok-low.ensures.given
    c.in_ok-low.ensures.same c.in_ok-high.ensures.given c.in_ok-high.ensures.same (omega arith)
    c.in_ok-write_number.ensures.written c.in_ok-put_used.ensures.put
