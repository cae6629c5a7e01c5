use Rattle.std.proofs.Common.{ap, arith, length}
use Rattle.sdr_model.proofs.TableLemmas.{row-within}
use Rattle.sdr_model.proofs.table.SdrTable.row.Goals as goal

pub overflow_mul-place : goal.overflow_mul-place
overflow_mul-place c =
    omega (
      arith,
      row-within c.self.inside.rows c.self.inside.size c.args.row (length c.self.inside.bytes)
          (omega (arith, c.requires.inside, ap (λ t. t.rows) c.self.view_is)) c.self.invariant.0,
      c.self.invariant.1,
    )
