use Rattle.std.proofs.Common.{subst, sym}
use Rattle.sdr_machine.specs.Legal.{IsLegal}
use Rattle.sdr_core.proofs.RunLemmas.{keeps_legal}
use Rattle.sdr_core.specs.Logging.{log_of}
use Rattle.sdr_core.proofs.core_run.Core.journal.Goals as goal

pub returns-clause-legal : goal.returns-clause-legal
returns-clause-legal g c =
    let b = g.J.Origin.begins in
    subst (IsLegal b.told b.daemons b.first) (sym c.journal.ensures)
    (keeps_legal g.T.HasGround b (record { lock = c.self.inside.lock; log = log_of c.self.inside.keeper }) c.self.invariant.run)
