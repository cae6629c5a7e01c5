use Rattle.std.proofs.Common.{◌≡◌, None, subst, true}
use Rattle.sdr_core.proofs.EndingLemmas.{stands_ended}
use Rattle.sdr_core.proofs.SafeLemmas.{run_ends}
use Rattle.sdr_core.specs.CoreKept.{KeepsRun, LoggedLock}
use Rattle.sdr_core.specs.Ended.{StandsEnded}
use Rattle.sdr_core.specs.Logging.{log_of}
use Rattle.sdr_machine.specs.Holders.{hold_none}
use Rattle.sdr_core.proofs.core_run.Core.finish.Goals as goal

pub returns-clause-run : goal.returns-clause-run
returns-clause-run g c =
    run_ends g.T.HasGround g.J.Origin.begins (record { lock = c.self.inside.lock; log = log_of c.self.inside.keeper }) c.into_journal.result c.into_base.result
    c.into_journal.ensures c.into_base.ensures c.self.invariant.run c.self.invariant.safe

pub returns-clause-ran : goal.returns-clause-ran
returns-clause-ran g c =
    subst (λ (k : LoggedLock g.row.T.Denot). KeepsRun g.T.HasGround g.J.Origin.begins k) c.self.view_is c.self.invariant.run

pub returns-clause-ended : goal.returns-clause-ended
returns-clause-ended g c =
    let b = g.J.Origin.begins in
    let k : LoggedLock g.row.T.Denot = record { lock = c.self.inside.lock; log = log_of c.self.inside.keeper } in
    subst (λ (x : LoggedLock g.row.T.Denot). (x.lock.roll.failed ≡ None → hold_none x.lock.roll.daemons ≡ true)
    → StandsEnded g.T.HasGround b c.into_journal.result c.into_base.result) c.self.view_is
    (stands_ended g.T.HasGround b k c.into_journal.result c.into_base.result c.into_journal.ensures c.into_base.ensures c.self.invariant.run c.self.invariant.safe)
