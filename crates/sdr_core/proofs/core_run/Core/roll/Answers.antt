use Rattle.std.proofs.Common.{◌≡◌, not, subst}
use Rattle.std.specs.Prelude.{is_some}
use Rattle.sdr_machine.specs.Crash.{is_sound}
use Rattle.sdr_core.proofs.CoreLemmas.{core_stands}
use Rattle.sdr_core.proofs.FailedLemmas.{roll_unsound}
use Rattle.sdr_core.specs.CoreKept.{LoggedLock, HasState, KeepsRun}
use Rattle.sdr_core.specs.Logging.{log_of}
use Rattle.sdr_core.proofs.core_run.Core.roll.Goals as goal

pub returns-clause-stands : goal.returns-clause-stands
returns-clause-stands g c =
    subst (λ (k : LoggedLock g.row.T.Denot). HasState g.T.HasGround.stands k.lock) c.self.view_is
    (core_stands g.T.HasGround g.J.Origin.begins c.self.inside.lock c.self.inside.keeper c.self.invariant)

pub returns-clause-run : goal.returns-clause-run
returns-clause-run g c =
    subst (λ (k : LoggedLock g.row.T.Denot). KeepsRun g.T.HasGround g.J.Origin.begins k) c.self.view_is c.self.invariant.run

pub returns-clause-failed : goal.returns-clause-failed
returns-clause-failed g c =
    subst (λ (k : LoggedLock g.row.T.Denot). is_some k.lock.roll.failed ≡ not (is_sound k.log.journal)) c.self.view_is
    (roll_unsound g.T.HasGround g.J.Origin.begins (record { lock = c.self.inside.lock; log = log_of c.self.inside.keeper }) c.self.invariant.safe)
