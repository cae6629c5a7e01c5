use Rattle.std.proofs.Common.{refl}
use Rattle.sdr_daemon.proofs.TurnLemmas.{departs}
use Rattle.sdr_daemon.proofs.turn.depart.Goals as goal

pub returns-clause-ends : goal.returns-clause-ends
returns-clause-ends g c x t =
    departs g.T.HasGround g.J.Origin.begins g.S.Scripted.script x c.args.core.now c.args.progress.now t c.make_leave.new.core _ c.args.leave c.make_leave.result c.requires.may c.requires.due c.requires.comes c.make_leave.ensures refl
