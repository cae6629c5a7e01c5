use Rattle.sdr_core.proofs.LeavingLemmas.{leaves_none, unasked}
use Rattle.sdr_core.proofs.leaving.make_leave.Goals as goal

pub returns-clause-asks : goal.returns-clause-asks
returns-clause-asks g c = unasked g.R.HasRun c.args.leave c.in-Ok.came c.args.run.now c.event.new.self c.args.daemon c.in-Ok.ensures.makes c.roll.ensures.come

pub returns-clause-none : goal.returns-clause-none
returns-clause-none g c = leaves_none g.R.HasRun c.args.leave c.in-Ok.came c.args.run.now c.event.new.self c.args.daemon c.in-Ok.ensures.makes c.roll.ensures.come
