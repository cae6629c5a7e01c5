use Rattle.sdr_machine.specs.Holders.{holders}
use Rattle.sdr_core.proofs.leaving.+holders_leave.Given as goal

abbrev pub decreases-holders_leave : goal.decreases-holders_leave
decreases-holders_leave g l = holders (g.R.HasRun.roll_of l.run.now).daemons
