use Rattle.std.proofs.Common.{length}
use Rattle.sdr_core.proofs.leaving.+leave_in_turn.Given as goal

abbrev pub decreases-leave_in_turn : goal.decreases-leave_in_turn
decreases-leave_in_turn g l = length l.daemons.now
