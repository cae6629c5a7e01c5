use Rattle.std.proofs.Common.{length}
use Rattle.sdr_machine.proofs.seeing.+are_stuck.Given as goal

abbrev pub decreases-are_stuck : goal.decreases-are_stuck
decreases-are_stuck g l = length l.daemons.now
