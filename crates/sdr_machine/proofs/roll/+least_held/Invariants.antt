use Rattle.std.proofs.Common.{length}
use Rattle.sdr_machine.proofs.roll.+least_held.Given as goal

abbrev pub decreases-least_held : goal.decreases-least_held
decreases-least_held l = length l.daemons.now
