use Rattle.std.proofs.Common.{◌-◌}
use Rattle.sdr_system.proofs.opening.write_zeros.Given as goal

abbrev pub decreases-loop-place : goal.decreases-loop-place
decreases-loop-place l = l.to - l.place
