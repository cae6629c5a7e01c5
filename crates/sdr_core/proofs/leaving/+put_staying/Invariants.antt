use Rattle.std.proofs.Common.{length}
use Rattle.sdr_core.proofs.leaving.+put_staying.Given as goal

abbrev pub decreases-put_staying : goal.decreases-put_staying
decreases-put_staying l = length l.daemons.now
