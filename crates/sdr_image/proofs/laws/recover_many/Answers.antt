use Rattle.std.proofs.Common.{refl}
use Rattle.sdr_log.proofs.StoppedLemmas.{left_many}
use Rattle.sdr_image.proofs.laws.recover_many.Goals as goal

pub returns : goal.returns
returns c i js left = left_many i i js refl left
