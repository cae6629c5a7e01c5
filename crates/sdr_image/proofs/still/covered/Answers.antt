use Rattle.std.proofs.Common.{arith}
use Rattle.sdr_image.proofs.StillLemmas.{length-lines_covered}
use Rattle.sdr_image.proofs.still.covered.Goals as goal

pub returns : goal.returns
returns c = omega (arith, c.div_ceil.ensures, length-lines_covered c.args.place c.args.count c.requires.some)
