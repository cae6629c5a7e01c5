use Rattle.std.proofs.Common.{refl}
use Rattle.sdr_log.specs.Frame.{head_of, four}
use Rattle.sdr_log.proofs.frame.Frame.head.Goals as goal

pub returns : goal.returns
unfolding head_of four
returns c = rw (c.write_u32-3.ensures, c.write_u32-2.ensures, c.write_u32.ensures, c.copy_from_slice.ensures.after)
    refl
