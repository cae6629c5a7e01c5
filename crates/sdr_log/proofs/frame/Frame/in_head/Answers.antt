use Rattle.std.proofs.Common.{refl, arith}
use Rattle.std.proofs.lemmas.Slice.{between_to_end}
use Rattle.sdr_log.specs.Frame.{first_number}
use Rattle.sdr_log.proofs.frame.Frame.in_head.Goals as goal

pub returns : goal.returns
unfolding first_number
returns c =
    rw (
      c.read_u32.ensures,
      c.read_u32-2.ensures,
      between_to_end c.args.head.now 12 64 (omega (arith, c.told-head)),
      between_to_end c.args.head.now 16 64 (omega (arith, c.told-head)),
    ) refl
