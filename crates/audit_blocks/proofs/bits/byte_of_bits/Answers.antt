use Rattle.std.proofs.Common.{◌+◌, ◌-◌, ◌*◌, ◌∙◌, arith}
use Rattle.audit_blocks.proofs.BitsLemmas.{byte_of_part}
use Rattle.audit_blocks.proofs.bits.byte_of_bits.Goals as goal

pub returns : goal.returns
returns c = c.byte_of_eight.ensures ∙ byte_of_part c.args.spots.now c.args.byte (8 * c.args.byte + 8 - 8 * c.args.byte) (omega arith)
