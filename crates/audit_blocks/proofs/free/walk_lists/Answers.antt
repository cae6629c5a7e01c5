use Rattle.audit_blocks.proofs.StruckLemmas.{left_begin}
use Rattle.audit_blocks.proofs.free.walk_lists.Goals as goal

pub loop-word-init : goal.loop-word-init
loop-word-init c = left_begin c.args.heap.now c.args.spots.now c.requires.surveyed.long c.requires.surveyed.found
