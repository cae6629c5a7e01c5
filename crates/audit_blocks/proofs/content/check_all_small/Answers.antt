use Rattle.audit_blocks.proofs.ContentLemmas.{none_filled}
use Rattle.audit_blocks.proofs.content.check_all_small.Goals as goal

pub loop-place-init : goal.loop-place-init
loop-place-init c = none_filled c.args.heap.now c.requires.built
