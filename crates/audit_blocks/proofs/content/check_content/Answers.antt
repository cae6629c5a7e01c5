use Rattle.audit_blocks.proofs.ContentLemmas.{content_right, large_begin}
use Rattle.audit_blocks.proofs.content.check_content.Goals as goal

pub loop-place-init : goal.loop-place-init
loop-place-init c = large_begin c.args.heap.now c.requires.built c.in_ok-check_all_small.ensures.filled

pub returns-clause-right : goal.returns-clause-right
returns-clause-right c = content_right c.args.heap.now c.requires.built c.loop-place.place c.loop-place.invariant c.loop-place-test.false
