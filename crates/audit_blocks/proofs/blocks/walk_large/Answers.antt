use Rattle.std.proofs.Common.{refl}
use Rattle.audit_blocks.proofs.LargeLemmas.{large_begins}
use Rattle.audit_blocks.proofs.blocks.walk_large.Goals as goal

pub loop-place-init : goal.loop-place-init
loop-place-init c = record {
  walked = large_begins c.args.heap.now c.requires.edges.right c.requires.edges.between c.requires.walked;
  long = refl;
}
