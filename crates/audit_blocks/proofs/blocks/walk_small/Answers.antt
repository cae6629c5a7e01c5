use Rattle.std.proofs.Common.{refl}
use Rattle.audit_blocks.proofs.SmallLemmas.{small_begins}
use Rattle.audit_blocks.proofs.blocks.walk_small.Goals as goal

pub loop-place-init : goal.loop-place-init
loop-place-init c = record {
  walked = small_begins c.args.heap.now c.requires.edges.right c.requires.edges.between c.requires.none c.requires.clear;
  long = refl;
}
