use Rattle.std.proofs.Common.{subst}
use Rattle.std.specs.FinMap as map
use Rattle.sdr_text_world.proofs.TiedLemmas.{ToldUpTo, few_here}
use Rattle.sdr_text_world.proofs.tied.Tied.of.Goals as goal

pub add-requires : goal.add-requires
add-requires c = record {
  few = few_here
      (subst (ToldUpTo (map.entries c.args.world.now.things) c.loop-addr.tied) c.in-Some.ensures.steps c.loop-addr.invariant.told)
      c.requires.few;
}
