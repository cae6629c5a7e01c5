use Rattle.sdr_base.specs.declared.kind.Space.TheVariants as spaces
use Rattle.sdr_text_world.proofs.ChargeLemmas.{few_named}
use Rattle.sdr_text_world.proofs.world.write_world.Goals as goal

pub of-requires : goal.of-requires
of-requires g c = record {
  few = λ source acct. few_named c.args.world.now source acct (c.requires.small.occupied acct spaces.Heap);
}
