use Rattle.sdr_text_world.proofs.TiedLemmas.{told_other}
use Rattle.sdr_text_world.proofs.tied.Tied.add.Goals as goal

pub returns-in_default : goal.returns-in_default
returns-in_default c = record {
  told = λ things. told_other things c.args.addr c.args.thing.now c.args.self.now c.in_default.not-Source c.in_default.not-Object;
}
