use Rattle.std.proofs.Common.{sym, ◌∙◌}
use Rattle.sdr_text_world.proofs.TiedLemmas.{told_again, told_first, told_outside}
use Rattle.sdr_text_world.proofs.tied.Tied.add_source.Goals as goal

pub returns-in_ok-insert : goal.returns-in_ok-insert
returns-in_ok-insert c = record {
  told = λ things told.
      told_first things c.args.addr c.args.source.now c.args.self.now told c.in-Some.raw c.insert.new.self
      (sym c.raw.ensures ∙ c.in-Some.is) (sym c.contains_key.ensures ∙ c.if-not-contains_key.true) c.in_ok-insert.ensures.updates.0;
}

pub returns-else-not-contains_key : goal.returns-else-not-contains_key
returns-else-not-contains_key c = record {
  told = λ things told.
      told_again things c.args.addr c.args.source.now c.args.self.now told c.in-Some.raw (sym c.raw.ensures ∙ c.in-Some.is)
      (sym c.contains_key.ensures ∙ c.if-not-contains_key.false);
}

pub returns-in_default : goal.returns-in_default
returns-in_default c = record {
  told = λ things told. told_outside things c.args.addr c.args.source.now c.args.self.now told (sym c.raw.ensures ∙ c.in_default.is);
}
