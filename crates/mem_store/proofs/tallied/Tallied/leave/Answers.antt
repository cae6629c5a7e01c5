use Rattle.std.proofs.Common.{ap, rules, sym, ◌∙◌}
use Rattle.mem_store.specs.Tallies.{is_plain}
use Rattle.mem_store.proofs.PlainLemmas.{AreTallied-left}
use Rattle.mem_store.proofs.RawsLemmas.{noted-left}
use Rattle.mem_store.proofs.tallied.Tallied.leave.Goals as goal

pub returns : goal.returns
returns c = λ are. record {
  inbound = search rules;
  outbound = search rules;
  raws = noted-left _ c.args.addr c.args.self.now.raws are.raws;
}

pub returns-then-is_plain : goal.returns-then-is_plain
returns-then-is_plain c = λ are.
    AreTallied-left _ c.args.addr (ap is_plain (sym c.thing_at.ensures) ∙ sym c.is_plain.ensures ∙ c.if-is_plain.true)
    c.args.self.now are
