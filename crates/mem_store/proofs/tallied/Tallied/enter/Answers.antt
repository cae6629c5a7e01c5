use Rattle.std.proofs.Common.{ap, sym, ◌∙◌}
use Rattle.mem_store.specs.Tallies.{is_plain}
use Rattle.mem_store.proofs.PlainLemmas.{AreTallied-entered}
use Rattle.mem_store.proofs.tallied.Tallied.enter.Goals as goal

pub returns-then-is_plain : goal.returns-then-is_plain
returns-then-is_plain c = λ are.
    AreTallied-entered _ c.args.addr (ap is_plain (sym c.thing_at.ensures) ∙ sym c.is_plain.ensures ∙ c.if-is_plain.true)
    c.args.self.now are
