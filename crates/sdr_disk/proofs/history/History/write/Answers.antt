-- One write more is kept.
use Rattle.std.proofs.Common.{arith, ap, ◌∙◌}
use Rattle.sdr_disk.specs.History.{with_change}
use Rattle.sdr_disk.proofs.KeptLemmas.{Grows-write}
use Rattle.sdr_disk.proofs.history.History.write.Goals as goal

pub returns-clause-ok : goal.returns-clause-ok
returns-clause-ok c =
    let grows =
    Grows-write c.args.outcome c.args.place c.args.from.now _ _ _ _ _ _ c.self.invariant.0 (grind arith)
    c.in_ok-written.ensures (grind arith) c.in_ok-keep.ensures.kept c.write_over.ensures in
    grows.history ∙ ap (with_change _) c.self.view_is

pub invariant_of-self-2 : goal.invariant_of-self-2
invariant_of-self-2 c =
    let grows =
    Grows-write c.args.outcome c.args.place c.args.from.now _ _ _ _ _ _ c.self.invariant.0 (grind arith)
    c.in_ok-written.ensures (grind arith) c.in_ok-keep.ensures.kept c.write_over.ensures in
    (grows.leads, omega (arith, c.self.invariant.1, grows.more, c.in_ok-keep.ensures.rises))
