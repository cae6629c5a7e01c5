-- One sync more is kept.
use Rattle.std.proofs.Common.{arith, ap, ◌∙◌}
use Rattle.sdr_disk.specs.History.{with_change}
use Rattle.sdr_disk.proofs.KeptLemmas.{Grows-sync}
use Rattle.sdr_disk.proofs.history.History.sync.Goals as goal

pub returns-clause-ok : goal.returns-clause-ok
returns-clause-ok c =
    let grows = Grows-sync c.args.outcome _ _ _ _ c.self.invariant.0 c.in_ok-keep.ensures.kept in
    grows.history ∙ ap (with_change _) c.self.view_is

pub invariant_of-self-2 : goal.invariant_of-self-2
invariant_of-self-2 c =
    let grows = Grows-sync c.args.outcome _ _ _ _ c.self.invariant.0 c.in_ok-keep.ensures.kept in
    (grows.leads, omega (arith, c.self.invariant.1, grows.more, c.in_ok-keep.ensures.rises))
