use Rattle.std.proofs.Common.{ap, ◌∙◌}
use Rattle.std.specs.FinMap.{insert}
use Rattle.sdr_model.proofs.MapLemmas.{inserted}
use Rattle.mem_store.proofs.owners.Owners.insert.Goals as goal

pub returns-clause-ok : goal.returns-clause-ok
returns-clause-ok c =
    inserted _ _ _ _ c.in_ok-insert.ensures.updates.0 ∙ ap (λ m. insert m c.args.block c.args.owner) c.self.view_is
