use Rattle.std.proofs.Common.{ap, sym, ◌∙◌}
use Rattle.std.specs.FinMap.{get}
use Rattle.sdr_model.proofs.MapLemmas.{get-entries_of}
use Rattle.mem_store.proofs.owners.Owners.get.Goals as goal

pub returns : goal.returns
returns c =
    c.copied.ensures ∙ c.get.ensures.value ∙ sym (get-entries_of _ _) ∙ ap (λ m. get m c.args.block) c.self.view_is
