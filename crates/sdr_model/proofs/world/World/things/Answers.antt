use Rattle.std.proofs.Common.{ap, sym, ◌∙◌}
use Rattle.std.specs.FinMap.{entries}
use Rattle.sdr_model.proofs.EntryLemmas.{entries-from_entries}
use Rattle.sdr_model.specs.World.{World}
use Rattle.sdr_model.proofs.world.World.things.Goals as goal

pub returns : goal.returns
returns c =
    c.iter.ensures.rest ∙ sym (entries-from_entries _ c.iter.ensures.ordered) ∙ ap (λ (w : World). entries w.things) c.self.view_is
