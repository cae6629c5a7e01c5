use Rattle.std.proofs.Common.{ap, sym, ◌∙◌}
use Rattle.sdr_model.proofs.MapLemmas.{get-entries_of}
use Rattle.sdr_model.specs.World.{World, thing_at}
use Rattle.sdr_model.proofs.world.World.thing.Goals as goal

pub returns : goal.returns
returns c = c.get.ensures.value ∙ sym (get-entries_of _ _) ∙ ap (λ (w : World). thing_at w c.args.addr) c.self.view_is
