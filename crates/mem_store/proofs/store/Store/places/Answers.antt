use Rattle.std.proofs.Common.{ap, ◌∙◌}
use Rattle.std.specs.FinMap.{entries}
use Rattle.mem_store.specs.Store.{things_in}
use Rattle.mem_store.proofs.PlacesLemmas.{entries-things_at, sorted_places}
use Rattle.mem_store.proofs.store.Store.places.Goals as goal

pub returns : goal.returns
returns c =
    ap things_in c.iter.ensures.rest
    ∙ entries-things_at c.self.inside.places.entries (sorted_places c.self.inside.places.entries c.iter.ensures.ordered)
    ∙ ap (λ s. entries s.now) c.self.view_is
