use Rattle.std.proofs.Common.{ap, ◌∙◌}
use Rattle.std.specs.Prelude.{sum_by}
use Rattle.sdr_model.specs.Zco.{uses_in}
use Rattle.mem_store.specs.Store.{things_in}
use Rattle.mem_store.proofs.PlacesLemmas.{entries-things_at, sorted_places}
use Rattle.mem_store.proofs.charged.is_used.Goals as goal

pub loop-place-init : goal.loop-place-init
loop-place-init c =
    let places = c.args.places.now.entries in
    record {
      rest = ap (λ l. sum_by (λ e. uses_in c.args.source c.args.acct e.1) (things_in l)) (c.into_iter-place-iterator.ensures.into_iter_gives ∙ c.iter-place-items.ensures.rest)
          ∙ ap (sum_by (λ e. uses_in c.args.source c.args.acct e.1)) (entries-things_at places (sorted_places places c.iter-place-items.ensures.ordered));
    }
