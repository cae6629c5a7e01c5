use Rattle.std.proofs.Common.{◌≡◌, sym, subst}
use Rattle.std.specs.Option.{option_and_then}
use Rattle.mem_store.specs.Store.{now_at, place_at, settled}
use Rattle.mem_store.specs.Tallies.{AreTallied}
use Rattle.mem_store.specs.declared.place.Stays.TheVariants as stays
use Rattle.mem_store.proofs.StoreLemmas.{same_staying, things_at-kept}
use Rattle.mem_store.proofs.tallied.Tallied.settle.Goals as goal

pub returns-in-Now-clause-tallied : goal.returns-in-Now-clause-tallied
returns-in-Now-clause-tallied c = λ are.
    let there = place_at c.args.places.now.entries c.args.addr in
    subst (λ all. AreTallied all c.args.self.now)
    (sym (things_at-kept _ _ c.args.addr (option_and_then (settled c.args.stays)) c.settle.ensures now_at
    (subst (λ s. option_and_then now_at (option_and_then (settled s) there) ≡ option_and_then now_at there) (sym c.in-Now.is) (same_staying stays.Now there))))
    are
