use Rattle.std.proofs.Common.{rules, sym, subst, ◌∙◌, refl}
use Rattle.std.specs.Option.{option_and_then, option_map}
use Rattle.mem_store.specs.Store.{growing, now_at, place_at, things_at}
use Rattle.mem_store.specs.Tallies.{AreTallied}
use Rattle.mem_store.proofs.GrowthLemmas.{grown_here, noted-kept, object_there}
use Rattle.mem_store.proofs.StoreLemmas.{thing_at, thing_at-here, things_at-kept, things_at-others}
use Rattle.sdr_base.specs.declared.account.Acct.TheVariants as accts
use Rattle.mem_store.proofs.tallied.Tallied.grow.Goals as goal

pub returns-in_err-grow-clause-tallied : goal.returns-in_err-grow-clause-tallied
returns-in_err-grow-clause-tallied c = λ are.
    subst (λ all. AreTallied all c.args.self.now)
    (sym (things_at-kept _ _ c.args.addr (λ o. o) c.in_err-grow.ensures.same now_at refl)) are

pub returns-clause-tallied : goal.returns-clause-tallied
returns-clause-tallied c = λ are.
    let places = c.args.places.now.entries in
    let addr = c.args.addr in
    let there = object_there (option_and_then now_at (place_at places addr)) c.requires.there in
    let f = option_map (growing c.args.component) in
    let rest = sym (things_at-others places c.grow.new.places.entries addr f c.in_ok-grow.ensures.grown now_at) in
    let was = thing_at now_at places addr ∙ there.1 in
    let is = thing_at-here places c.grow.new.places.entries addr f c.in_ok-grow.ensures.grown now_at
    ∙ grown_here c.args.component there.0 (place_at places addr) there.1 in
    record {
      inbound = c.grown.ensures (things_at now_at places) there.0 c.args.component rest was is c.growth_by-growth.ensures (search rules);
      outbound = c.grown-2.ensures (things_at now_at places) there.0 c.args.component rest was is c.growth_by-growth.ensures (search rules);
      raws = noted-kept accts.Inbound (things_at now_at places) _ addr there.0 c.args.component rest was is c.args.self.now.raws are.raws;
    }
