use Rattle.std.proofs.Common.{ap, sym, subst, ◌∙◌}
use Rattle.std.specs.Option.{option_and_then}
use Rattle.mem_store.specs.Pasts.{IsPast}
use Rattle.mem_store.specs.Store.{now_at, place_at, settled}
use Rattle.mem_store.specs.Tallies.{AreTallied, is_plain}
use Rattle.mem_store.specs.declared.place.Stays.TheVariants as stays
use Rattle.mem_store.proofs.PlainLemmas.{AreTallied-changed, rolled_back}
use Rattle.mem_store.proofs.StoreLemmas.{things_at-others}
use Rattle.mem_store.proofs.tallied.Tallied.roll_back.Goals as goal

pub returns-in-New-clause-tallied : goal.returns-in-New-clause-tallied
returns-in-New-clause-tallied c =
    let o = place_at c.args.places.now.entries c.args.addr in
    let past = subst (λ p. IsPast p o) c.in-New.is c.past_at.ensures in
    AreTallied-changed _ _ c.args.addr (option_and_then (settled stays.Begun)) c.take_away.ensures
    (ap is_plain (rolled_back o ∙ past.begun)) past.now c.args.self.now

pub returns-in-Plain-clause-tallied : goal.returns-in-Plain-clause-tallied
returns-in-Plain-clause-tallied c =
    let o = place_at c.args.places.now.entries c.args.addr in
    let past = subst (λ p. IsPast p o) c.in-Plain.is c.past_at.ensures in
    AreTallied-changed _ _ c.args.addr (option_and_then (settled stays.Begun)) c.settle.ensures
    (ap is_plain (rolled_back o) ∙ past.begun) past.now c.args.self.now

pub returns-in-Other-clause-tallied : goal.returns-in-Other-clause-tallied
returns-in-Other-clause-tallied c = λ are.
    c.enter.ensures (subst (λ all. AreTallied all c.leave.new.self)
    (sym (things_at-others _ _ c.args.addr (option_and_then (settled stays.Begun)) c.settle-in-Other.ensures now_at))
    (c.leave.ensures are))
