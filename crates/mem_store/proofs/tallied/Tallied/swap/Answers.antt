use Rattle.std.proofs.Common.{ap, sym, subst, ◌∙◌}
use Rattle.std.specs.Option.{option_map}
use Rattle.mem_store.specs.Store.{now_at, place_at, with_thing}
use Rattle.mem_store.specs.Tallies.{AreTallied, is_plain}
use Rattle.mem_store.proofs.PlainLemmas.{AreTallied-changed, plain-put}
use Rattle.mem_store.proofs.StoreLemmas.{thing_at, things_at-others}
use Rattle.mem_store.proofs.tallied.Tallied.swap.Goals as goal

pub returns-clause-tallied : goal.returns-clause-tallied
returns-clause-tallied c = λ are.
    c.enter.ensures (subst (λ all. AreTallied all c.leave.new.self)
    (sym (things_at-others _ _ c.args.addr (option_map (with_thing c.args.thing)) c.swap-was.ensures.now now_at))
    (c.leave.ensures are))

pub returns-then-is_plain-2-clause-tallied : goal.returns-then-is_plain-2-clause-tallied
returns-then-is_plain-2-clause-tallied c =
    AreTallied-changed _ _ c.args.addr (option_map (with_thing c.args.thing)) c.swap.ensures.now
    (plain-put c.args.thing (place_at c.args.places.now.entries c.args.addr)
    (ap is_plain (sym c.as_ref.ensures.value) ∙ sym c.is_plain.ensures ∙ c.if-is_plain.true))
    (ap is_plain (sym (thing_at now_at c.args.places.now.entries c.args.addr)) ∙ ap is_plain (sym c.thing_at.ensures) ∙ sym c.is_plain-then-is_plain.ensures ∙ c.if-is_plain-2.true)
    c.args.self.now
