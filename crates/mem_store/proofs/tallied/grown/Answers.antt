use Rattle.std.proofs.Common.{ap, sym, subst, ◌∙◌}
use Rattle.std.specs.Prelude.{IfSome}
use Rattle.mem_store.specs.Tallies.{Tallies, is_object_of}
use Rattle.mem_store.proofs.GrowthLemmas.{Tallies-apart, grown-tally, same_owner}
use Rattle.mem_store.proofs.tallied.grown.Goals as goal

pub returns : goal.returns
returns c = λ all z component rest was is growth are.
    Tallies-apart c.args.acct all _ c.args.addr z component rest was is c.in_ok-tally.tally
    (same_owner c.args.acct z component
    (ap (is_object_of c.args.acct) (sym (c.thing_at.ensures ∙ is)) ∙ sym c.is_object_of.ensures ∙ c.if-is_object_of.false))
    (subst (λ o. IfSome o (Tallies c.args.acct all)) c.in_ok-tally.was are)

pub returns-then-is_object_of : goal.returns-then-is_object_of
returns-then-is_object_of c = λ all z component rest was is growth are.
    grown-tally c.args.acct all _ c.args.addr z component rest was is c.in_ok-tally.tally c.args.growth.now c.grow.result growth
    (same_owner c.args.acct z component
    (ap (is_object_of c.args.acct) (sym (c.thing_at.ensures ∙ is)) ∙ sym c.is_object_of.ensures ∙ c.if-is_object_of.true))
    c.grow.ensures.counts c.grow.ensures.sums
    (subst (λ o. IfSome o (Tallies c.args.acct all)) c.in_ok-tally.was are)
