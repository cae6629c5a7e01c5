-- The steps one after another.
use Rattle.std.proofs.lemmas.Result.{on_ok_weaker}
use Rattle.sdr_large.proofs.GivenLemmas.{holds_first, holds_second, holds_third, gives, GivesLarge-kept, GivesLarge-others}
use Rattle.sdr_large.proofs.giving.give.Goals as goal

pub join_below-requires : goal.join_below-requires
join_below-requires g c = record {
  loose = holds_first c.args.addr c.in_ok-own.own c.in_ok-own.own c.in_ok-own.own _ _ (g.C.Cells.bytes c.args.c.now)
      (g.C.Cells.bytes c.args.c.now) (g.C.Cells.bytes c.args.c.now) c.requires.used.pools c.requires.used.keeps
      c.requires.used.used c.in_ok-own.ensures.loose;
}

pub join_above-requires-clause-loose : goal.join_above-requires-clause-loose
join_above-requires-clause-loose g c =
    holds_second c.args.addr c.in_ok-own.own c.in_ok-upper.upper c.in_ok-own.own _ _ _
    (g.C.Cells.bytes c.args.c.now) (g.C.Cells.bytes c.args.c.now) c.requires.used.pools c.requires.used.keeps
    c.requires.used.used c.in_ok-own.ensures.loose c.in_ok-upper.ensures.joined

pub set_free-requires : goal.set_free-requires
set_free-requires g c = record {
  loose = holds_third c.args.addr c.in_ok-own.own c.in_ok-upper.upper c.in_ok-whole.whole _ _ _ _
      (g.C.Cells.bytes c.args.c.now) c.requires.used.pools c.requires.used.keeps c.requires.used.used
      c.in_ok-own.ensures.loose c.in_ok-upper.ensures.joined c.in_ok-whole.ensures.joined;
}

pub returns-clause-given : goal.returns-clause-given
returns-clause-given g c =
    on_ok_weaker c.set_free.result
    (λ puts. gives c.args.addr c.in_ok-own.own c.in_ok-upper.upper c.in_ok-whole.whole _ _ _ _ _
    c.in_ok-own.ensures.loose c.in_ok-upper.ensures.joined c.in_ok-whole.ensures.joined puts)
    c.set_free.ensures.put

pub returns-clause-kept : goal.returns-clause-kept
returns-clause-kept g c =
    on_ok_weaker c.set_free.result
    (λ puts. GivesLarge-kept _ _ c.args.addr c.requires.used
    (gives c.args.addr c.in_ok-own.own c.in_ok-upper.upper c.in_ok-whole.whole _ _ _ _ _
    c.in_ok-own.ensures.loose c.in_ok-upper.ensures.joined c.in_ok-whole.ensures.joined puts))
    c.set_free.ensures.put

pub returns-clause-others : goal.returns-clause-others
returns-clause-others g c =
    on_ok_weaker c.set_free.result
    (λ puts. GivesLarge-others _ _ c.args.addr c.requires.used
    (gives c.args.addr c.in_ok-own.own c.in_ok-upper.upper c.in_ok-whole.whole _ _ _ _ _
    c.in_ok-own.ensures.loose c.in_ok-upper.ensures.joined c.in_ok-whole.ensures.joined puts))
    c.set_free.ensures.put
