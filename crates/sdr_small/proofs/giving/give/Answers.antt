-- A block in use can be given back, and what is done is the rule.
use Rattle.std.proofs.Common.{refl, arith}
use Rattle.std.proofs.lemmas.Result.{on_ok_weaker}
use Rattle.sdr_small.proofs.CallsLemmas.{can_give, gives_back, GivesSmall-kept}
use Rattle.sdr_small.proofs.giving.give.Goals as goal

pub overflow_sub-addr : goal.overflow_sub-addr
overflow_sub-addr g c = (can_give _ _ _ c.args.addr refl c.requires.used refl).fits.least

pub read_leader_words-requires : goal.read_leader_words-requires
read_leader_words-requires g c =
    let k = can_give _ _ _ c.args.addr refl c.requires.used refl in
    record { inside = omega (arith, k.fits.inside, k.fits.least) }

pub put_front-requires : goal.put_front-requires
put_front-requires g c =
    let k = can_give _ _ c.in_ok-words.words c.args.addr c.in_ok-words.ensures.same c.requires.used c.in_ok-words.ensures.given in
    record { words = k.few; least = k.fits.least; control = k.fits.control; inside = k.fits.inside; bit = k.fits.bit }

pub returns-clause-given : goal.returns-clause-given
returns-clause-given g c =
    on_ok_weaker c.put_front.result
    (λ puts. gives_back _ _ _ c.in_ok-words.words c.args.addr c.in_ok-words.ensures.same c.in_ok-words.ensures.given puts)
    c.put_front.ensures.front

pub returns-clause-kept : goal.returns-clause-kept
returns-clause-kept g c =
    on_ok_weaker c.put_front.result
    (λ puts. GivesSmall-kept _ _ c.args.addr c.requires.used
    (gives_back _ _ _ c.in_ok-words.words c.args.addr c.in_ok-words.ensures.same c.in_ok-words.ensures.given puts))
    c.put_front.ensures.front
