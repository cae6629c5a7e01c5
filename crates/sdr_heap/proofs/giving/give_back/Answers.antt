-- The pool is told by `low`.
use Rattle.std.proofs.Common.{arith}
use Rattle.std.proofs.lemmas.Result.{on_ok_weaker}
use Rattle.sdr_heap.proofs.GiveBackLemmas.{used_above, small_can, large_can, small_back, large_back}
use Rattle.sdr_heap.proofs.giving.give_back.Goals as goal

pub overflow_sub-addr : goal.overflow_sub-addr
overflow_sub-addr g c = omega (arith, used_above _ _ c.requires.kept c.requires.used)

pub give-requires : goal.give-requires
give-requires g c = record {
  used = small_can _ _ c.args.addr c.requires.kept c.requires.used
      (omega (arith, c.if-addr-low.true, c.in_ok-low.ensures.given)) c.in_ok-low.ensures.same;
}

pub give-requires-else-addr-low : goal.give-requires-else-addr-low
give-requires-else-addr-low g c = record {
  used = large_can _ _ c.args.addr c.requires.kept c.requires.used
      (omega (arith, c.if-addr-low.false, c.in_ok-low.ensures.given)) c.in_ok-low.ensures.same;
}

pub returns-then-addr-low-clause-given : goal.returns-then-addr-low-clause-given
returns-then-addr-low-clause-given g c =
    on_ok_weaker c.give.result
    (λ gives. small_back _ _ _ c.args.addr c.requires.kept c.requires.used
    (omega (arith, c.if-addr-low.true, c.in_ok-low.ensures.given)) c.in_ok-low.ensures.same gives)
    c.give.ensures.given

pub returns-else-addr-low-clause-given : goal.returns-else-addr-low-clause-given
returns-else-addr-low-clause-given g c =
    on_ok_weaker c.give-else-addr-low.result
    (λ gives. large_back _ _ _ c.args.addr c.requires.kept c.requires.used
    (omega (arith, c.if-addr-low.false, c.in_ok-low.ensures.given)) c.in_ok-low.ensures.same gives)
    c.give-else-addr-low.ensures.given
