-- Its source word is asked, and then the block goes.
use Rattle.std.proofs.Common.{rules, inl}
use Rattle.std.proofs.lemmas.Result.{IfErr-weaker, on_ok_weaker}
use Rattle.sdr_heap.proofs.RawLemmas.{free_named, free_unmoved}
use Rattle.sdr_heap.specs.Raw.{FreeStops}
use Rattle.sdr_heap.proofs.raw.free_raw.Goals as goal

pub returns-in_err-expect_unnamed-clause-refused : goal.returns-in_err-expect_unnamed-clause-refused
returns-in_err-expect_unnamed-clause-refused g c =
    let old = g.O.HasHeap.heap c.args.o.now in
    let new = g.O.HasHeap.heap c.expect_unnamed.new.o in
    let s : FreeStops c.args.addr old new c.in_err-expect_unnamed.field-0.0 =
    free_named c.args.addr old new _ c.expect_unnamed.ensures.looks.same c.requires.kind c.in_err-expect_unnamed.ensures.refused in
    search rules

pub returns-clause-given : goal.returns-clause-given
returns-clause-given g c =
    on_ok_weaker c.give.result
    (λ is. record { found = inl c.requires.kind; unnamed = λ kind. c.in_ok-expect_unnamed.ensures.found.unnamed; given = is })
    (rw c.expect_unnamed.ensures.looks.same at c.give.ensures.given)

pub returns-clause-refused : goal.returns-clause-refused
returns-clause-refused g c =
    let old = g.O.HasHeap.heap c.args.o.now in
    let new = g.O.HasHeap.heap c.give.new.self in
    IfErr-weaker _ _ (FreeStops c.args.addr old new)
    (λ stop u. free_unmoved c.args.addr old new stop (inl c.requires.kind) (λ kind. c.in_ok-expect_unnamed.ensures.found.unnamed) u)
    (rw c.expect_unnamed.ensures.looks.same at c.give.ensures.refused)
