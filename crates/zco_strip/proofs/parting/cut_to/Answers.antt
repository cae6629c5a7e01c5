-- The extent is read, and it is cut.
use Rattle.std.proofs.Common.{arith}
use Rattle.std.proofs.lemmas.Result.{on_ok_weaker}
use Rattle.zco_strip.proofs.CutLemmas.{cuts_to, ends_short}
use Rattle.zco_strip.specs.Parting.{CutsTo}
use Rattle.zco_obj.proofs.WalkLemmas.{extent_reaches}
use Rattle.zco_strip.proofs.parting.cut_to.Goals as goal

pub word-requires-clause-inside : goal.word-requires-clause-inside
word-requires-clause-inside g c = rw c.see_extent.ensures.looks.same (extent_reaches c.requires.extent.keeps 16 (omega arith))

pub overflow_add-offset : goal.overflow_add-offset
overflow_add-offset g c =
    let h = rw c.see_extent.ensures.looks.same at c.in_ok-offset.ensures.given in
    let short = ends_short c.in_ok-offset.offset c.in_ok-seen.seen c.in_ok-seen.ensures.seen c.requires.extent h in
    let first = c.min-first.ensures in omega (arith, short, first)

pub cut_extent-requires-clause-extent : goal.cut_extent-requires-clause-extent
cut_extent-requires-clause-extent g c =
    rw (c.word.ensures.looks.same, c.see_extent.ensures.looks.same) (extent_reaches c.requires.extent.keeps 32 (omega arith))

pub returns-clause-cut : goal.returns-clause-cut
returns-clause-cut g c =
    let old = g.O.HasHeap.heap c.args.o.now in
    let new = g.O.HasHeap.heap c.cut_extent.new.o in
    let h = rw c.see_extent.ensures.looks.same at c.in_ok-offset.ensures.given in
    on_ok_weaker {Q = CutsTo c.args.extent c.args.from c.args.to old new} _
    (λ w. cuts_to c.args.extent c.in_ok-offset.offset c.in_ok-seen.seen c.args.from c.args.to c.min-first.result c.min.result
    c.in_ok-seen.ensures.seen h c.min-first.ensures c.min.ensures
    (rw (c.word.ensures.looks.same, c.see_extent.ensures.looks.same) at w))
    c.cut_extent.ensures.cut
