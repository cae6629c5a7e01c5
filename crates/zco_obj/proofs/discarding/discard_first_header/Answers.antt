-- The first header is read, and goes.
use Rattle.std.proofs.Common.{arith, ◌∙◌}
use Rattle.std.proofs.lemmas.Result.{IfErr-weaker, on_ok_weaker}
use Rattle.zco_obj.specs.Discards.{DiscardStops, first_header}
use Rattle.zco_obj.proofs.DiscardLemmas.{discards_header, first_gone, first_there, header_picked, no_header, picked_stops}
use Rattle.zco_obj.proofs.KeptLemmas.{object_reaches}
use Rattle.zco_obj.proofs.discarding.discard_first_header.Goals as goal

pub word-requires-clause-inside : goal.word-requires-clause-inside
word-requires-clause-inside g c =
    rw c.expect_kind.ensures.looks.same (object_reaches (c.requires.object c.in_ok-expect_kind.ensures.found).keeps 32 (omega arith))

pub returns-then-first-eq0-clause-refused : goal.returns-then-first-eq0-clause-refused
returns-then-first-eq0-clause-refused g c = (
  no_header {heap = g.O.HasHeap.heap c.args.o.now} c.in_ok-expect_kind.ensures.found
      (rw c.expect_kind.ensures.looks.same at c.in_ok-first.ensures.given) c.if-first-eq0.true,
  c.word.ensures.looks.same ∙ c.expect_kind.ensures.looks.same,
)

pub see_capsule-requires-clause-capsule : goal.see_capsule-requires-clause-capsule
see_capsule-requires-clause-capsule g c =
    rw (c.word.ensures.looks.same, c.expect_kind.ensures.looks.same)
    (first_there (c.requires.object c.in_ok-expect_kind.ensures.found)
    (rw c.expect_kind.ensures.looks.same at c.in_ok-first.ensures.given) c.if-first-eq0.false)

pub discard-requires-clause-spot : goal.discard-requires-clause-spot
discard-requires-clause-spot g c =
    rw (c.see_capsule.ensures.looks.same, c.word.ensures.looks.same, c.expect_kind.ensures.looks.same)
    (first_gone (c.requires.object c.in_ok-expect_kind.ensures.found)
    (rw c.expect_kind.ensures.looks.same at c.in_ok-first.ensures.given) c.if-first-eq0.false
    (rw (c.word.ensures.looks.same, c.expect_kind.ensures.looks.same) at c.in_ok-seen.ensures.seen))

pub returns-clause-discarded : goal.returns-clause-discarded
returns-clause-discarded g c =
    on_ok_weaker _
    (λ d. discards_header {old = g.O.HasHeap.heap c.args.o.now} {new = g.O.HasHeap.heap c.discard.new.o}
    c.in_ok-expect_kind.ensures.found (rw c.expect_kind.ensures.looks.same at c.in_ok-first.ensures.given) c.if-first-eq0.false
    (rw (c.word.ensures.looks.same, c.expect_kind.ensures.looks.same) at c.in_ok-seen.ensures.seen)
    (rw (c.see_capsule.ensures.looks.same, c.word.ensures.looks.same, c.expect_kind.ensures.looks.same) at d))
    c.discard.ensures.discarded

pub returns-clause-refused : goal.returns-clause-refused
returns-clause-refused g c =
    let old = g.O.HasHeap.heap c.args.o.now in
    let new = g.O.HasHeap.heap c.discard.new.o in
    IfErr-weaker _ _ (DiscardStops first_header c.args.object old new)
    (λ stop s. picked_stops first_header c.args.object c.in_ok-first.first old new stop c.in_ok-expect_kind.ensures.found
    (header_picked {blocks = old.blocks} (rw c.expect_kind.ensures.looks.same at c.in_ok-first.ensures.given) c.if-first-eq0.false)
    (rw (c.see_capsule.ensures.looks.same, c.word.ensures.looks.same, c.expect_kind.ensures.looks.same) at s))
    c.discard.ensures.refused
