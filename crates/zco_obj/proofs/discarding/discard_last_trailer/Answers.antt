-- The last trailer is found and read, and goes.
use Rattle.std.proofs.Common.{arith, ◌∙◌}
use Rattle.std.proofs.lemmas.Result.{IfErr-weaker, on_ok_weaker}
use Rattle.zco_obj.specs.Discards.{DiscardStops, last_trailer}
use Rattle.zco_obj.proofs.DiscardLemmas.{discards_trailer, last_gone, last_there, no_trailer, picked_stops, trailer_picked, trailers_there}
use Rattle.zco_obj.proofs.KeptLemmas.{object_reaches}
use Rattle.zco_obj.proofs.discarding.discard_last_trailer.Goals as goal

pub word-requires-clause-inside : goal.word-requires-clause-inside
word-requires-clause-inside g c =
    rw c.expect_kind.ensures.looks.same (object_reaches (c.requires.object c.in_ok-expect_kind.ensures.found).keeps 48 (omega arith))

pub returns-then-first-eq0-clause-refused : goal.returns-then-first-eq0-clause-refused
returns-then-first-eq0-clause-refused g c = (
  no_trailer {heap = g.O.HasHeap.heap c.args.o.now} c.in_ok-expect_kind.ensures.found
      (rw c.expect_kind.ensures.looks.same at c.in_ok-first.ensures.given) c.if-first-eq0.true,
  c.word.ensures.looks.same ∙ c.expect_kind.ensures.looks.same,
)

pub find_last-requires-clause-chain : goal.find_last-requires-clause-chain
find_last-requires-clause-chain g c =
    rw (c.word.ensures.looks.same, c.expect_kind.ensures.looks.same)
    (trailers_there (c.requires.object c.in_ok-expect_kind.ensures.found)
    (rw c.expect_kind.ensures.looks.same at c.in_ok-first.ensures.given))

pub see_capsule-requires-clause-capsule : goal.see_capsule-requires-clause-capsule
see_capsule-requires-clause-capsule g c =
    rw (c.find_last.ensures.looks.same, c.word.ensures.looks.same, c.expect_kind.ensures.looks.same)
    (last_there c.in_ok-last.last (c.requires.object c.in_ok-expect_kind.ensures.found)
    (rw c.expect_kind.ensures.looks.same at c.in_ok-first.ensures.given)
    (rw (c.word.ensures.looks.same, c.expect_kind.ensures.looks.same) at c.in_ok-last.ensures.found))

pub discard-requires-clause-spot : goal.discard-requires-clause-spot
discard-requires-clause-spot g c =
    rw (c.see_capsule.ensures.looks.same, c.find_last.ensures.looks.same, c.word.ensures.looks.same, c.expect_kind.ensures.looks.same)
    (last_gone c.in_ok-last.last (c.requires.object c.in_ok-expect_kind.ensures.found)
    (rw c.expect_kind.ensures.looks.same at c.in_ok-first.ensures.given)
    (rw (c.word.ensures.looks.same, c.expect_kind.ensures.looks.same) at c.in_ok-last.ensures.found)
    (rw (c.find_last.ensures.looks.same, c.word.ensures.looks.same, c.expect_kind.ensures.looks.same) at c.in_ok-seen.ensures.seen))

pub returns-clause-discarded : goal.returns-clause-discarded
returns-clause-discarded g c =
    on_ok_weaker _
    (λ d. discards_trailer {old = g.O.HasHeap.heap c.args.o.now} {new = g.O.HasHeap.heap c.discard.new.o} c.in_ok-last.last
    c.in_ok-expect_kind.ensures.found (rw c.expect_kind.ensures.looks.same at c.in_ok-first.ensures.given)
    (rw (c.word.ensures.looks.same, c.expect_kind.ensures.looks.same) at c.in_ok-last.ensures.found)
    (rw (c.find_last.ensures.looks.same, c.word.ensures.looks.same, c.expect_kind.ensures.looks.same) at c.in_ok-seen.ensures.seen)
    (rw (c.see_capsule.ensures.looks.same, c.find_last.ensures.looks.same, c.word.ensures.looks.same, c.expect_kind.ensures.looks.same)
    at d))
    c.discard.ensures.discarded

pub returns-clause-refused : goal.returns-clause-refused
returns-clause-refused g c =
    let old = g.O.HasHeap.heap c.args.o.now in
    let new = g.O.HasHeap.heap c.discard.new.o in
    IfErr-weaker _ _ (DiscardStops last_trailer c.args.object old new)
    (λ stop s. picked_stops last_trailer c.args.object c.in_ok-last.last.addr old new stop c.in_ok-expect_kind.ensures.found
    (trailer_picked {blocks = old.blocks} c.in_ok-last.last (rw c.expect_kind.ensures.looks.same at c.in_ok-first.ensures.given)
    (rw (c.word.ensures.looks.same, c.expect_kind.ensures.looks.same) at c.in_ok-last.ensures.found))
    (rw (c.see_capsule.ensures.looks.same, c.find_last.ensures.looks.same, c.word.ensures.looks.same, c.expect_kind.ensures.looks.same)
    at s))
    c.discard.ensures.refused
