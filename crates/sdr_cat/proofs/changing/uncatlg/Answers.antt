-- The entry is taken out where the search ended.
use Rattle.std.proofs.Common.{◌∙◌}
use Rattle.std.proofs.lemmas.Result.{IfErr-weaker, on_ok_weaker}
use Rattle.sdr_cat.specs.Changes.{UncatlgStops}
use Rattle.sdr_cat.proofs.FindLemmas.{lacks}
use Rattle.sdr_cat.proofs.TakenLemmas.{is_there, some_first, uncatalogues, uncatalogues_stop}
use Rattle.sdr_cat.proofs.changing.uncatlg.Goals as goal

pub take_out-requires-clause-first : goal.take_out-requires-clause-first
take_out-requires-clause-first g c =
    let s = rw (c.check_failed.ensures.looks.same, c.in-Some.is) at c.in_ok-search.ensures.found in
    rw (c.search.ensures.looks.same, c.check_failed.ensures.looks.same) (some_first c.requires.names s)

pub returns-in-None-clause-refused : goal.returns-in-None-clause-refused
returns-in-None-clause-refused g c =
    let s = rw (c.check_failed.ensures.looks.same, c.in-None.is) at c.in_ok-search.ensures.found in
    (lacks c.in_ok-check_name.ensures.fits s, c.search.ensures.looks.same ∙ c.check_failed.ensures.looks.same)

pub returns-in-Some-clause-uncatalogued : goal.returns-in-Some-clause-uncatalogued
returns-in-Some-clause-uncatalogued g c =
    let s = rw (c.check_failed.ensures.looks.same, c.in-Some.is) at c.in_ok-search.ensures.found in
    on_ok_weaker _ (λ t. uncatalogues {old = g.O.HasHeap.heap c.args.o.now} {new = g.O.HasHeap.heap c.take_out.new.o} c.in_ok-check_name.ensures.fits s t)
    (rw (c.search.ensures.looks.same, c.check_failed.ensures.looks.same) at c.take_out.ensures.taken)

pub returns-in-Some-clause-refused : goal.returns-in-Some-clause-refused
returns-in-Some-clause-refused g c =
    let s = rw (c.check_failed.ensures.looks.same, c.in-Some.is) at c.in_ok-search.ensures.found in
    IfErr-weaker _ _ (UncatlgStops c.args.name.now (g.O.HasHeap.heap c.args.o.now) (g.O.HasHeap.heap c.take_out.new.o))
    (λ stop u. uncatalogues_stop (g.O.HasHeap.heap c.take_out.new.o) stop (is_there c.in_ok-check_name.ensures.fits s) u)
    (rw (c.search.ensures.looks.same, c.check_failed.ensures.looks.same) at c.take_out.ensures.refused)
