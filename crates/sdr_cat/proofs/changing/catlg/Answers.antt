-- The name is new, or it is there.
use Rattle.std.proofs.Common.{arith, ◌∙◌}
use Rattle.std.proofs.lemmas.Result.{IfErr-weaker, on_ok_weaker}
use Rattle.sdr_base.proofs.WritingLemmas.{reaches_less}
use Rattle.sdr_cat.specs.Changes.{CatlgStops}
use Rattle.sdr_cat.proofs.FindLemmas.{entry_reaches, lacks}
use Rattle.sdr_cat.proofs.TakenLemmas.{catalogues, catalogues_stop, has_name}
use Rattle.sdr_cat.proofs.WalkLemmas.{place_entry}
use Rattle.sdr_cat.proofs.changing.catlg.Goals as goal

pub word-requires-clause-inside : goal.word-requires-clause-inside
word-requires-clause-inside g c =
    let s = rw (c.check_failed.ensures.looks.same, c.in-Some.is) at c.in_ok-search.ensures.found in
    rw (c.search.ensures.looks.same, c.check_failed.ensures.looks.same)
    (reaches_less _ 56 _ (entry_reaches (place_entry c.requires.names s)) (omega arith))

pub returns-in-None-clause-catalogued : goal.returns-in-None-clause-catalogued
returns-in-None-clause-catalogued g c =
    let s = rw (c.check_failed.ensures.looks.same, c.in-None.is) at c.in_ok-search.ensures.found in
    on_ok_weaker _ (catalogues (lacks c.in_ok-check_name.ensures.fits s))
    (rw (c.search.ensures.looks.same, c.check_failed.ensures.looks.same) at c.add_last.ensures.added)

pub returns-in-None-clause-refused : goal.returns-in-None-clause-refused
returns-in-None-clause-refused g c =
    let s = rw (c.check_failed.ensures.looks.same, c.in-None.is) at c.in_ok-search.ensures.found in
    IfErr-weaker _ _ (CatlgStops c.args.name.now (g.O.HasHeap.heap c.args.o.now) (g.O.HasHeap.heap c.add_last.new.o))
    (λ stop u. catalogues_stop (g.O.HasHeap.heap c.add_last.new.o) stop (lacks c.in_ok-check_name.ensures.fits s) u)
    (rw (c.search.ensures.looks.same, c.check_failed.ensures.looks.same) at c.add_last.ensures.refused)

pub returns-in_ok-addr-in-Some-clause-refused : goal.returns-in_ok-addr-in-Some-clause-refused
returns-in_ok-addr-in-Some-clause-refused g c =
    let s = rw (c.check_failed.ensures.looks.same, c.in-Some.is) at c.in_ok-search.ensures.found in (
      has_name c.in_ok-check_name.ensures.fits s (rw (c.search.ensures.looks.same, c.check_failed.ensures.looks.same) at c.in_ok-addr-in-Some.ensures.given),
      c.word.ensures.looks.same ∙ c.search.ensures.looks.same ∙ c.check_failed.ensures.looks.same,
    )
