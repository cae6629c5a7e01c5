-- The entry is where the search ended.
use Rattle.std.proofs.lemmas.Result.{IfOk-weaker}
use Rattle.sdr_cat.proofs.FindLemmas.{finds, lacks}
use Rattle.sdr_cat.proofs.WalkLemmas.{place_entry}
use Rattle.sdr_cat.proofs.finding.find.Goals as goal

pub told-requires-clause-entry : goal.told-requires-clause-entry
told-requires-clause-entry g c =
    let s = rw (c.check_failed.ensures.looks.same, c.in-Some.is) at c.in_ok-search.ensures.found in
    rw (c.search.ensures.looks.same, c.check_failed.ensures.looks.same) (place_entry c.requires.names s)

pub returns-in-None-clause-refused : goal.returns-in-None-clause-refused
returns-in-None-clause-refused g c =
    let s = rw (c.check_failed.ensures.looks.same, c.in-None.is) at c.in_ok-search.ensures.found in
    lacks c.in_ok-check_name.ensures.fits s

pub returns-in-Some-clause-found : goal.returns-in-Some-clause-found
returns-in-Some-clause-found g c =
    let s = rw (c.check_failed.ensures.looks.same, c.in-Some.is) at c.in_ok-search.ensures.found in
    IfOk-weaker _ _ _ (λ value t. finds c.in_ok-check_name.ensures.fits s t)
    (rw (c.search.ensures.looks.same, c.check_failed.ensures.looks.same) at c.told.ensures.told)
