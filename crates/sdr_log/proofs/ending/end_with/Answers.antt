use Rattle.std.proofs.Common.{◌∙◌, ap, [], ◌∷◌}
use Rattle.sdr_base.specs.Parts.{overwrite}
use Rattle.sdr_disk.proofs.RangesLemmas.{Agrees-trans}
use Rattle.sdr_log.proofs.EndingLemmas.{either_first, spilled_each, spilled_ends, spilled_open}
use Rattle.sdr_log.proofs.ending.end_with.Goals as goal

pub returns-in_err-spill-clause-any_moment : goal.returns-in_err-spill-clause-any_moment
returns-in_err-spill-clause-any_moment g c told begun records m =
    either_first _ _ _ _ _ _ (c.spill.ensures.any_moment told begun records m)

pub returns-in_err-close-clause-any_moment : goal.returns-in_err-close-clause-any_moment
returns-in_err-close-clause-any_moment g c told begun records m =
    let s = c.in_ok-spill.ensures.spills told begun records m in
    let some = c.requires.place.some in
    spilled_each _ _ _ _ _ _ _ _ _ s some _ _ _ _ _ (c.spill.ensures.any_moment told begun records m)
    (c.close.ensures.any_moment (c.spill.ensures.disk.tells ∙ told) (spilled_open _ _ _ _ _ _ _ _ _ s some))

pub returns-in_err-close-clause-inside : goal.returns-in_err-close-clause-inside
returns-in_err-close-clause-inside g c = Agrees-trans _ _ _ _ c.spill.ensures.inside c.close.ensures.inside

pub returns-clause-written : goal.returns-clause-written
returns-clause-written g c =
    c.in_ok-close.ensures.written ∙ ap (overwrite 64 (0 ∷ [])) c.in_ok-spill.ensures.written

pub returns-clause-inside : goal.returns-clause-inside
returns-clause-inside g c = Agrees-trans _ _ _ _ c.spill.ensures.inside c.close.ensures.inside

pub returns-clause-ends : goal.returns-clause-ends
returns-clause-ends g c told begun records m =
    let s = c.in_ok-spill.ensures.spills told begun records m in
    let some = c.requires.place.some in
    spilled_ends _ _ _ _ _ _ _ _ _ s some _ _
    (c.in_ok-close.ensures.closes (c.spill.ensures.disk.tells ∙ told) (spilled_open _ _ _ _ _ _ _ _ _ s some))

pub returns-clause-any_moment : goal.returns-clause-any_moment
returns-clause-any_moment g c told begun records m =
    let s = c.in_ok-spill.ensures.spills told begun records m in
    let some = c.requires.place.some in
    spilled_each _ _ _ _ _ _ _ _ _ s some _ _ _ _ _ (c.spill.ensures.any_moment told begun records m)
    (c.close.ensures.any_moment (c.spill.ensures.disk.tells ∙ told) (spilled_open _ _ _ _ _ _ _ _ _ s some))
