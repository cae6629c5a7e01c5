-- The source is made, the extent comes and is counted, and the header or trailer goes.
use Rattle.std.proofs.Common.{arith}
use Rattle.std.proofs.lemmas.Result.{err_from_is_err_and}
use Rattle.sdr_base.proofs.WorksLemmas.{works_more, works_stopped, works_then}
use Rattle.zco_bond.proofs.BondTextLemmas.{bonds_text, previous_reaches, source_below, spare_one, spare_three, text_extentless, text_sourceless, text_stays, text_uncounted, text_used}
use Rattle.zco_bond.proofs.placing.bond_text.Goals as goal

pub make_source-requires-clause-text : goal.make_source-requires-clause-text
make_source-requires-clause-text g c = c.requires.place.named

pub returns-in_err-source-clause-refused : goal.returns-in_err-source-clause-refused
returns-in_err-source-clause-refused g c =
    let p = err_from_is_err_and c.from_residual.result c.from_residual.ensures.1 in
    rw (p.1, p.2)
    (text_sourceless c.args.text (g.O.HasHeap.heap c.args.o.now) (g.O.HasHeap.heap c.make_source.new.o) _ c.in_err-source.ensures.refused)

pub insert_extent-requires-clause-spare : goal.insert_extent-requires-clause-spare
insert_extent-requires-clause-spare g c = spare_one c.in_ok-source.ensures.made c.requires.spare

pub insert_extent-requires-clause-previous : goal.insert_extent-requires-clause-previous
insert_extent-requires-clause-previous g c = previous_reaches c.in_ok-source.ensures.made c.requires.place.is

pub returns-in_err-extent-clause-refused : goal.returns-in_err-extent-clause-refused
returns-in_err-extent-clause-refused g c =
    let p = err_from_is_err_and c.from_residual-in_err-extent.result c.from_residual-in_err-extent.ensures.1 in
    rw (p.1, p.2)
    (text_extentless c.in_ok-source.ensures.made (g.O.HasHeap.heap c.insert_extent.new.o) _ c.in_err-extent.ensures.refused)

pub attach-requires-clause-source : goal.attach-requires-clause-source
attach-requires-clause-source g c =
    source_below c.in_ok-source.ensures.made c.requires.place.is c.in_ok-extent.ensures.inserted

pub returns-in_err-attach-clause-refused : goal.returns-in_err-attach-clause-refused
returns-in_err-attach-clause-refused g c =
    let p = err_from_is_err_and c.from_residual-in_err-attach.result c.from_residual-in_err-attach.ensures.1 in
    rw (p.1, p.2)
    (text_uncounted c.in_ok-source.ensures.made c.in_ok-extent.ensures.inserted (g.O.HasHeap.heap c.attach.new.o) _
    c.in_err-attach.ensures.refused)

pub give-requires-clause-spare : goal.give-requires-clause-spare
give-requires-clause-spare g c =
    spare_three c.in_ok-source.ensures.made c.in_ok-extent.ensures.inserted c.requires.place c.in_ok-attach.ensures.attached
    c.requires.spare

pub give-requires-clause-used : goal.give-requires-clause-used
give-requires-clause-used g c =
    text_used c.in_ok-source.ensures.made c.requires.place.is c.in_ok-extent.ensures.inserted c.in_ok-attach.ensures.attached

pub returns-in_err-give-clause-refused : goal.returns-in_err-give-clause-refused
returns-in_err-give-clause-refused g c =
    let p = err_from_is_err_and c.from_residual-in_err-give.result c.from_residual-in_err-give.ensures.1 in
    rw (p.1, p.2)
    (text_stays c.in_ok-source.ensures.made c.in_ok-extent.ensures.inserted c.requires.place c.in_ok-attach.ensures.attached
    (g.O.HasHeap.heap c.give.new.self) _ c.in_err-give.ensures.refused)

pub returns-clause-bonded : goal.returns-clause-bonded
returns-clause-bonded g c =
    bonds_text c.in_ok-source.ensures.made c.in_ok-extent.ensures.inserted c.requires.place c.in_ok-attach.ensures.attached
    c.in_ok-give.ensures.given

pub returns-in_err-extent-clause-works : goal.returns-in_err-extent-clause-works
returns-in_err-extent-clause-works g c =
    let p = err_from_is_err_and c.from_residual-in_err-extent.result c.from_residual-in_err-extent.ensures.1 in
    rw (p.1, p.2) (works_stopped _ (works_more (works_then c.in_ok-source.ensures.works c.in_err-extent.ensures.works) (omega arith)))
