-- The account is charged, and then the header comes.
use Rattle.std.proofs.Common.{arith}
use Rattle.std.proofs.lemmas.Result.{err_from_is_err_and}
use Rattle.zco_obj.proofs.CapsuleLemmas.{adds_header, header_gap, roomless_stops, spare_after}
use Rattle.zco_obj.proofs.ChargeLemmas.{still_kept}
use Rattle.zco_obj.proofs.KeptLemmas.{object_reaches}
use Rattle.zco_obj.proofs.adding.prepend_header.Goals as goal

pub word-requires-clause-inside : goal.word-requires-clause-inside
word-requires-clause-inside g c =
    let t = c.in_ok-charge_capsule.ensures.charged in
    object_reaches (still_kept t.charged (c.requires.object t.kind).keeps) 32 (omega arith)

pub insert_capsule-requires-clause-spare : goal.insert_capsule-requires-clause-spare
insert_capsule-requires-clause-spare g c =
    let t = c.in_ok-charge_capsule.ensures.charged in
    rw c.word.ensures.looks.same (spare_after (c.requires.object t.kind) t c.requires.spare)

pub insert_capsule-requires-clause-gap : goal.insert_capsule-requires-clause-gap
insert_capsule-requires-clause-gap g c =
    let t = c.in_ok-charge_capsule.ensures.charged in
    rw c.word.ensures.looks.same (header_gap (c.requires.object t.kind) t c.in_ok-first.ensures.given)

pub returns-in_err-insert_capsule-clause-refused : goal.returns-in_err-insert_capsule-clause-refused
returns-in_err-insert_capsule-clause-refused g c =
    let p = err_from_is_err_and c.from_residual-in_err-insert_capsule.result c.from_residual-in_err-insert_capsule.ensures.1 in
    let t = c.in_ok-charge_capsule.ensures.charged in
    rw (p.1, p.2)
    (roomless_stops c.args.object c.args.ticket c.args.text.now (g.O.HasHeap.heap c.args.o.now) (g.O.HasHeap.heap c.charge_capsule.new.o)
    (g.O.HasHeap.heap c.insert_capsule.new.o) _ (c.requires.object t.kind) t
    (rw c.word.ensures.looks.same at c.in_err-insert_capsule.ensures.refused))

pub returns-clause-added : goal.returns-clause-added
returns-clause-added g c =
    let t = c.in_ok-charge_capsule.ensures.charged in
    adds_header (c.requires.object t.kind) t c.in_ok-first.ensures.given
    (rw c.word.ensures.looks.same at c.in_ok-insert_capsule.ensures.inserted)
