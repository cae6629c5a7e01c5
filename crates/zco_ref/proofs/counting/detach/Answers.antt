-- The source goes, or its count is set to one less.
use Rattle.std.proofs.Common.{◌+◌, ◌*◌, ◌∙◌, sym, arith, rules, Err}
use Rattle.sdr_base.specs.Works.{Spends}
use Rattle.sdr_base.proofs.WorksLemmas.{looks_then, works_more, works_ok}
use Rattle.zco_ref.specs.Counting.{DetachStops}
use Rattle.zco_ref.specs.Going.{going}
use Rattle.zco_ref.proofs.CountedLemmas.{field_below}
use Rattle.zco_ref.proofs.DetachLemmas.{detached_last, detached_one, going_told, some_counted, stopped_last, stopped_one}
use Rattle.zco_ref.proofs.KeptLemmas.{count_reaches}
use Rattle.zco_ref.proofs.counting.detach.Goals as goal

pub see-requires-clause-source : goal.see-requires-clause-source
see-requires-clause-source g c = record { source = c.requires.source.source; keeps = c.requires.source.tied.keeps }

pub vanish-requires-clause-spare : goal.vanish-requires-clause-spare
vanish-requires-clause-spare g c =
    let e = going_told c.args.source c.args.acct (g.O.HasHeap.heap c.args.o.now) c.in_ok-seen.seen c.in_ok-seen.ensures.seen
    c.requires.source (sym c.goes_next.ensures ∙ c.if-goes_next.true) in
    let enough = c.requires.spare in
    rw c.see.ensures.looks.same (omega (arith, e, enough))

pub vanish-requires-clause-source : goal.vanish-requires-clause-source
vanish-requires-clause-source g c =
    let s = c.requires.source in
    rw c.see.ensures.looks.same (record { source = s.source; bytes = s.bytes; tied = s.tied })

pub returns-in_err-vanish-clause-refused : goal.returns-in_err-vanish-clause-refused
returns-in_err-vanish-clause-refused g c =
    let goes = sym c.goes_next.ensures ∙ c.if-goes_next.true in
    let s : DetachStops c.args.source (g.O.HasHeap.heap c.args.o.now) (g.O.HasHeap.heap c.vanish.new.o) c.in_err-vanish.field-0.0 =
    stopped_last c.args.source (g.O.HasHeap.heap c.args.o.now) (g.O.HasHeap.heap c.vanish.new.o) c.in_ok-seen.seen
    c.in_err-vanish.field-0.0
    c.in_ok-seen.ensures.seen goes
    (rw c.see.ensures.looks.same at c.in_err-vanish.ensures.refused) in search rules

pub returns-in_err-vanish-clause-works : goal.returns-in_err-vanish-clause-works
returns-in_err-vanish-clause-works g c =
    let e = going_told c.args.source c.args.acct (g.O.HasHeap.heap c.args.o.now) c.in_ok-seen.seen c.in_ok-seen.ensures.seen
    c.requires.source (sym c.goes_next.ensures ∙ c.if-goes_next.true) in
    let w : Spends {T = Unit {0}} g.O.HasHeap (4 + 24 * going ((g.O.HasHeap.heap c.args.o.now).blocks c.args.source)) c.args.o.now c.vanish.new.o
    (Err c.in_err-vanish.field-0.0) =
    works_more (looks_then c.in_ok-seen.ensures.looks c.in_err-vanish.ensures.works) (omega (arith, e)) in search rules

pub returns-then-goes_next-clause-detached : goal.returns-then-goes_next-clause-detached
returns-then-goes_next-clause-detached g c =
    detached_last c.in_ok-seen.seen c.in_ok-seen.ensures.seen (sym c.goes_next.ensures ∙ c.if-goes_next.true)
    (rw c.see.ensures.looks.same at c.in_ok-vanish.ensures.gone)

pub returns-then-goes_next-clause-works : goal.returns-then-goes_next-clause-works
returns-then-goes_next-clause-works g c =
    let e = going_told c.args.source c.args.acct (g.O.HasHeap.heap c.args.o.now) c.in_ok-seen.seen c.in_ok-seen.ensures.seen
    c.requires.source (sym c.goes_next.ensures ∙ c.if-goes_next.true) in
    works_ok (works_more (looks_then c.in_ok-seen.ensures.looks c.in_ok-vanish.ensures.works) (omega (arith, e)))

pub word-requires-clause-small : goal.word-requires-clause-small
word-requires-clause-small g c = let e = c.count_field-field.ensures in let b = field_below c.args.acct in omega (arith, e, b)

pub word-requires-clause-inside : goal.word-requires-clause-inside
word-requires-clause-inside g c =
    rw (c.see.ensures.looks.same, c.count_field-field.ensures) (count_reaches c.requires.source.tied.keeps c.args.acct)

pub overflow_sub-count : goal.overflow_sub-count
overflow_sub-count g c =
    some_counted c.args.source c.args.acct (g.O.HasHeap.heap c.args.o.now) c.in_ok-seen.seen c.in_ok-seen.ensures.seen c.requires.source
    c.in_ok-count.count
    (rw (c.see.ensures.looks.same, c.count_field-field.ensures) at c.in_ok-count.ensures.given)

pub set_word-requires-clause-inside : goal.set_word-requires-clause-inside
set_word-requires-clause-inside g c =
    rw (c.word.ensures.looks.same, c.see.ensures.looks.same, c.count_field-field.ensures)
    (count_reaches c.requires.source.tied.keeps c.args.acct)

pub returns-in_err-set_word-clause-refused : goal.returns-in_err-set_word-clause-refused
returns-in_err-set_word-clause-refused g c =
    let s : DetachStops c.args.source (g.O.HasHeap.heap c.args.o.now) (g.O.HasHeap.heap c.set_word.new.o) c.in_err-set_word.field-0.0 =
    stopped_one c.args.source (g.O.HasHeap.heap c.args.o.now) (g.O.HasHeap.heap c.set_word.new.o) c.in_err-set_word.field-0.0
    (rw (c.word.ensures.looks.same, c.see.ensures.looks.same) at c.in_err-set_word.ensures.refused) in search rules

pub returns-clause-detached : goal.returns-clause-detached
returns-clause-detached g c =
    detached_one c.in_ok-seen.seen c.in_ok-seen.ensures.seen c.in_ok-count.count
    (sym c.goes_next.ensures ∙ c.if-goes_next.false)
    (rw (c.see.ensures.looks.same, c.count_field-field.ensures) at c.in_ok-count.ensures.given)
    (rw (c.word.ensures.looks.same, c.see.ensures.looks.same, c.count_field-field.ensures) at c.in_ok-set_word.ensures.written)
