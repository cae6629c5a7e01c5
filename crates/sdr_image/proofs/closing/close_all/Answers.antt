use Rattle.std.proofs.Common.{◌∙◌, ap, length, arith}
use Rattle.std.proofs.lemmas.List.Sorted.{length_permutation}
use Rattle.sdr_image.specs.Lines.{begun_of}
use Rattle.sdr_image.proofs.ClosingLemmas.{last_below, last_changed, last_ends, last_lines, last_may, last_moments, last_named, last_place}
use Rattle.sdr_image.proofs.ClosingLemmas.{none_ends, none_logged, none_moments, none_open}
use Rattle.sdr_image.proofs.RestedLemmas.{risen_lines}
use Rattle.sdr_image.proofs.StandsLemmas.{keeps_left}
use Rattle.sdr_image.proofs.closing.close_all.Goals as goal

pub returns-in_err-end_spilled-clause-lines : goal.returns-in_err-end_spilled-clause-lines
returns-in_err-end_spilled-clause-lines g c =
    let k = c.requires.kept in
    risen_lines c.args.frame c.args.lines.now c.rise.new.self k c.rise.ensures c.args.lines.now.batch k.batch
    c.len-count.ensures.whole.1

pub returns-in_err-end_spilled-clause-any_moment : goal.returns-in_err-end_spilled-clause-any_moment
returns-in_err-end_spilled-clause-any_moment g c told keeps =
    let d = g.D.Disk in
    let s = c.requires.stands in
    let x = d.bytes c.args.disk.now in
    let len = c.len-count.ensures.len in
    let none = c.if-count-eq0.true in
    let some = c.requires.some in
    none_moments s c.requires.kept c.rise.ensures len none some d.moment d.may_hold_after _ _
    (c.end_spilled.ensures.any_moment told (begun_of x) c.args.lines.now.place s.records
    (keeps_left c.args.frame (begun_of x) c.args.lines.now x s _ keeps)
    (none_logged s c.requires.kept c.rise.ensures len none some))

pub returns-in_err-end_spilled-clause-calls : goal.returns-in_err-end_spilled-clause-calls
returns-in_err-end_spilled-clause-calls g c = omega (arith, c.end_spilled.ensures.calls)

pub returns-then-count-eq0-clause-ends : goal.returns-then-count-eq0-clause-ends
returns-then-count-eq0-clause-ends g c =
    none_ends c.requires.stands c.requires.kept c.rise.ensures c.len-count.ensures.len c.if-count-eq0.true c.requires.some _
    c.in_ok-end_spilled.ensures.written

pub returns-then-count-eq0-clause-written : goal.returns-then-count-eq0-clause-written
returns-then-count-eq0-clause-written g c gate =
    none_open c.requires.stands c.requires.kept c.rise.ensures c.len-count.ensures.len c.if-count-eq0.true c.requires.some gate

pub returns-then-count-eq0-clause-lines : goal.returns-then-count-eq0-clause-lines
returns-then-count-eq0-clause-lines g c =
    let k = c.requires.kept in
    risen_lines c.args.frame c.args.lines.now c.rise.new.self k c.rise.ensures c.args.lines.now.batch k.batch
    c.len-count.ensures.whole.1

pub returns-then-count-eq0-clause-calls : goal.returns-then-count-eq0-clause-calls
returns-then-count-eq0-clause-calls g c = omega (arith, c.end_spilled.ensures.calls)

pub returns-then-count-eq0-clause-any_moment : goal.returns-then-count-eq0-clause-any_moment
returns-then-count-eq0-clause-any_moment g c told keeps =
    let d = g.D.Disk in
    let s = c.requires.stands in
    let x = d.bytes c.args.disk.now in
    let len = c.len-count.ensures.len in
    let none = c.if-count-eq0.true in
    let some = c.requires.some in
    none_moments s c.requires.kept c.rise.ensures len none some d.moment d.may_hold_after _ _
    (c.end_spilled.ensures.any_moment told (begun_of x) c.args.lines.now.place s.records
    (keeps_left c.args.frame (begun_of x) c.args.lines.now x s _ keeps)
    (none_logged s c.requires.kept c.rise.ensures len none some))

pub end_with-requires-clause-place : goal.end_with-requires-clause-place
end_with-requires-clause-place g c =
    last_place c.requires.stands c.requires.kept c.rise.ensures c.len-count.ensures.len c.olds.ensures c.news.ensures
    c.if-count-eq0.false c.len-count.ensures.few _ (ap length c.deref_mut.ensures.value ∙ c.requires.kept.batch)

pub end_with-requires-clause-below : goal.end_with-requires-clause-below
end_with-requires-clause-below g c =
    last_below c.requires.stands c.requires.kept c.rise.ensures c.len-count.ensures.len c.olds.ensures c.news.ensures
    c.if-count-eq0.false c.len-count.ensures.few

pub end_with-requires-clause-named : goal.end_with-requires-clause-named
end_with-requires-clause-named g c =
    last_named c.requires.stands c.requires.kept c.rise.ensures c.len-count.ensures.len c.olds.ensures c.news.ensures
    c.if-count-eq0.false c.len-count.ensures.few

pub returns-in_err-end_with-clause-lines : goal.returns-in_err-end_with-clause-lines
returns-in_err-end_with-clause-lines g c =
    last_lines c.requires.stands c.requires.kept c.rise.ensures c.len-count.ensures.len c.len-count.ensures.whole.1 _
    c.end_with.new.buffer c.deref_mut.ensures.value c.deref_mut.ensures.len c.end_with.auto.buffer

pub returns-in_err-end_with-clause-calls : goal.returns-in_err-end_with-clause-calls
returns-in_err-end_with-clause-calls g c =
    omega (
      arith,
      c.end_with.ensures.calls,
      ap length c.news.ensures,
      c.len-count.ensures.long,
      length_permutation _ _ c.rise.ensures.olds,
      c.requires.kept.counted,
    )

pub returns-in_err-end_with-clause-any_moment : goal.returns-in_err-end_with-clause-any_moment
returns-in_err-end_with-clause-any_moment g c told keeps =
    let d = g.D.Disk in
    let s = c.requires.stands in
    let k = c.requires.kept in
    let r = c.rise.ensures in
    let n = c.len-count.ensures in
    let may = last_may s k r n.len c.olds.ensures c.news.ensures c.if-count-eq0.false n.few _ keeps in
    last_moments s k r n.len c.olds.ensures c.news.ensures c.if-count-eq0.false n.few d.moment d.may_hold_after _ _
    n.whole.1 (c.end_with.ensures.any_moment told _ s.records may)

pub returns-clause-ends : goal.returns-clause-ends
returns-clause-ends g c =
    let n = c.len-count.ensures in
    last_ends c.requires.stands c.requires.kept c.rise.ensures n.len c.olds.ensures c.news.ensures c.if-count-eq0.false
    n.few _ c.in_ok-end_with.ensures.written n.whole.0 n.whole.1

pub returns-clause-written : goal.returns-clause-written
returns-clause-written g c gate =
    let n = c.len-count.ensures in
    last_changed c.requires.stands c.requires.kept c.rise.ensures n.len c.olds.ensures c.news.ensures
    c.if-count-eq0.false n.few _ c.in_ok-end_with.ensures.written gate

pub returns-clause-lines : goal.returns-clause-lines
returns-clause-lines g c =
    last_lines c.requires.stands c.requires.kept c.rise.ensures c.len-count.ensures.len c.len-count.ensures.whole.1 _
    c.end_with.new.buffer c.deref_mut.ensures.value c.deref_mut.ensures.len c.end_with.auto.buffer

pub returns-clause-calls : goal.returns-clause-calls
returns-clause-calls g c =
    omega (
      arith,
      c.end_with.ensures.calls,
      ap length c.news.ensures,
      c.len-count.ensures.long,
      length_permutation _ _ c.rise.ensures.olds,
      c.requires.kept.counted,
    )

pub returns-clause-any_moment : goal.returns-clause-any_moment
returns-clause-any_moment g c told keeps =
    let d = g.D.Disk in
    let s = c.requires.stands in
    let k = c.requires.kept in
    let r = c.rise.ensures in
    let n = c.len-count.ensures in
    let may = last_may s k r n.len c.olds.ensures c.news.ensures c.if-count-eq0.false n.few _ keeps in
    last_moments s k r n.len c.olds.ensures c.news.ensures c.if-count-eq0.false n.few d.moment d.may_hold_after _ _
    n.whole.1 (c.end_with.ensures.any_moment told _ s.records may)
