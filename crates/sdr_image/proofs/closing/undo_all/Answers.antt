use Rattle.std.proofs.Common.{arith}
use Rattle.sdr_disk.proofs.RangesLemmas.{Agrees-refl}
use Rattle.sdr_image.specs.Lines.{begun_of}
use Rattle.sdr_image.proofs.RestedLemmas.{positive, same_begun, undo_open, undone_ends, unlogged, unlogged_left, unmoved_begun}
use Rattle.sdr_image.proofs.StandsLemmas.{stands_logs}
use Rattle.sdr_image.proofs.closing.undo_all.Goals as goal

pub returns-then-lines-eq0-clause-ends : goal.returns-then-lines-eq0-clause-ends
returns-then-lines-eq0-clause-ends g c =
    let d = g.D.Disk in
    let a = c.args in
    let f = a.frame in
    let o = a.lines.now in
    let x = d.bytes a.disk.now in
    let begun = begun_of x in
    let s = c.requires.stands in
    let k = c.requires.kept in
    unlogged f begun o x s k c.if-lines-eq0.true

pub returns-then-lines-eq0-clause-rests : goal.returns-then-lines-eq0-clause-rests
returns-then-lines-eq0-clause-rests g c told keeps =
    let d = g.D.Disk in
    let a = c.args in
    let f = a.frame in
    let o = a.lines.now in
    let x = d.bytes a.disk.now in
    let begun = begun_of x in
    let s = c.requires.stands in
    let k = c.requires.kept in
    unlogged_left f begun o x s k c.if-lines-eq0.true _ keeps

pub returns-then-lines-eq0-clause-inside : goal.returns-then-lines-eq0-clause-inside
returns-then-lines-eq0-clause-inside g c =
    Agrees-refl _ _

pub returns-then-lines-eq0-clause-any_moment : goal.returns-then-lines-eq0-clause-any_moment
returns-then-lines-eq0-clause-any_moment g c told keeps =
    let d = g.D.Disk in
    let a = c.args in
    let f = a.frame in
    let o = a.lines.now in
    let x = d.bytes a.disk.now in
    let begun = begun_of x in
    let s = c.requires.stands in
    let k = c.requires.kept in
    unmoved_begun f begun o x s k d.moment d.may_hold_after a.disk.now keeps

pub undo-requires-clause-batches : goal.undo-requires-clause-batches
undo-requires-clause-batches g c =
    let d = g.D.Disk in
    let a = c.args in
    let f = a.frame in
    let o = a.lines.now in
    let x = d.bytes a.disk.now in
    let begun = begun_of x in
    let s = c.requires.stands in
    let k = c.requires.kept in
    undo_open f begun o x s k (positive o.logged c.if-lines-eq0.false)

pub returns-in_err-undo-clause-same : goal.returns-in_err-undo-clause-same
returns-in_err-undo-clause-same g c none =
    absurd (c.if-lines-eq0.false none)

pub returns-in_err-undo-clause-calls : goal.returns-in_err-undo-clause-calls
returns-in_err-undo-clause-calls g c =
    let d = g.D.Disk in
    let a = c.args in
    let f = a.frame in
    let o = a.lines.now in
    let x = d.bytes a.disk.now in
    let begun = begun_of x in
    let s = c.requires.stands in
    let k = c.requires.kept in
    omega (arith, c.undo.ensures.calls s.records (stands_logs f begun o x s), s.many)

pub returns-in_err-undo-clause-any_moment : goal.returns-in_err-undo-clause-any_moment
returns-in_err-undo-clause-any_moment g c told keeps =
    let d = g.D.Disk in
    let a = c.args in
    let f = a.frame in
    let o = a.lines.now in
    let x = d.bytes a.disk.now in
    let begun = begun_of x in
    let s = c.requires.stands in
    let k = c.requires.kept in
    same_begun f begun o x s k d.moment d.may_hold_after a.disk.now c.undo.new.disk (c.undo.ensures.any_moment told keeps.keeps.logged)

pub returns-clause-ends : goal.returns-clause-ends
returns-clause-ends g c =
    let d = g.D.Disk in
    let a = c.args in
    let f = a.frame in
    let o = a.lines.now in
    let x = d.bytes a.disk.now in
    let begun = begun_of x in
    let s = c.requires.stands in
    let k = c.requires.kept in
    undone_ends f begun o x s k (d.bytes c.undo.new.disk) c.in_ok-undo.ensures.back

pub returns-clause-rests : goal.returns-clause-rests
returns-clause-rests g c told keeps =
    let d = g.D.Disk in
    let a = c.args in
    let f = a.frame in
    let o = a.lines.now in
    let x = d.bytes a.disk.now in
    let begun = begun_of x in
    let s = c.requires.stands in
    let k = c.requires.kept in
    let e = undone_ends f begun o x s k (d.bytes c.undo.new.disk) c.in_ok-undo.ensures.back in
    record { rest = c.in_ok-undo.ensures.rest told keeps.keeps.logged; heap = e.heap }

pub returns-clause-same : goal.returns-clause-same
returns-clause-same g c none =
    absurd (c.if-lines-eq0.false none)

pub returns-clause-calls : goal.returns-clause-calls
returns-clause-calls g c =
    let d = g.D.Disk in
    let a = c.args in
    let f = a.frame in
    let o = a.lines.now in
    let x = d.bytes a.disk.now in
    let begun = begun_of x in
    let s = c.requires.stands in
    let k = c.requires.kept in
    omega (arith, c.undo.ensures.calls s.records (stands_logs f begun o x s), s.many)

pub returns-clause-any_moment : goal.returns-clause-any_moment
returns-clause-any_moment g c told keeps =
    let d = g.D.Disk in
    let a = c.args in
    let f = a.frame in
    let o = a.lines.now in
    let x = d.bytes a.disk.now in
    let begun = begun_of x in
    let s = c.requires.stands in
    let k = c.requires.kept in
    same_begun f begun o x s k d.moment d.may_hold_after a.disk.now c.undo.new.disk (c.undo.ensures.any_moment told keeps.keeps.logged)
