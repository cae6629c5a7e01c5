use Rattle.std.proofs.Common.{◌≤◌, ◌<◌, ◌∙◌, ◌+◌, ◌*◌, [], ℕ, false, List, length, refl, sym, ap, subst, arith}
use Rattle.std.proofs.Common.{true≢false}
use Rattle.sdr_disk.specs.Moments.{AtEach}
use Rattle.sdr_log.specs.Log.{first_gate}
use Rattle.sdr_log.specs.Logged.{GivesHeap}
use Rattle.sdr_image.specs.Lines.{Keeps, begun_of}
use Rattle.sdr_image.specs.Marks.{touched_in}
use Rattle.sdr_image.specs.Opened.{Opened, Rests}
use Rattle.sdr_image.specs.Saved.{calls_of}
use Rattle.sdr_image.proofs.EndedLemmas.{calls_of-lines, image_rested, rested_ended, touched_open}
use Rattle.sdr_image.proofs.ImageLemmas.{image_failed}
use Rattle.sdr_image.proofs.RestedLemmas.{closed_none}
use Rattle.sdr_image.proofs.StandsLemmas.{stands_begun}
use Rattle.sdr_image.proofs.image.Image.cancel.Goals as goal

pub take_back-requires-clause-regions : goal.take_back-requires-clause-regions
take_back-requires-clause-regions g c =
    record { limits = c.self.invariant.limits; inside = c.self.invariant.fits }

pub take_back-requires-clause-kept : goal.take_back-requires-clause-kept
take_back-requires-clause-kept g c =
    c.self.invariant.lines_kept

pub take_back-requires-clause-stands : goal.take_back-requires-clause-stands
take_back-requires-clause-stands g c =
    let d = g.D.Disk in
    let o = c.self.inside in
    let f = o.frame in
    let inv = c.self.invariant in
    let x = d.bytes o.disk in
    let s = inv.stands c.if-self.false in
    s

pub returns-in_default-clause-rests : goal.returns-in_default-clause-rests
returns-in_default-clause-rests g c rests sound told =
    absurd (true≢false sound)

pub returns-in_default-clause-stays : goal.returns-in_default-clause-stays
returns-in_default-clause-stays g c =
    let d = g.D.Disk in
    let o = c.self.inside in
    let f = o.frame in
    let inv = c.self.invariant in
    let x = d.bytes o.disk in
    let s = inv.stands c.if-self.false in
    record {
      frame = ap (λ (v : Opened g.row.D.Denot). v.frame) c.self.view_is;
      restored = ap (λ (v : Opened g.row.D.Denot). v.restored) c.self.view_is;
      still_open = λ was. ap (λ (v : Opened g.row.D.Denot). v.is_open) c.self.view_is ∙ was;
      failed = refl;
    }

pub returns-in_default-clause-any_moment : goal.returns-in_default-clause-any_moment
returns-in_default-clause-any_moment g c sound rests told =
    let d = g.D.Disk in
    let o = c.self.inside in
    let f = o.frame in
    let inv = c.self.invariant in
    let x = d.bytes o.disk in
    let s = inv.stands c.if-self.false in
    let y = d.bytes c.take_back.new.disk in
    let l = c.take_back.new.lines in
    let e = c.take_back.ensures in
    let told' = ap (λ (v : Opened g.row.D.Denot). d.tells_crashes v.disk) c.self.view_is ∙ told in
    subst (λ (v : Opened g.row.D.Denot). AtEach d.moment d.may_hold_after v.disk c.take_back.new.disk (GivesHeap v.begun))
    c.self.view_is (e.any_moment told'
    (subst (λ (v : Opened g.row.D.Denot). Rests d.bytes d.tells_crashes d.moment d.may_hold_after v) (sym c.self.view_is) rests
    c.if-self.false told'))

pub returns-in_default-clause-same : goal.returns-in_default-clause-same
returns-in_default-clause-same g c gate =
    let d = g.D.Disk in
    let o = c.self.inside in
    let f = o.frame in
    let inv = c.self.invariant in
    let x = d.bytes o.disk in
    let s = inv.stands c.if-self.false in
    let y = d.bytes c.take_back.new.disk in
    let l = c.take_back.new.lines in
    let e = c.take_back.ensures in
    let shut = ap (λ (v : Opened g.row.D.Denot). first_gate (d.bytes v.disk)) c.self.view_is ∙ gate in
    e.same (closed_none f (begun_of x) o.lines x s inv.lines_kept shut)
    ∙ ap (λ (v : Opened g.row.D.Denot). v.disk) c.self.view_is

pub returns-in_default-clause-calls : goal.returns-in_default-clause-calls
returns-in_default-clause-calls g c =
    let d = g.D.Disk in
    let o = c.self.inside in
    let f = o.frame in
    let inv = c.self.invariant in
    let x = d.bytes o.disk in
    let s = inv.stands c.if-self.false in
    let y = d.bytes c.take_back.new.disk in
    let l = c.take_back.new.lines in
    let e = c.take_back.ensures in
    subst (λ (v : Opened g.row.D.Denot). d.moment c.take_back.new.disk ≤ d.moment v.disk + 2 * calls_of (length v.touched))
    c.self.view_is
    (calls_of-lines d.moment o.disk c.take_back.new.disk o.lines.logged (length (touched_in o.lines.marks))
    (omega (arith, inv.lines_kept.counted)) e.same e.calls)

pub invariant_of-self : goal.invariant_of-self
invariant_of-self g c =
    let d = g.D.Disk in
    let o = c.self.inside in
    let f = o.frame in
    let inv = c.self.invariant in
    let x = d.bytes o.disk in
    let s = inv.stands c.if-self.false in
    let y = d.bytes c.take_back.new.disk in
    let l = c.take_back.new.lines in
    let e = c.take_back.ensures in
    let some : 0 < length (touched_in o.lines.marks) = omega (arith, inv.lines_kept.counted, c.in_default.ensures.some) in
    image_failed f x y o.lines l o.is_open o.failed inv (touched_open f x o.lines o.is_open o.failed inv some) e.disk.size e.lines

pub invariant_of-self-2 : goal.invariant_of-self-2
invariant_of-self-2 g c =
    let d = g.D.Disk in
    let o = c.self.inside in
    let f = o.frame in
    let inv = c.self.invariant in
    let x = d.bytes o.disk in
    let s = inv.stands c.if-self.false in
    let y = d.bytes c.take_back.new.disk in
    let l = c.take_back.new.lines in
    let e = c.take_back.ensures in
    image_rested f x y (begun_of x) o.lines l o.is_open false o.failed o.failed inv e.disk.size e.lines c.in-Ok.ensures.rests

pub returns-clause-ended : goal.returns-clause-ended
returns-clause-ended g c =
    let d = g.D.Disk in
    let o = c.self.inside in
    let f = o.frame in
    let inv = c.self.invariant in
    let x = d.bytes o.disk in
    let s = inv.stands c.if-self.false in
    let y = d.bytes c.take_back.new.disk in
    let l = c.take_back.new.lines in
    let e = c.take_back.ensures in
    rested_ended d.bytes o.disk c.take_back.new.disk f (begun_of x) o.lines l o.is_open o.failed o.restored c.in-Ok.ensures.rests
    ∙ ap (λ (v : Opened g.row.D.Denot). record v {
      disk = c.take_back.new.disk;
      bytes = v.begun;
      touched = [];
      is_open = false;
    }) c.self.view_is

pub returns-clause-back : goal.returns-clause-back
returns-clause-back g c =
    let d = g.D.Disk in
    let o = c.self.inside in
    let f = o.frame in
    let inv = c.self.invariant in
    let x = d.bytes o.disk in
    let s = inv.stands c.if-self.false in
    let y = d.bytes c.take_back.new.disk in
    let l = c.take_back.new.lines in
    let e = c.take_back.ensures in
    subst (λ (heap : List ℕ). GivesHeap heap y) (ap (λ (v : Opened g.row.D.Denot). v.begun) c.self.view_is)
    c.in-Ok.ensures.rests.stands.may.keeps.gives

pub returns-clause-rests : goal.returns-clause-rests
returns-clause-rests g c rests sound told =
    let d = g.D.Disk in
    let o = c.self.inside in
    let f = o.frame in
    let inv = c.self.invariant in
    let x = d.bytes o.disk in
    let s = inv.stands c.if-self.false in
    let y = d.bytes c.take_back.new.disk in
    let l = c.take_back.new.lines in
    let e = c.take_back.ensures in
    let told' = sym e.disk.tells ∙ told in
    let old = subst (λ (v : Opened g.row.D.Denot). Rests d.bytes d.tells_crashes d.moment d.may_hold_after v)
    (sym c.self.view_is) rests c.if-self.false told' in
    subst (λ (b : List ℕ). Keeps f b y (d.may_hold_after c.take_back.new.disk (d.moment c.take_back.new.disk)))
    (sym (stands_begun f (begun_of x) l y c.in-Ok.ensures.rests.stands)) (c.in-Ok.ensures.kept told' old)

pub returns-clause-any_moment : goal.returns-clause-any_moment
returns-clause-any_moment g c sound rests told =
    let d = g.D.Disk in
    let o = c.self.inside in
    let f = o.frame in
    let inv = c.self.invariant in
    let x = d.bytes o.disk in
    let s = inv.stands c.if-self.false in
    let y = d.bytes c.take_back.new.disk in
    let l = c.take_back.new.lines in
    let e = c.take_back.ensures in
    let told' = ap (λ (v : Opened g.row.D.Denot). d.tells_crashes v.disk) c.self.view_is ∙ told in
    subst (λ (v : Opened g.row.D.Denot). AtEach d.moment d.may_hold_after v.disk c.take_back.new.disk (GivesHeap v.begun))
    c.self.view_is (e.any_moment told'
    (subst (λ (v : Opened g.row.D.Denot). Rests d.bytes d.tells_crashes d.moment d.may_hold_after v) (sym c.self.view_is) rests
    c.if-self.false told'))

pub returns-clause-same : goal.returns-clause-same
returns-clause-same g c gate =
    let d = g.D.Disk in
    let o = c.self.inside in
    let f = o.frame in
    let inv = c.self.invariant in
    let x = d.bytes o.disk in
    let s = inv.stands c.if-self.false in
    let y = d.bytes c.take_back.new.disk in
    let l = c.take_back.new.lines in
    let e = c.take_back.ensures in
    let shut = ap (λ (v : Opened g.row.D.Denot). first_gate (d.bytes v.disk)) c.self.view_is ∙ gate in
    e.same (closed_none f (begun_of x) o.lines x s inv.lines_kept shut)
    ∙ ap (λ (v : Opened g.row.D.Denot). v.disk) c.self.view_is

pub returns-clause-calls : goal.returns-clause-calls
returns-clause-calls g c =
    let d = g.D.Disk in
    let o = c.self.inside in
    let f = o.frame in
    let inv = c.self.invariant in
    let x = d.bytes o.disk in
    let s = inv.stands c.if-self.false in
    let y = d.bytes c.take_back.new.disk in
    let l = c.take_back.new.lines in
    let e = c.take_back.ensures in
    subst (λ (v : Opened g.row.D.Denot). d.moment c.take_back.new.disk ≤ d.moment v.disk + 2 * calls_of (length v.touched))
    c.self.view_is
    (calls_of-lines d.moment o.disk c.take_back.new.disk o.lines.logged (length (touched_in o.lines.marks))
    (omega (arith, inv.lines_kept.counted)) e.same e.calls)

pub returns-in_default-clause-idle : goal.returns-in_default-clause-idle
returns-in_default-clause-idle g c none =
    let touched = ap (λ (v : Opened g.row.D.Denot). length v.touched) c.self.view_is in
    c.take_back.ensures.same (omega (arith, c.self.invariant.lines_kept.counted, touched, ap length none))
    ∙ ap (λ (v : Opened g.row.D.Denot). v.disk) c.self.view_is

pub returns-in_default-clause-some : goal.returns-in_default-clause-some
returns-in_default-clause-some g c is =
    omega (
      arith,
      c.self.invariant.lines_kept.counted,
      c.in_default.ensures.some,
      ap (λ (v : Opened g.row.D.Denot). length v.touched) c.self.view_is,
    )

pub returns-clause-idle : goal.returns-clause-idle
returns-clause-idle g c none =
    let touched = ap (λ (v : Opened g.row.D.Denot). length v.touched) c.self.view_is in
    c.take_back.ensures.same (omega (arith, c.self.invariant.lines_kept.counted, touched, ap length none))
    ∙ ap (λ (v : Opened g.row.D.Denot). v.disk) c.self.view_is
