use Rattle.std.proofs.Common.{◌≡◌, ◌<◌, ◌∙◌, [], false, length, sym, ap, subst, arith}
use Rattle.std.proofs.Common.{Some, true≢false}
use Rattle.sdr_disk.specs.Moments.{AtEach}
use Rattle.sdr_log.specs.Spilled.{GivesEither}
use Rattle.sdr_log.specs.Log.{first_gate}
use Rattle.sdr_image.specs.Changed.{HasChanged}
use Rattle.sdr_image.specs.Lines.{now_of}
use Rattle.sdr_image.specs.Marks.{touched_in}
use Rattle.sdr_image.specs.Opened.{Opened, Rests}
use Rattle.sdr_image.proofs.EndedLemmas.{image_rested, rested_ended, rested_rests, touched_open}
use Rattle.sdr_image.proofs.ImageLemmas.{image_failed}
use Rattle.sdr_image.proofs.image.Image.save.Goals as goal

pub end-requires-clause-regions : goal.end-requires-clause-regions
end-requires-clause-regions g c =
    record { limits = c.self.invariant.limits; inside = c.self.invariant.fits }

pub end-requires-clause-kept : goal.end-requires-clause-kept
end-requires-clause-kept g c =
    c.self.invariant.lines_kept

pub end-requires-clause-stands : goal.end-requires-clause-stands
end-requires-clause-stands g c =
    let d = g.D.Disk in
    let o = c.self.inside in
    let inv = c.self.invariant in
    let sound = ap (λ (v : Opened g.row.D.Denot). v.failed) c.self.view_is ∙ c.requires.sound in
    let x = d.bytes o.disk in
    let some : 0 < length (touched_in o.lines.marks) =
    omega (arith, c.requires.some, ap (λ (v : Opened g.row.D.Denot). length v.touched) c.self.view_is) in
    inv.stands sound

pub end-requires-clause-some : goal.end-requires-clause-some
end-requires-clause-some g c =
    let d = g.D.Disk in
    let o = c.self.inside in
    let inv = c.self.invariant in
    let sound = ap (λ (v : Opened g.row.D.Denot). v.failed) c.self.view_is ∙ c.requires.sound in
    let x = d.bytes o.disk in
    let some : 0 < length (touched_in o.lines.marks) =
    omega (arith, c.requires.some, ap (λ (v : Opened g.row.D.Denot). length v.touched) c.self.view_is) in
    some

pub returns-in_default-clause-rests : goal.returns-in_default-clause-rests
returns-in_default-clause-rests g c sound told =
    absurd (true≢false sound)

pub returns-in_default-clause-any_moment : goal.returns-in_default-clause-any_moment
returns-in_default-clause-any_moment g c rests told =
    let d = g.D.Disk in
    let o = c.self.inside in
    let inv = c.self.invariant in
    let sound = ap (λ (v : Opened g.row.D.Denot). v.failed) c.self.view_is ∙ c.requires.sound in
    let x = d.bytes o.disk in
    let some : 0 < length (touched_in o.lines.marks) =
    omega (arith, c.requires.some, ap (λ (v : Opened g.row.D.Denot). length v.touched) c.self.view_is) in
    let y = d.bytes c.end.new.disk in
    let l = c.end.new.lines in
    subst (λ (v : Opened g.row.D.Denot). AtEach d.moment d.may_hold_after v.disk c.end.new.disk (GivesEither v.begun v.bytes))
    c.self.view_is (c.end.ensures.any_moment (sym (ap (λ (v : Opened g.row.D.Denot). d.tells_crashes v.disk) (sym c.self.view_is)) ∙ told)
    (subst (λ (v : Opened g.row.D.Denot). Rests d.bytes d.tells_crashes d.moment d.may_hold_after v) (sym c.self.view_is) rests sound
    (sym (ap (λ (v : Opened g.row.D.Denot). d.tells_crashes v.disk) (sym c.self.view_is)) ∙ told)))

pub invariant_of-self : goal.invariant_of-self
invariant_of-self g c =
    let d = g.D.Disk in
    let o = c.self.inside in
    let inv = c.self.invariant in
    let sound = ap (λ (v : Opened g.row.D.Denot). v.failed) c.self.view_is ∙ c.requires.sound in
    let x = d.bytes o.disk in
    let some : 0 < length (touched_in o.lines.marks) =
    omega (arith, c.requires.some, ap (λ (v : Opened g.row.D.Denot). length v.touched) c.self.view_is) in
    let y = d.bytes c.end.new.disk in
    let l = c.end.new.lines in
    image_failed o.frame x y o.lines l o.is_open o.failed inv (touched_open o.frame x o.lines o.is_open o.failed inv some)
    c.end.ensures.disk.size c.end.ensures.lines

pub invariant_of-self-2 : goal.invariant_of-self-2
invariant_of-self-2 g c =
    let d = g.D.Disk in
    let o = c.self.inside in
    let inv = c.self.invariant in
    let sound = ap (λ (v : Opened g.row.D.Denot). v.failed) c.self.view_is ∙ c.requires.sound in
    let x = d.bytes o.disk in
    let some : 0 < length (touched_in o.lines.marks) =
    omega (arith, c.requires.some, ap (λ (v : Opened g.row.D.Denot). length v.touched) c.self.view_is) in
    let y = d.bytes c.end.new.disk in
    let l = c.end.new.lines in
    image_rested o.frame x y (now_of o.frame o.lines x) o.lines l o.is_open false o.failed o.failed inv c.end.ensures.disk.size
    c.end.ensures.lines c.in-Ok.ensures.rests

pub returns-clause-ended : goal.returns-clause-ended
returns-clause-ended g c =
    let d = g.D.Disk in
    let o = c.self.inside in
    let inv = c.self.invariant in
    let sound = ap (λ (v : Opened g.row.D.Denot). v.failed) c.self.view_is ∙ c.requires.sound in
    let x = d.bytes o.disk in
    let some : 0 < length (touched_in o.lines.marks) =
    omega (arith, c.requires.some, ap (λ (v : Opened g.row.D.Denot). length v.touched) c.self.view_is) in
    let y = d.bytes c.end.new.disk in
    let l = c.end.new.lines in
    rested_ended d.bytes o.disk c.end.new.disk o.frame (now_of o.frame o.lines x) o.lines l o.is_open o.failed o.restored
    c.in-Ok.ensures.rests
    ∙ ap (λ (v : Opened g.row.D.Denot). record v {
      disk = c.end.new.disk;
      begun = v.bytes;
      touched = [];
      is_open = false;
    }) c.self.view_is

pub returns-clause-rests : goal.returns-clause-rests
returns-clause-rests g c =
    let d = g.D.Disk in
    let o = c.self.inside in
    let inv = c.self.invariant in
    let sound = ap (λ (v : Opened g.row.D.Denot). v.failed) c.self.view_is ∙ c.requires.sound in
    let x = d.bytes o.disk in
    let some : 0 < length (touched_in o.lines.marks) =
    omega (arith, c.requires.some, ap (λ (v : Opened g.row.D.Denot). length v.touched) c.self.view_is) in
    let y = d.bytes c.end.new.disk in
    let l = c.end.new.lines in
    rested_rests d.bytes d.tells_crashes d.moment d.may_hold_after c.end.new.disk o.frame (now_of o.frame o.lines x) l false
    o.failed o.restored c.in-Ok.ensures.rests c.in-Ok.ensures.synced

pub returns-clause-saved : goal.returns-clause-saved
returns-clause-saved g c =
    let d = g.D.Disk in
    let o = c.self.inside in
    let inv = c.self.invariant in
    let sound = ap (λ (v : Opened g.row.D.Denot). v.failed) c.self.view_is ∙ c.requires.sound in
    let x = d.bytes o.disk in
    let some : 0 < length (touched_in o.lines.marks) =
    omega (arith, c.requires.some, ap (λ (v : Opened g.row.D.Denot). length v.touched) c.self.view_is) in
    let y = d.bytes c.end.new.disk in
    let l = c.end.new.lines in
    let written = subst (λ (v : Opened g.row.D.Denot). first_gate (d.bytes v.disk) ≡ 0 →
    HasChanged v.frame v.begun v.bytes v.touched (d.bytes v.disk) y) c.self.view_is c.in-Ok.ensures.written in
    record {
      written = λ gate touched. written gate;
      back = c.in-Ok.ensures.rests.stands.may.keeps.gives ∙ ap (λ (v : Opened g.row.D.Denot). Some v.bytes) c.self.view_is;
      rests = λ touched.
          rested_rests d.bytes d.tells_crashes d.moment d.may_hold_after c.end.new.disk o.frame (now_of o.frame o.lines x) l
          false o.failed o.restored c.in-Ok.ensures.rests c.in-Ok.ensures.synced;
    }

pub returns-clause-any_moment : goal.returns-clause-any_moment
returns-clause-any_moment g c rests told =
    let d = g.D.Disk in
    let o = c.self.inside in
    let inv = c.self.invariant in
    let sound = ap (λ (v : Opened g.row.D.Denot). v.failed) c.self.view_is ∙ c.requires.sound in
    let x = d.bytes o.disk in
    let some : 0 < length (touched_in o.lines.marks) =
    omega (arith, c.requires.some, ap (λ (v : Opened g.row.D.Denot). length v.touched) c.self.view_is) in
    let y = d.bytes c.end.new.disk in
    let l = c.end.new.lines in
    subst (λ (v : Opened g.row.D.Denot). AtEach d.moment d.may_hold_after v.disk c.end.new.disk (GivesEither v.begun v.bytes))
    c.self.view_is (c.end.ensures.any_moment (sym (ap (λ (v : Opened g.row.D.Denot). d.tells_crashes v.disk) (sym c.self.view_is)) ∙ told)
    (subst (λ (v : Opened g.row.D.Denot). Rests d.bytes d.tells_crashes d.moment d.may_hold_after v) (sym c.self.view_is) rests sound
    (sym (ap (λ (v : Opened g.row.D.Denot). d.tells_crashes v.disk) (sym c.self.view_is)) ∙ told)))
