use Rattle.std.proofs.Common.{◌∙◌, ◌+◌, ◌*◌, ◌∷◌, [], ℕ, Bool, true, false, not, List, length, refl, sym, ap, subst, arith}
use Rattle.std.specs.Prelude.{IsPermutation}
use Rattle.sdr_base.specs.Cells.{is_among, with_lines}
use Rattle.sdr_base.specs.Parts.{overwrite}
use Rattle.sdr_log.specs.Frame.{room_of}
use Rattle.sdr_image.specs.Lines.{begun_of}
use Rattle.sdr_image.specs.Marks.{touched_in}
use Rattle.sdr_image.specs.Opened.{IsImage, IsQuiet, Opened, image_of}
use Rattle.sdr_image.proofs.ImageLemmas.{image_failed, image_stepped, now_long, quiet_failed, quiet_stepped}
use Rattle.sdr_image.proofs.MarksLemmas.{is_among-line}
use Rattle.sdr_image.proofs.image.Image.put.Goals as goal

pub write_line-requires-clause-regions : goal.write_line-requires-clause-regions
write_line-requires-clause-regions g c =
    record { limits = c.self.invariant.limits; inside = c.self.invariant.fits }

pub write_line-requires-clause-below : goal.write_line-requires-clause-below
write_line-requires-clause-below g c =
    omega (arith, c.requires.below, ap (λ (v : Opened g.row.D.Denot). v.frame.heap_lines) c.self.view_is)

pub write_line-requires-clause-kept : goal.write_line-requires-clause-kept
write_line-requires-clause-kept g c =
    c.self.invariant.lines_kept

pub write_line-requires-clause-stands : goal.write_line-requires-clause-stands
write_line-requires-clause-stands g c =
    let d = g.D.Disk in
    let o = c.self.inside in
    let inv = c.self.invariant in
    let sound = ap (λ (v : Opened g.row.D.Denot). v.failed) c.self.view_is ∙ c.requires.sound in
    let x = d.bytes o.disk in
    inv.stands sound

pub write_line-requires-clause-room : goal.write_line-requires-clause-room
write_line-requires-clause-room g c clean =
    let d = g.D.Disk in
    let o = c.self.inside in
    let inv = c.self.invariant in
    let sound = ap (λ (v : Opened g.row.D.Denot). v.failed) c.self.view_is ∙ c.requires.sound in
    let x = d.bytes o.disk in
    let touched = ap (λ (v : Opened g.row.D.Denot). v.touched) c.self.view_is in
    let room = c.requires.room (ap (λ (t : List ℕ). is_among t c.args.line) (sym touched)
    ∙ is_among-line o.lines.marks c.args.line ∙ ap not clean) in
    omega (arith, room, ap length touched, ap (λ (v : Opened g.row.D.Denot). room_of v.frame) c.self.view_is)

pub returns-in_default-clause-quiet : goal.returns-in_default-clause-quiet
returns-in_default-clause-quiet g c =
    let d = g.D.Disk in
    let o = c.self.inside in
    let inv = c.self.invariant in
    let sound = ap (λ (v : Opened g.row.D.Denot). v.failed) c.self.view_is ∙ c.requires.sound in
    let x = d.bytes o.disk in
    let y = d.bytes c.write_line.new.disk in
    let l = c.write_line.new.lines in
    let steps = c.write_line.ensures.steps in
    subst (λ (v : Opened g.row.D.Denot). IsQuiet d.bytes d.tells_crashes d.moment d.may_hold_after v
    (image_of d.bytes c.write_line.new.disk o.frame l o.is_open true o.restored))
    ((λ i. image_of d.bytes o.disk o.frame o.lines o.is_open (sym sound i) o.restored) ∙ c.self.view_is)
    (quiet_failed d.bytes d.tells_crashes d.moment d.may_hold_after o.frame o.disk c.write_line.new.disk o.lines l o.is_open
    o.restored steps)

pub returns-in_default-clause-size : goal.returns-in_default-clause-size
returns-in_default-clause-size g c =
    let d = g.D.Disk in
    let o = c.self.inside in
    let inv = c.self.invariant in
    let sound = ap (λ (v : Opened g.row.D.Denot). v.failed) c.self.view_is ∙ c.requires.sound in
    let x = d.bytes o.disk in
    let y = d.bytes c.write_line.new.disk in
    let l = c.write_line.new.lines in
    let steps = c.write_line.ensures.steps in
    let before = now_long o.frame o.lines x inv.lines_kept inv.fits in
    let after = now_long o.frame l y steps.lines (omega (arith, steps.keeps.size, inv.fits)) in
    after ∙ sym before ∙ ap (λ (v : Opened g.row.D.Denot). length v.bytes) c.self.view_is

pub returns-in_default-clause-some : goal.returns-in_default-clause-some
returns-in_default-clause-some g c =
    let d = g.D.Disk in
    let o = c.self.inside in
    let inv = c.self.invariant in
    let sound = ap (λ (v : Opened g.row.D.Denot). v.failed) c.self.view_is ∙ c.requires.sound in
    let x = d.bytes o.disk in
    let y = d.bytes c.write_line.new.disk in
    let l = c.write_line.new.lines in
    let steps = c.write_line.ensures.steps in
    let touched = ap (λ (v : Opened g.row.D.Denot). length v.touched) c.self.view_is in
    record {
      kept = omega (arith, touched, steps.kept);
      few = omega (arith, touched, c.write_line.ensures.few);
    }

pub invariant_of-self-in_default : goal.invariant_of-self-in_default
invariant_of-self-in_default g c =
    let d = g.D.Disk in
    let o = c.self.inside in
    let inv = c.self.invariant in
    let sound = ap (λ (v : Opened g.row.D.Denot). v.failed) c.self.view_is ∙ c.requires.sound in
    let x = d.bytes o.disk in
    let y = d.bytes c.write_line.new.disk in
    let l = c.write_line.new.lines in
    let steps = c.write_line.ensures.steps in
    let open_now = ap (λ (v : Opened g.row.D.Denot). v.is_open) c.self.view_is ∙ c.requires.opened in
    image_failed o.frame x y o.lines l o.is_open o.failed inv open_now steps.keeps.size steps.lines

pub invariant_of-self : goal.invariant_of-self
invariant_of-self g c =
    let d = g.D.Disk in
    let o = c.self.inside in
    let inv = c.self.invariant in
    let sound = ap (λ (v : Opened g.row.D.Denot). v.failed) c.self.view_is ∙ c.requires.sound in
    let x = d.bytes o.disk in
    let y = d.bytes c.write_line.new.disk in
    let l = c.write_line.new.lines in
    let steps = c.write_line.ensures.steps in
    let open_now = ap (λ (v : Opened g.row.D.Denot). v.is_open) c.self.view_is ∙ c.requires.opened in
    let was : IsImage x o.frame o.lines true false =
    subst (λ (b : Bool). IsImage x o.frame o.lines b false) open_now
    (subst (λ (b : Bool). IsImage x o.frame o.lines o.is_open b) sound inv) in
    let leaves = c.in-Ok.ensures.leaves in
    subst (λ (b : Bool). IsImage y o.frame l b o.failed) (sym open_now)
    (subst (λ (b : Bool). IsImage y o.frame l true b) (sym sound)
    (image_stepped o.frame x y (begun_of x) o.lines l was steps.keeps.size steps.lines refl leaves.stands))

pub returns-clause-written : goal.returns-clause-written
returns-clause-written g c =
    let d = g.D.Disk in
    let o = c.self.inside in
    let inv = c.self.invariant in
    let sound = ap (λ (v : Opened g.row.D.Denot). v.failed) c.self.view_is ∙ c.requires.sound in
    let x = d.bytes o.disk in
    let y = d.bytes c.write_line.new.disk in
    let l = c.write_line.new.lines in
    let steps = c.write_line.ensures.steps in
    c.in-Ok.ensures.leaves.bytes_now
    ∙ ap (λ (v : Opened g.row.D.Denot). overwrite (64 * c.args.line + c.args.at) c.args.from.now v.bytes) c.self.view_is

pub returns-clause-touched : goal.returns-clause-touched
returns-clause-touched g c =
    let d = g.D.Disk in
    let o = c.self.inside in
    let inv = c.self.invariant in
    let sound = ap (λ (v : Opened g.row.D.Denot). v.failed) c.self.view_is ∙ c.requires.sound in
    let x = d.bytes o.disk in
    let y = d.bytes c.write_line.new.disk in
    let l = c.write_line.new.lines in
    let steps = c.write_line.ensures.steps in
    subst (λ (v : Opened g.row.D.Denot). IsPermutation (with_lines v.touched (c.args.line ∷ [])) (touched_in l.marks))
    c.self.view_is c.in-Ok.ensures.touched

pub returns-clause-size : goal.returns-clause-size
returns-clause-size g c =
    let d = g.D.Disk in
    let o = c.self.inside in
    let inv = c.self.invariant in
    let sound = ap (λ (v : Opened g.row.D.Denot). v.failed) c.self.view_is ∙ c.requires.sound in
    let x = d.bytes o.disk in
    let y = d.bytes c.write_line.new.disk in
    let l = c.write_line.new.lines in
    let steps = c.write_line.ensures.steps in
    let before = now_long o.frame o.lines x inv.lines_kept inv.fits in
    let after = now_long o.frame l y steps.lines (omega (arith, steps.keeps.size, inv.fits)) in
    after ∙ sym before ∙ ap (λ (v : Opened g.row.D.Denot). length v.bytes) c.self.view_is

pub returns-clause-some : goal.returns-clause-some
returns-clause-some g c =
    let d = g.D.Disk in
    let o = c.self.inside in
    let inv = c.self.invariant in
    let sound = ap (λ (v : Opened g.row.D.Denot). v.failed) c.self.view_is ∙ c.requires.sound in
    let x = d.bytes o.disk in
    let y = d.bytes c.write_line.new.disk in
    let l = c.write_line.new.lines in
    let steps = c.write_line.ensures.steps in
    let touched = ap (λ (v : Opened g.row.D.Denot). length v.touched) c.self.view_is in
    record {
      kept = omega (arith, touched, steps.kept);
      few = omega (arith, touched, c.write_line.ensures.few);
    }

pub returns-clause-quiet : goal.returns-clause-quiet
returns-clause-quiet g c =
    let d = g.D.Disk in
    let o = c.self.inside in
    let inv = c.self.invariant in
    let sound = ap (λ (v : Opened g.row.D.Denot). v.failed) c.self.view_is ∙ c.requires.sound in
    let x = d.bytes o.disk in
    let y = d.bytes c.write_line.new.disk in
    let l = c.write_line.new.lines in
    let steps = c.write_line.ensures.steps in
    subst (λ (b : Bool). IsQuiet d.bytes d.tells_crashes d.moment d.may_hold_after c.args.self.now
    (image_of d.bytes c.write_line.new.disk o.frame l o.is_open b o.restored)) (sym sound)
    (subst (λ (v : Opened g.row.D.Denot). IsQuiet d.bytes d.tells_crashes d.moment d.may_hold_after v
    (image_of d.bytes c.write_line.new.disk o.frame l o.is_open false o.restored))
    ((λ i. image_of d.bytes o.disk o.frame o.lines o.is_open (sym sound i) o.restored) ∙ c.self.view_is)
    (quiet_stepped d.bytes d.tells_crashes d.moment d.may_hold_after o.frame o.disk c.write_line.new.disk o.lines l o.is_open
    o.restored steps _ c.in-Ok.ensures.leaves))
