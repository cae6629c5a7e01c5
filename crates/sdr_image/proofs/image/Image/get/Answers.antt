use Rattle.std.proofs.Common.{◌∙◌, ◌+◌, ◌*◌, ap, subst, arith, Bool, true, false, length}
use Rattle.sdr_base.specs.Parts.{part}
use Rattle.sdr_image.specs.Opened.{IsImage, Opened}
use Rattle.sdr_image.proofs.ImageLemmas.{image_read, read_ended}
use Rattle.sdr_image.proofs.image.Image.get.Goals as goal

pub copy_now-requires-clause-regions : goal.copy_now-requires-clause-regions
copy_now-requires-clause-regions g c = record { limits = c.self.invariant.limits; inside = c.self.invariant.fits }

pub copy_now-requires-clause-below : goal.copy_now-requires-clause-below
copy_now-requires-clause-below g c =
    omega (arith, c.requires.below, ap (λ (v : Opened g.row.D.Denot). v.frame.heap_lines) c.self.view_is)

pub copy_now-requires-clause-kept : goal.copy_now-requires-clause-kept
copy_now-requires-clause-kept g c = c.self.invariant.lines_kept

pub copy_now-requires-clause-stands : goal.copy_now-requires-clause-stands
copy_now-requires-clause-stands g c =
    c.self.invariant.stands (ap (λ (v : Opened g.row.D.Denot). v.failed) c.self.view_is ∙ c.requires.sound)

pub invariant_of-self-in_default : goal.invariant_of-self-in_default
invariant_of-self-in_default g c =
    let d = g.D.Disk in
    let o = c.self.inside in
    let sound = ap (λ (v : Opened g.row.D.Denot). v.failed) c.self.view_is ∙ c.requires.sound in
    let x = d.bytes o.disk in
    let y = d.bytes c.copy_now.new.disk in
    let l = c.copy_now.new.lines in
    let e = c.copy_now.ensures in
    let was : IsImage x o.frame o.lines o.is_open false =
    subst (λ (b : Bool). IsImage x o.frame o.lines o.is_open b) sound c.self.invariant in
    image_read o.frame x y o.lines l o.is_open true was e.reads.same e.same e.clean

pub returns-in_default-clause-failed : goal.returns-in_default-clause-failed
returns-in_default-clause-failed g c =
    let d = g.D.Disk in
    let o = c.self.inside in
    let sound = ap (λ (v : Opened g.row.D.Denot). v.failed) c.self.view_is ∙ c.requires.sound in
    let x = d.bytes o.disk in
    let y = d.bytes c.copy_now.new.disk in
    let l = c.copy_now.new.lines in
    let e = c.copy_now.ensures in
    let was : IsImage x o.frame o.lines o.is_open false =
    subst (λ (b : Bool). IsImage x o.frame o.lines o.is_open b) sound c.self.invariant in
    read_ended d.bytes o.disk c.copy_now.new.disk o.frame o.lines l o.is_open o.failed true o.restored e.reads.same e.same
    ∙ ap (λ (v : Opened g.row.D.Denot). record v { disk = c.copy_now.new.disk; failed = true }) c.self.view_is

pub invariant_of-self : goal.invariant_of-self
invariant_of-self g c =
    let d = g.D.Disk in
    let o = c.self.inside in
    let sound = ap (λ (v : Opened g.row.D.Denot). v.failed) c.self.view_is ∙ c.requires.sound in
    let x = d.bytes o.disk in
    let y = d.bytes c.copy_now.new.disk in
    let l = c.copy_now.new.lines in
    let e = c.copy_now.ensures in
    let was : IsImage x o.frame o.lines o.is_open false =
    subst (λ (b : Bool). IsImage x o.frame o.lines o.is_open b) sound c.self.invariant in
    image_read o.frame x y o.lines l o.is_open o.failed was e.reads.same e.same e.clean

pub returns-clause-given : goal.returns-clause-given
returns-clause-given g c =
    let n = length c.args.into.now in
    c.in-Ok.ensures.given
    ∙ ap (λ (v : Opened g.row.D.Denot). part (64 * c.args.line + c.args.at) n v.bytes) c.self.view_is

pub returns-clause-same : goal.returns-clause-same
returns-clause-same g c =
    let d = g.D.Disk in
    let o = c.self.inside in
    let sound = ap (λ (v : Opened g.row.D.Denot). v.failed) c.self.view_is ∙ c.requires.sound in
    let x = d.bytes o.disk in
    let y = d.bytes c.copy_now.new.disk in
    let l = c.copy_now.new.lines in
    let e = c.copy_now.ensures in
    let was : IsImage x o.frame o.lines o.is_open false =
    subst (λ (b : Bool). IsImage x o.frame o.lines o.is_open b) sound c.self.invariant in
    read_ended d.bytes o.disk c.copy_now.new.disk o.frame o.lines l o.is_open o.failed o.failed o.restored e.reads.same e.same
    ∙ ap (λ (v : Opened g.row.D.Denot). record v { disk = c.copy_now.new.disk }) c.self.view_is
