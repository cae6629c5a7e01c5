use Rattle.std.proofs.Common.{◌≡◌, ◌∙◌, ◌+◌, ◌*◌, ◌/◌, ◌%◌, ℕ, length, ap, arith}
use Rattle.sdr_base.specs.Parts.{part}
use Rattle.sdr_image.specs.Opened.{Opened}
use Rattle.sdr_image.specs.QuietLaws.{quiet_read}
use Rattle.sdr_image.proofs.image.Image.get_one.Goals as goal

pub returns-in_err-get-clause-quiet : goal.returns-in_err-get-clause-quiet
returns-in_err-get-clause-quiet g c =
    let d = g.D.Disk in
    let same = c.in_err-get.ensures.failed in
    quiet_read d.bytes d.tells_crashes d.moment d.may_hold_after c.args.self.now c.get.new.self c.get.ensures.reads c.requires.sound
    (ap (λ (v : Opened g.row.D.Denot). v.frame) same) (ap (λ (v : Opened g.row.D.Denot). v.restored) same)
    (ap (λ (v : Opened g.row.D.Denot). v.is_open) same) (ap (λ (v : Opened g.row.D.Denot). v.begun) same)
    (ap (λ (v : Opened g.row.D.Denot). v.touched) same)

pub returns-clause-given : goal.returns-clause-given
returns-clause-given g c =
    let place = c.args.place in
    let at : 64 * (place / 64) + place % 64 ≡ place = omega arith in
    c.in_ok-get.ensures.given
    ∙ ap (λ (k : ℕ). part k (length c.args.into.now) c.args.self.now.bytes) at

pub returns-clause-quiet : goal.returns-clause-quiet
returns-clause-quiet g c =
    let d = g.D.Disk in
    let same = c.in_ok-get.ensures.same in
    quiet_read d.bytes d.tells_crashes d.moment d.may_hold_after c.args.self.now c.get.new.self c.get.ensures.reads c.requires.sound
    (ap (λ (v : Opened g.row.D.Denot). v.frame) same) (ap (λ (v : Opened g.row.D.Denot). v.restored) same)
    (ap (λ (v : Opened g.row.D.Denot). v.is_open) same) (ap (λ (v : Opened g.row.D.Denot). v.begun) same)
    (ap (λ (v : Opened g.row.D.Denot). v.touched) same)
