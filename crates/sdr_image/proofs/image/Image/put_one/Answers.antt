use Rattle.std.proofs.Common.{◌≡◌, ◌∙◌, ◌+◌, ◌*◌, ◌/◌, ◌%◌, ◌∷◌, [], ℕ, true, List, length, ap, subst, arith, true≢false, length-append}
use Rattle.std.specs.Prelude.{IsPermutation, OnOk}
use Rattle.sdr_base.specs.Cells.{with_lines}
use Rattle.sdr_base.specs.Parts.{overwrite}
use Rattle.sdr_log.specs.Frame.{room_of}
use Rattle.sdr_image.specs.Lines.{now_of}
use Rattle.sdr_image.specs.Marks.{touched_in}
use Rattle.sdr_image.specs.Opened.{IsQuiet, Opened, image_of}
use Rattle.sdr_image.specs.QuietLaws.{quiet_both}
use Rattle.sdr_image.proofs.ImageLemmas.{quiet_opened}
use Rattle.sdr_image.proofs.StandsLemmas.{on_ok}
use Rattle.sdr_image.proofs.TouchedLemmas.{with_lines-untouched}
use Rattle.sdr_image.proofs.image.Image.put_one.Goals as goal

pub invariant_of-self : goal.invariant_of-self
invariant_of-self g c =
    let i = c.self.invariant in
    record {
      limits = i.limits;
      fits = i.fits;
      lines_kept = i.lines_kept;
      idle = λ closed. absurd (true≢false closed);
      stands = i.stands;
    }

pub put-requires-clause-room : goal.put-requires-clause-room
put-requires-clause-room g c new =
    let touched = touched_in c.self.inside.lines.marks in
    let line = c.args.place / 64 in
    omega (
      arith,
      c.requires.room,
      ap length (with_lines-untouched touched line new),
      length-append touched (line ∷ []),
      ap (λ (v : Opened g.row.D.Denot). length (with_lines v.touched (line ∷ []))) c.self.view_is,
      ap (λ (v : Opened g.row.D.Denot). room_of v.frame) c.self.view_is,
    )

pub returns-clause-written : goal.returns-clause-written
returns-clause-written g c =
    let place = c.args.place in
    let from = c.args.from.now in
    let old = now_of c.self.inside.frame c.self.inside.lines (g.D.Disk.bytes c.self.inside.disk) in
    let at : 64 * (place / 64) + place % 64 ≡ place = omega arith in
    let begin : old ≡ c.args.self.now.bytes = ap (λ (v : Opened g.row.D.Denot). v.bytes) c.self.view_is in
    let now = c.put.new.self.bytes in
    on_ok c.put.result (λ (w : now ≡ overwrite (64 * (place / 64) + place % 64) from old).
    w ∙ ap (λ (k : ℕ). overwrite k from old) at ∙ ap (overwrite place from) begin) c.put.ensures.written

pub returns-clause-touched : goal.returns-clause-touched
returns-clause-touched g c =
    let lines = with_lines (touched_in c.self.inside.lines.marks) ((c.args.place / 64) ∷ []) in
    let begin : lines ≡ with_lines c.args.self.now.touched ((c.args.place / 64) ∷ []) =
    ap (λ (v : Opened g.row.D.Denot). with_lines v.touched ((c.args.place / 64) ∷ [])) c.self.view_is in
    subst (λ (l : List ℕ). OnOk c.put.result (IsPermutation l c.put.new.self.touched)) begin c.put.ensures.touched

pub returns-clause-quiet : goal.returns-clause-quiet
returns-clause-quiet g c =
    let d = g.D.Disk in
    let o = c.self.inside in
    let opened = image_of d.bytes o.disk o.frame o.lines true o.failed o.restored in
    quiet_both d.bytes d.tells_crashes d.moment d.may_hold_after c.args.self.now opened c.put.new.self
    (subst (λ (v : Opened g.row.D.Denot). IsQuiet d.bytes d.tells_crashes d.moment d.may_hold_after v opened) c.self.view_is
    (quiet_opened d.bytes d.tells_crashes d.moment d.may_hold_after o.disk o.frame o.lines o.is_open o.failed o.restored))
    c.put.ensures.quiet
