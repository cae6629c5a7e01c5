use Rattle.std.proofs.Common.{◌≡◌, ◌∙◌, [], inl, false, length, sym, ap, subst, arith}
use Rattle.std.proofs.Common.{Some}
use Rattle.sdr_disk.specs.Moments.{AtEach}
use Rattle.sdr_disk.proofs.MomentsLemmas.{at_first}
use Rattle.sdr_log.specs.Spilled.{GivesEither}
use Rattle.sdr_image.specs.Lines.{now_of}
use Rattle.sdr_image.specs.Marks.{touched_in}
use Rattle.sdr_image.specs.Opened.{Opened}
use Rattle.sdr_image.specs.QuietLaws.{rests_leaves}
use Rattle.sdr_image.proofs.EndedLemmas.{calls_of-some, untouched_image, untouched_now}
use Rattle.sdr_image.proofs.ImageLemmas.{nil_of}
use Rattle.sdr_image.proofs.RestedLemmas.{positive}
use Rattle.sdr_image.proofs.image.Image.commit.Goals as goal

pub save-requires-clause-some : goal.save-requires-clause-some
save-requires-clause-some g c =
    omega (arith, c.touched.ensures, positive c.touched.result c.if-touched-ne0.true)

pub returns-then-touched-ne0-clause-calls : goal.returns-then-touched-ne0-clause-calls
returns-then-touched-ne0-clause-calls g c =
    omega (
      arith,
      c.save.ensures.calls,
      calls_of-some (length c.args.self.now.touched)
          (omega (arith, c.touched.ensures, positive c.touched.result c.if-touched-ne0.true)),
    )

pub returns-then-touched-ne0-clause-idle : goal.returns-then-touched-ne0-clause-idle
returns-then-touched-ne0-clause-idle g c none =
    absurd (omega (arith, ap length none, c.touched.ensures, positive c.touched.result c.if-touched-ne0.true))

pub invariant_of-self : goal.invariant_of-self
invariant_of-self g c =
    let d = g.D.Disk in
    let o = c.self.inside in
    let x = d.bytes o.disk in
    let touched = ap (λ (v : Opened g.row.D.Denot). length v.touched) c.self.view_is in
    let none : length (touched_in o.lines.marks) ≡ 0 = touched ∙ sym c.touched.ensures ∙ c.if-touched-ne0.false in
    untouched_image o.frame x o.lines o.is_open o.failed c.self.invariant c.if-self.false none

pub returns-clause-ended : goal.returns-clause-ended
returns-clause-ended g c =
    let d = g.D.Disk in
    let o = c.self.inside in
    let x = d.bytes o.disk in
    let touched = ap (λ (v : Opened g.row.D.Denot). length v.touched) c.self.view_is in
    let none : length (touched_in o.lines.marks) ≡ 0 = touched ∙ sym c.touched.ensures ∙ c.if-touched-ne0.false in
    let same = untouched_now o.frame x o.lines o.is_open o.failed c.self.invariant c.if-self.false none in
    let nil = nil_of (touched_in o.lines.marks) none in
    (λ i. record {
      disk = o.disk;
      frame = o.frame;
      bytes = now_of o.frame o.lines x;
      begun = sym same i;
      touched = nil i;
      is_open = false;
      failed = o.failed;
      restored = o.restored;
    })
    ∙ ap (λ (v : Opened g.row.D.Denot). record v { disk = o.disk; begun = v.bytes; touched = []; is_open = false }) c.self.view_is

pub returns-clause-saved : goal.returns-clause-saved
returns-clause-saved g c =
    let d = g.D.Disk in
    let o = c.self.inside in
    let x = d.bytes o.disk in
    let touched = ap (λ (v : Opened g.row.D.Denot). length v.touched) c.self.view_is in
    let none : length (touched_in o.lines.marks) ≡ 0 = touched ∙ sym c.touched.ensures ∙ c.if-touched-ne0.false in
    let same = untouched_now o.frame x o.lines o.is_open o.failed c.self.invariant c.if-self.false none in
    record {
      back = (c.self.invariant.stands c.if-self.false).may.keeps.gives
          ∙ ap Some (sym same ∙ ap (λ (v : Opened g.row.D.Denot). v.bytes) c.self.view_is);
      written = λ gate some. absurd (some (nil_of c.args.self.now.touched (sym touched ∙ none)));
      rests = λ some. absurd (some (nil_of c.args.self.now.touched (sym touched ∙ none)));
    }

pub returns-clause-any_moment : goal.returns-clause-any_moment
returns-clause-any_moment g c sound rests told =
    let d = g.D.Disk in
    let o = c.self.inside in
    let x = d.bytes o.disk in
    let touched = ap (λ (v : Opened g.row.D.Denot). length v.touched) c.self.view_is in
    let none : length (touched_in o.lines.marks) ≡ 0 = touched ∙ sym c.touched.ensures ∙ c.if-touched-ne0.false in
    let old = c.args.self.now in
    subst (λ (disk : g.row.D.Denot). AtEach d.moment d.may_hold_after old.disk disk (GivesEither old.begun old.bytes))
    (sym (ap (λ (v : Opened g.row.D.Denot). v.disk) c.self.view_is))
    (at_first d.moment d.may_hold_after old.disk (GivesEither old.begun old.bytes)
    (λ image l. inl (rests_leaves d.bytes d.tells_crashes d.moment d.may_hold_after old sound rests told image l)))
