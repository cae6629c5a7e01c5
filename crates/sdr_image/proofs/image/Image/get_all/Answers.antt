use Rattle.std.proofs.Common.{◌≡◌, ◌≤◌, ◌<◌, ◌∙◌, ◌+◌, ◌-◌, ◌*◌, ℕ, true, length, min, take, drop, refl, sym, ap, arith}
use Rattle.std.proofs.lemmas.List.{length-take-le}
use Rattle.std.proofs.Common.{length-drop}
use Rattle.sdr_base.specs.Parts.{part}
use Rattle.sdr_disk.proofs.MomentsLemmas.{Reads-trans}
use Rattle.sdr_image.specs.Opened.{Opened}
use Rattle.sdr_image.specs.QuietLaws.{quiet_read}
use Rattle.sdr_image.proofs.LoopsLemmas.{all_covered, piece_order, read_next, take_past}
use Rattle.sdr_image.proofs.image.Image.get_all.Goals as goal

pub piece-at-requires-clause-small : goal.piece-at-requires-clause-small
piece-at-requires-clause-small g c = omega (arith, c.requires.small, c.loop-line.auto.into)

pub get-requires-clause-below : goal.get-requires-clause-below
get-requires-clause-below g c =
    omega (
      arith,
      c.requires.below,
      c.loop-line-test.true,
      ap (λ (v : Opened g.row.D.Denot). v.frame.heap_lines) c.loop-line.invariant.same,
    )

pub returns-in_err-get-clause-quiet : goal.returns-in_err-get-clause-quiet
returns-in_err-get-clause-quiet g c =
    let d = g.D.Disk in
    let a = c.args.self.now in
    let inv = c.loop-line.invariant in
    let new = c.get.new.self in
    let same : new ≡ record a { disk = new.disk; failed = true } =
    c.in_err-get.ensures.failed
    ∙ ap (λ (v : Opened g.row.D.Denot). record v { disk = new.disk; failed = true }) inv.same in
    quiet_read d.bytes d.tells_crashes d.moment d.may_hold_after a new
    (Reads-trans d.bytes d.tells_crashes d.moment d.may_hold_after a.disk c.loop-line.self.disk new.disk inv.reads
    c.get.ensures.reads)
    inv.sound (ap (λ (v : Opened g.row.D.Denot). v.frame) same) (ap (λ (v : Opened g.row.D.Denot). v.restored) same)
    (ap (λ (v : Opened g.row.D.Denot). v.is_open) same) (ap (λ (v : Opened g.row.D.Denot). v.begun) same)
    (ap (λ (v : Opened g.row.D.Denot). v.touched) same)

pub loop-line-preserved : goal.loop-line-preserved
loop-line-preserved g c =
    let d = g.D.Disk in
    let a = c.args.self.now in
    let inv = c.loop-line.invariant in
    let new = c.get.new.self in
    let line = c.loop-line.line in
    let place = c.args.place in
    let into = c.loop-line.into in
    let n = length into in
    let e = c.in_ok-get.ensures in
    let p = c.piece-at.ensures in
    let at = c.piece-at.result.0 in
    let start = c.piece-at.result.1 in
    let stop = c.piece-at.result.2 in
    let m = stop - start in
    let long = c.loop-line.auto.into in
    let span = c.requires.span in
    let starts : place < 64 * line + 64 = omega (arith, span.inside) in
    let ends : 64 * line < place + n = omega (arith, span.ends, c.loop-line-test.true, long) in
    let order = piece_order place n line at start stop p.at p.from p.to starts ends in
    let within : start + m ≤ n = omega (arith, order, p.to) in
    let few : length (take m (drop start into)) ≡ m =
    length-take-le m (drop start into) (omega (arith, length-drop start into, within)) in
    let wide : place + n ≤ length a.bytes = omega (arith, c.requires.inside, long) in
    let got : c.get.new.into ≡ part (64 * line + at) m a.bytes =
    e.given
    ∙ ap (λ (k : ℕ). part (64 * line + at) k c.loop-line.self.bytes) few
    ∙ ap (λ (v : Opened g.row.D.Denot). part (64 * line + at) m v.bytes) inv.same in
    let up : min (64 * line - place) (length c.args.into.now) ≡ start = omega (arith, p.from, order, p.to, long) in
    let front : take start into ≡ part place start a.bytes =
    ap (λ (k : ℕ). take k into) p.from
    ∙ inv.given
    ∙ ap (λ (k : ℕ). part place k a.bytes) up in
    record {
      sound = inv.sound;
      same = e.same ∙ ap (λ (v : Opened g.row.D.Denot). record v { disk = new.disk }) inv.same;
      later = omega (arith, inv.later, e.cause.later);
      reads = Reads-trans d.bytes d.tells_crashes d.moment d.may_hold_after a.disk c.loop-line.self.disk new.disk inv.reads
          e.reads;
      given = read_next place n line at start stop p.at p.from p.to starts ends into c.get.new.into a.bytes refl wide got front
          ∙ ap (λ (k : ℕ). part place (min (64 * (line + 1) - place) k) a.bytes) long;
    }

pub returns-clause-given : goal.returns-clause-given
returns-clause-given g c =
    let inv = c.loop-line.invariant in
    let line = c.loop-line.line in
    let place = c.args.place in
    let n = length c.args.into.now in
    let le : c.args.end ≤ line = omega (arith, c.loop-line-test.false) in
    let all = all_covered place n c.args.end line c.requires.span.covers le in
    let few : min (64 * line - place) n ≡ n = omega (arith, all) in
    sym (take_past (64 * line - place) c.loop-line.into (omega (arith, all, c.loop-line.auto.into)))
    ∙ inv.given
    ∙ ap (λ (k : ℕ). part place k c.args.self.now.bytes) few

pub returns-clause-quiet : goal.returns-clause-quiet
returns-clause-quiet g c =
    let d = g.D.Disk in
    let a = c.args.self.now in
    let inv = c.loop-line.invariant in
    let same = inv.same in
    quiet_read d.bytes d.tells_crashes d.moment d.may_hold_after a c.loop-line.self inv.reads inv.sound
    (ap (λ (v : Opened g.row.D.Denot). v.frame) same) (ap (λ (v : Opened g.row.D.Denot). v.restored) same)
    (ap (λ (v : Opened g.row.D.Denot). v.is_open) same) (ap (λ (v : Opened g.row.D.Denot). v.begun) same)
    (ap (λ (v : Opened g.row.D.Denot). v.touched) same)
