use Rattle.std.proofs.Common.{◌≡◌, ◌≤◌, ◌<◌, ◌∙◌, ◌+◌, ◌-◌, ◌*◌, ◌==◌, ◌∷◌, [], ℕ, true, List, length, drop, take, refl, sym, ap, subst, arith}
use Rattle.std.proofs.Common.{true≢false}
use Rattle.std.specs.Prelude.{IsPermutation}
use Rattle.std.specs.List.{range_with_len}
use Rattle.std.proofs.lemmas.List.FromFn.{length-range_with_len}
use Rattle.std.proofs.lemmas.List.Sorted.{IsPermutation-refl, IsPermutation-trans, list_any-IsPermutation, length_permutation}
use Rattle.sdr_base.specs.Cells.{is_among, with_lines}
use Rattle.sdr_base.specs.Parts.{overwrite}
use Rattle.sdr_log.specs.Frame.{room_of}
use Rattle.sdr_log.specs.declared.frame.Frame.{Frame}
use Rattle.sdr_image.specs.Marks.{touched_in}
use Rattle.sdr_image.specs.Opened.{IsQuiet, Opened, image_of}
use Rattle.sdr_image.specs.QuietLaws.{quiet_both}
use Rattle.sdr_image.proofs.ImageLemmas.{now_long, quiet_opened, with_one-permutation}
use Rattle.sdr_image.proofs.LoopsLemmas.{all_covered, nothing_put, put_next, take_past}
use Rattle.sdr_image.proofs.TouchedLemmas.{few_next, with_lines-least, with_lines-most, with_lines-next, with_lines-none}
use Rattle.sdr_image.proofs.image.Image.put_all.Goals as goal

pub invariant_of-self : goal.invariant_of-self
invariant_of-self g c =
    let i = c.self.invariant in
    record {
      limits = i.limits;
      fits = i.fits;
      lines_kept = i.lines_kept;
      idle = λ closed. absurd (true≢false closed);
      stands = i.stands;
    }

pub loop-line-init : goal.loop-line-init
loop-line-init g c =
    let d = g.D.Disk in
    let o = c.self.inside in
    let begin = c.args.self.now in
    let none : 64 * c.args.first - c.args.place ≡ 0 = omega (arith, c.requires.span.begins) in
    record {
      sound = ap (λ (v : Opened g.row.D.Denot). v.failed) c.self.view_is ∙ c.requires.sound;
      is_open = refl;
      later = omega (arith, ap (λ (v : Opened g.row.D.Denot). d.faults v.disk) c.self.view_is);
      bytes = ap (λ (v : Opened g.row.D.Denot). v.bytes) c.self.view_is
          ∙ sym (nothing_put c.args.place (64 * c.args.first - c.args.place) c.args.from.now begin.bytes none);
      touched = subst (λ (l : List ℕ). IsPermutation l (touched_in o.lines.marks))
          (ap (λ (v : Opened g.row.D.Denot). v.touched) c.self.view_is ∙ sym (with_lines-none begin.touched c.args.first))
          (IsPermutation-refl (touched_in o.lines.marks));
      quiet = subst (λ (v : Opened g.row.D.Denot). IsQuiet d.bytes d.tells_crashes d.moment d.may_hold_after v
          (image_of d.bytes o.disk o.frame o.lines true o.failed o.restored)) c.self.view_is
          (quiet_opened d.bytes d.tells_crashes d.moment d.may_hold_after o.disk o.frame o.lines o.is_open o.failed o.restored);
    }

pub put-requires-clause-room : goal.put-requires-clause-room
put-requires-clause-room g c new =
    let first = c.args.first in
    let line = c.loop-line.line in
    let inv = c.loop-line.invariant in
    let n = line - first in
    let touched = c.args.self.now.touched in
    let so_far = with_lines touched (range_with_len first n) in
    let at : first + n ≡ line = omega arith in
    let below : first + n < c.args.end = omega (arith, at, c.loop-line-test.true) in
    let same = list_any-IsPermutation (λ other. other == line) so_far c.loop-line.self.touched inv.touched in
    let few = few_next touched first n c.args.end (room_of c.args.self.now.frame) below c.requires.room
    (ap (λ (k : ℕ). is_among so_far k) at ∙ same ∙ new) in
    omega (
      arith,
      few,
      length_permutation so_far c.loop-line.self.touched inv.touched,
      ap room_of inv.quiet.frame,
    )

pub loop-line-preserved : goal.loop-line-preserved
loop-line-preserved g c =
    let d = g.D.Disk in
    let begin = c.args.self.now in
    let inv = c.loop-line.invariant in
    let line = c.loop-line.line in
    let first = c.args.first in
    let n = line - first in
    let e = c.in_ok-put.ensures in
    let p = c.piece-at.ensures in
    let place = c.args.place in
    let from = c.args.from.now in
    let piece = take (c.piece-at.result.2 - c.piece-at.result.1) (drop c.piece-at.result.1 from) in
    let span = c.requires.span in
    let starts : place < 64 * line + 64 = omega (arith, span.inside) in
    let ends : 64 * line < place + length from = omega (arith, span.ends, c.loop-line-test.true) in
    let at : first + n ≡ line = omega arith in
    let next : n + 1 ≡ line + 1 - first = omega arith in
    let lines = ap (λ (k : ℕ). with_lines (with_lines begin.touched (range_with_len first n)) (k ∷ [])) (sym at)
    ∙ with_lines-next begin.touched first n
    ∙ ap (λ (k : ℕ). with_lines begin.touched (range_with_len first k)) next in
    record {
      sound = e.cause.explained.1;
      is_open = e.opened;
      later = omega (arith, inv.later, e.cause.later);
      bytes = e.written
          ∙ ap (overwrite (64 * line + c.piece-at.result.0) piece) inv.bytes
          ∙ ap (λ (k : ℕ). overwrite (64 * line + c.piece-at.result.0) piece
          (overwrite place (take k from) begin.bytes)) (sym p.from)
          ∙ put_next place (length from) line c.piece-at.result.0 c.piece-at.result.1 c.piece-at.result.2 p.at p.from p.to
          starts ends from begin.bytes refl c.requires.inside;
      touched = subst (λ (l : List ℕ). IsPermutation l c.put.new.self.touched) lines
          (IsPermutation-trans _ _ _ (with_one-permutation _ _ line inv.touched) e.touched);
      quiet = quiet_both d.bytes d.tells_crashes d.moment d.may_hold_after begin c.loop-line.self c.put.new.self inv.quiet
          e.quiet;
    }

pub piece-at-requires-clause-small : goal.piece-at-requires-clause-small
piece-at-requires-clause-small g c =
    let o = c.self.inside in
    let inv = c.self.invariant in
    let long = now_long o.frame o.lines (g.D.Disk.bytes o.disk) inv.lines_kept inv.fits in
    omega (
      arith,
      c.requires.inside,
      long,
      ap (λ (v : Opened g.row.D.Denot). length v.bytes) c.self.view_is,
      inv.limits.most_heap,
    )

pub put-requires-clause-below : goal.put-requires-clause-below
put-requires-clause-below g c =
    let o = c.self.inside in
    let inv = c.self.invariant in
    let long = now_long o.frame o.lines (g.D.Disk.bytes o.disk) inv.lines_kept inv.fits in
    omega (
      arith,
      c.requires.inside,
      c.requires.span.ends,
      c.loop-line-test.true,
      long,
      ap (λ (v : Opened g.row.D.Denot). length v.bytes) c.self.view_is,
      ap (λ (v : Opened g.row.D.Denot). v.frame.heap_lines) c.self.view_is,
      ap (λ (f : Frame). f.heap_lines) c.loop-line.invariant.quiet.frame,
    )

pub returns-in_err-put-clause-some : goal.returns-in_err-put-clause-some
returns-in_err-put-clause-some g c =
    let first = c.args.first in
    let n = c.loop-line.line - first in
    let touched = c.args.self.now.touched in
    let run = range_with_len first n in
    let same = length_permutation (with_lines touched run) c.loop-line.self.touched c.loop-line.invariant.touched in
    let some = c.put.ensures.some in
    record {
      kept = omega (arith, same, with_lines-least touched run, some.kept);
      few =
          omega (arith, same, with_lines-most touched run, length-range_with_len first n, some.few, c.loop-line-test.true);
    }

pub returns-clause-some : goal.returns-clause-some
returns-clause-some g c =
    let first = c.args.first in
    let n = c.loop-line.line - first in
    let touched = c.args.self.now.touched in
    let run = range_with_len first n in
    let same = length_permutation (with_lines touched run) c.loop-line.self.touched c.loop-line.invariant.touched in
    record {
      kept = omega (arith, same, with_lines-least touched run);
      few = omega (arith, same, with_lines-most touched run, length-range_with_len first n);
    }

pub returns-clause-written : goal.returns-clause-written
returns-clause-written g c =
    let line = c.loop-line.line in
    let from = c.args.from.now in
    let le : c.args.end ≤ line = omega (arith, c.loop-line-test.false) in
    let all = all_covered c.args.place (length from) c.args.end line c.requires.span.covers le in
    c.loop-line.invariant.bytes
    ∙ ap (λ (l : List ℕ). overwrite c.args.place l c.args.self.now.bytes)
    (take_past (64 * line - c.args.place) from all)
