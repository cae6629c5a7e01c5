use Rattle.std.proofs.Common.{◌≡◌, ◌≤◌, ◌-◌, ◌∙◌, ℕ, List, length, sym, ap, subst, arith}
use Rattle.std.specs.Prelude.{IsPermutation, OnOk}
use Rattle.std.specs.List.{range_with_len}
use Rattle.std.proofs.lemmas.List.FromFn.{length-range_with_len}
use Rattle.std.proofs.lemmas.List.Sorted.{length_permutation}
use Rattle.sdr_base.specs.Cells.{IsFull, TouchesSome, lines_of, with_lines}
use Rattle.sdr_log.specs.Frame.{room_of}
use Rattle.sdr_image.specs.Opened.{Opened, transaction_of}
use Rattle.sdr_image.specs.QuietLaws.{quiet_same}
use Rattle.sdr_image.proofs.ImageLemmas.{now_long}
use Rattle.sdr_image.proofs.StandsLemmas.{on_ok}
use Rattle.sdr_image.proofs.StopLemmas.{never_refused, on_err, quiet_stays}
use Rattle.sdr_image.proofs.image.ImageCells.write.Goals as goal

pub span-first-requires : goal.span-first-requires
span-first-requires g c =
    let o = c.self.inside in
    let inv = c.self.invariant in
    omega (
      arith,
      c.requires.inside,
      now_long o.frame o.lines (g.D.Disk.bytes o.disk) inv.lines_kept inv.fits,
      ap (λ (v : Opened g.row.D.Denot). length v.bytes) c.self.view_is,
      inv.limits.most_heap,
    )

pub touched_with-lines-requires-clause-below : goal.touched_with-lines-requires-clause-below
touched_with-lines-requires-clause-below g c =
    let o = c.self.inside in
    let inv = c.self.invariant in
    omega (
      arith,
      c.requires.inside,
      c.span-first.ensures.ends,
      now_long o.frame o.lines (g.D.Disk.bytes o.disk) inv.lines_kept inv.fits,
      ap (λ (v : Opened g.row.D.Denot). length v.bytes) c.self.view_is,
      ap (λ (v : Opened g.row.D.Denot). v.frame.heap_lines) c.self.view_is,
    )

pub returns-then-lines-room-clause-quiet : goal.returns-then-lines-room-clause-quiet
returns-then-lines-room-clause-quiet g c =
    let d = g.D.Disk in
    quiet_same d.bytes d.tells_crashes d.moment d.may_hold_after c.args.self.now

pub returns-clause-room : goal.returns-clause-room
returns-clause-room g c =
    let d = g.D.Disk in
    let old = transaction_of d.faults c.args.self.now in
    let new = transaction_of d.faults c.put_all.new.self in
    let e = c.put_all.ensures in
    let r = c.put_all.result in
    let first = c.span-first.result.0 in
    let n = c.span-first.result.1 - first in
    let own = lines_of c.args.place (length c.args.from.now) in
    let is : range_with_len first n ≡ own = c.span-first.ensures.lines in
    let many : length own ≡ n = ap length (sym is) ∙ length-range_with_len first n in
    let touched = subst (λ (l : List ℕ). OnOk r (IsPermutation (with_lines old.touched l) new.touched)) is e.touched in
    let fits : length (with_lines old.touched own) ≤ old.room =
    omega (arith, ap (λ (l : List ℕ). length (with_lines old.touched l)) is, c.touched_with-lines.ensures, c.room-room.ensures) in
    record {
      room = ap room_of e.quiet.frame;
      touched = touched;
      fits = on_ok r (λ (p : IsPermutation (with_lines old.touched own) new.touched).
          omega (arith, fits, length_permutation _ _ p)) touched;
      same = never_refused (λ _. new.touched ≡ old.touched) r e.answered;
      some = on_err r (subst (λ (k : ℕ). TouchesSome k old new) (sym many) e.some);
      full = never_refused (IsFull own old) r e.answered;
    }

pub returns-clause-stays : goal.returns-clause-stays
returns-clause-stays g c =
    let d = g.D.Disk in
    let e = c.put_all.ensures in
    quiet_stays d.bytes d.tells_crashes d.moment d.may_hold_after d.faults c.args.self.now c.put_all.new.self c.put_all.result
    (ap (λ (v : Opened g.row.D.Denot). v.failed) (sym c.self.view_is) ∙ c.if-self.false) e.answered e.cause e.quiet

pub write_one-requires-clause-below : goal.write_one-requires-clause-below
write_one-requires-clause-below g c =
    let o = c.self.inside in
    let inv = c.self.invariant in
    omega (
      arith,
      c.requires.inside,
      now_long o.frame o.lines (g.D.Disk.bytes o.disk) inv.lines_kept inv.fits,
      ap (λ (v : Opened g.row.D.Denot). length v.bytes) c.self.view_is,
      ap (λ (v : Opened g.row.D.Denot). v.frame.heap_lines) c.self.view_is,
    )
