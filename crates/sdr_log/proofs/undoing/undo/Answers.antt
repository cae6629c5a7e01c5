use Rattle.std.proofs.Common.{◌≤◌, ◌∙◌, ◌+◌, refl, sym, ap, subst, arith, List, ℕ, length}
use Rattle.sdr_disk.proofs.RangesLemmas.{Agrees-refl, Agrees-trans}
use Rattle.sdr_log.specs.Calls.{AreBelow, KeepsOutside}
use Rattle.sdr_log.specs.Log.{log_of}
use Rattle.sdr_log.specs.Logged.{IsOpen}
use Rattle.sdr_log.specs.Undoing.{records_at}
use Rattle.sdr_log.proofs.LoggedLemmas.{logs_gate}
use Rattle.sdr_log.proofs.PuttingLemmas.{putting_all}
use Rattle.sdr_log.proofs.RestoringLemmas.{at_closed, may_put, puts_open}
use Rattle.sdr_log.proofs.UndoingLemmas.{putting_read}
use Rattle.sdr_log.proofs.UndoneLemmas.{all_long, next_count, next_inside, none_left, own_below, own_left, same_own}
use Rattle.sdr_log.proofs.UndoneLemmas.{undone_back, undone_each, undone_more, undone_none}
use Rattle.sdr_log.proofs.undoing.undo.Given as given
use Rattle.sdr_log.proofs.undoing.undo.Goals as goal

pub loop-place-init : goal.loop-place-init
loop-place-init g c = record {
  size = refl;
  tells = refl;
  later = omega arith;
  forward = omega arith;
  inside = Agrees-refl _ _;
  undone = undone_none g.D.Disk.moment g.D.Disk.may_hold_after g.D.Disk.bytes c.args.frame c.args.end c.args.disk.now
      c.requires.regions.inside c.requires.batches;
}

pub overflow_add-place : goal.overflow_add-place
overflow_add-place g c =
    omega (arith, c.loop-place-test.true, c.loop-place.invariant.undone.inside, c.requires.regions.limits.most_log)

pub returns-in_err-count-clause-any_moment : goal.returns-in_err-count-clause-any_moment
returns-in_err-count-clause-any_moment g c told l =
    let a = c.args in
    let u = c.loop-place.invariant.undone in
    ((putting_read a.frame u.all u.rest _ _ _ u.putting c.read_count.ensures.reads).so_far
    (may_put a.frame _ u.all _ u.was l)).each

pub restore_records-requires-clause-inside : goal.restore_records-requires-clause-inside
restore_records-requires-clause-inside g c =
    let a = c.args in
    let u = c.loop-place.invariant.undone in
    let lt = c.loop-place-test.true in
    let wide = c.requires.regions.inside in
    omega (
      arith,
      next_inside _ _ _ _ _ _ _ _ u lt wide,
      next_count _ _ _ _ _ _ _ _ u lt wide _ c.in_ok-count.count u.log c.in_ok-count.ensures.given,
    )

pub restore_records-requires-clause-below : goal.restore_records-requires-clause-below
restore_records-requires-clause-below g c =
    let d = g.D.Disk in
    let a = c.args in
    let u = c.loop-place.invariant.undone in
    let lt = c.loop-place-test.true in
    let wide = c.requires.regions.inside in
    let y = d.bytes c.read_count.new.disk in
    let same = ap (log_of a.frame) c.read_count.ensures.reads.same ∙ u.log in
    let count = next_count _ _ _ _ _ _ _ _ u lt wide _ c.in_ok-count.count u.log c.in_ok-count.ensures.given in
    subst (AreBelow a.frame.heap_lines)
    (sym (ap (λ (n : ℕ). records_at (64 + (c.loop-place.place + 5)) n y) count
    ∙ same_own d.moment d.may_hold_after d.bytes a.frame a.end a.disk.now c.loop-place.place c.loop-place.disk u lt wide y same))
    (own_below d.moment d.may_hold_after d.bytes a.frame a.end a.disk.now c.loop-place.place c.loop-place.disk u lt wide)

pub returns-in_err-restore_records-clause-calls : goal.returns-in_err-restore_records-clause-calls
returns-in_err-restore_records-clause-calls g c records l =
    let d = g.D.Disk in
    let a = c.args in
    let u = c.loop-place.invariant.undone in
    let lt = c.loop-place-test.true in
    let wide = c.requires.regions.inside in
    omega (
      arith,
      c.restore_records.ensures.calls,
      c.read_count.ensures.reads.time,
      u.calls,
      own_left d.moment d.may_hold_after d.bytes a.frame a.end a.disk.now c.loop-place.place c.loop-place.disk u lt wide,
      next_count _ _ _ _ _ _ _ _ u lt wide _ c.in_ok-count.count u.log c.in_ok-count.ensures.given,
      all_long u records l,
    )

pub returns-in_err-restore_records-clause-any_moment : goal.returns-in_err-restore_records-clause-any_moment
returns-in_err-restore_records-clause-any_moment g c told l =
    let d = g.D.Disk in
    let a = c.args in
    let u = c.loop-place.invariant.undone in
    let lt = c.loop-place-test.true in
    let wide = c.requires.regions.inside in
    let count = next_count _ _ _ _ _ _ _ _ u lt wide _ c.in_ok-count.count u.log c.in_ok-count.ensures.given in
    undone_each d.moment d.may_hold_after d.bytes a.frame a.end a.disk.now c.loop-place.place c.loop-place.disk u lt wide
    c.read_count.new.disk c.restore_records.new.disk d.tells_crashes c.read_count.ensures.reads c.in_ok-count.count count
    (may_put a.frame _ u.all _ u.was l) (λ m. c.restore_records.ensures.any_moment m)

pub loop-place-preserved : goal.loop-place-preserved
loop-place-preserved g c =
    let d = g.D.Disk in
    let a = c.args in
    let inv = c.loop-place.invariant in
    let u = inv.undone in
    let lt = c.loop-place-test.true in
    let wide = c.requires.regions.inside in
    let all = c.restore_records.ensures in
    let seen = c.read_count.ensures in
    let count = next_count _ _ _ _ _ _ _ _ u lt wide _ c.in_ok-count.count u.log c.in_ok-count.ensures.given in
    record {
      size = all.disk.size ∙ ap length seen.reads.same ∙ inv.size;
      tells = all.disk.tells ∙ seen.reads.tells ∙ inv.tells;
      later = omega (arith, all.cause.later, seen.cause.later, inv.later);
      forward = omega (arith, all.forward, seen.reads.time, inv.forward);
      inside = Agrees-trans _ _ _ _ inv.inside
          (subst (λ (y : List ℕ). KeepsOutside a.frame y (d.bytes c.restore_records.new.disk)) seen.reads.same all.inside);
      undone = undone_more d.moment d.may_hold_after d.bytes a.frame a.end a.disk.now c.loop-place.place c.loop-place.disk u
          lt wide c.read_count.new.disk c.restore_records.new.disk d.tells_crashes seen.reads c.in_ok-count.count count
          c.in_ok-restore_records.ensures.written (ap length seen.reads.same ∙ inv.size) all.calls
          (λ m. (c.in_ok-restore_records.ensures.puts m, all.any_moment m));
    }

pub returns-in_err-close-clause-any_moment : goal.returns-in_err-close-clause-any_moment
returns-in_err-close-clause-any_moment g c told l =
    let d = g.D.Disk in
    let a = c.args in
    let u = c.loop-place.invariant.undone in
    let past : a.end ≤ c.loop-place.place = omega (arith, c.loop-place-test.false) in
    let none = none_left d.moment d.may_hold_after d.bytes a.frame a.end a.disk.now c.loop-place.place c.loop-place.disk u past in
    let m = may_put a.frame _ u.all _ u.was l in
    let p = putting_all d.moment d.may_hold_after d.bytes a.frame u.all a.disk.now c.loop-place.disk u.rest none u.putting m in
    let o : IsOpen a.frame (d.bytes a.disk.now) (d.may_hold_after a.disk.now (d.moment a.disk.now)) =
    record { logged = l; gate = logs_gate a.frame (d.bytes a.disk.now) u.all u.was u.some } in
    at_closed _ _ _ _ _ _ _ _ _ _ u.was p (u.putting.so_far m).each
    (c.close.ensures.any_moment (c.loop-place.invariant.tells ∙ told) (puts_open _ _ _ _ _ _ o p))

pub returns-clause-back : goal.returns-clause-back
returns-clause-back g c records l =
    let d = g.D.Disk in
    let a = c.args in
    let u = c.loop-place.invariant.undone in
    let past : a.end ≤ c.loop-place.place = omega (arith, c.loop-place-test.false) in
    undone_back d.moment d.may_hold_after d.bytes a.frame a.end a.disk.now c.loop-place.place c.loop-place.disk u past _
    records c.in_ok-close.ensures.written l

pub returns-clause-rest : goal.returns-clause-rest
returns-clause-rest g c told l =
    let d = g.D.Disk in
    let a = c.args in
    let u = c.loop-place.invariant.undone in
    let past : a.end ≤ c.loop-place.place = omega (arith, c.loop-place-test.false) in
    let none = none_left d.moment d.may_hold_after d.bytes a.frame a.end a.disk.now c.loop-place.place c.loop-place.disk u past in
    let m = may_put a.frame _ u.all _ u.was l in
    let p = putting_all d.moment d.may_hold_after d.bytes a.frame u.all a.disk.now c.loop-place.disk u.rest none u.putting m in
    let o : IsOpen a.frame (d.bytes a.disk.now) (d.may_hold_after a.disk.now (d.moment a.disk.now)) =
    record { logged = l; gate = logs_gate a.frame (d.bytes a.disk.now) u.all u.was u.some } in
    (c.in_ok-close.ensures.closes (c.loop-place.invariant.tells ∙ told) (puts_open _ _ _ _ _ _ o p)).rest

pub returns-clause-any_moment : goal.returns-clause-any_moment
returns-clause-any_moment g c told l =
    let d = g.D.Disk in
    let a = c.args in
    let u = c.loop-place.invariant.undone in
    let past : a.end ≤ c.loop-place.place = omega (arith, c.loop-place-test.false) in
    let none = none_left d.moment d.may_hold_after d.bytes a.frame a.end a.disk.now c.loop-place.place c.loop-place.disk u past in
    let m = may_put a.frame _ u.all _ u.was l in
    let p = putting_all d.moment d.may_hold_after d.bytes a.frame u.all a.disk.now c.loop-place.disk u.rest none u.putting m in
    let o : IsOpen a.frame (d.bytes a.disk.now) (d.may_hold_after a.disk.now (d.moment a.disk.now)) =
    record { logged = l; gate = logs_gate a.frame (d.bytes a.disk.now) u.all u.was u.some } in
    at_closed _ _ _ _ _ _ _ _ _ _ u.was p (u.putting.so_far m).each
    (c.close.ensures.any_moment (c.loop-place.invariant.tells ∙ told) (puts_open _ _ _ _ _ _ o p))
