use Rattle.std.proofs.Common.{◌≡◌, ◌≤◌, ◌∙◌, ◌+◌, ◌-◌, refl, subst, arith, List, length, ℕ}
use Rattle.sdr_disk.proofs.RangesLemmas.{Agrees-refl, Agrees-trans}
use Rattle.sdr_log.specs.Calls.{AreBelow, KeepsOutside}
use Rattle.sdr_log.specs.Frame.{disk_bytes}
use Rattle.sdr_log.specs.Undoing.{records_at}
use Rattle.sdr_log.specs.declared.record.Record.{Record}
use Rattle.sdr_log.proofs.OutsideLemmas.{agrees_line}
use Rattle.sdr_log.proofs.PuttingLemmas.{Putting, putting_each, putting_more, putting_none}
use Rattle.sdr_log.proofs.UndoingLemmas.{putting_read, read_below, read_split}
use Rattle.sdr_log.proofs.undoing.restore_records.Goals as goal

pub loop-done-init : goal.loop-done-init
loop-done-init g c =
    let d = g.D.Disk in
    let a = c.args in
    let x = d.bytes a.disk.now in
    let at : 64 + a.place ≡ 64 + a.place + 0 = omega arith in
    let many : a.count ≡ a.count - 0 = omega arith in
    record {
      size = refl;
      tells = refl;
      later = omega arith;
      forward = omega arith;
      calls = omega arith;
      inside = Agrees-refl _ _;
      putting =
          subst (λ (rs : List Record). Putting d.moment d.may_hold_after d.bytes a.frame (records_at (64 + a.place) a.count x) rs
          a.disk.now a.disk.now) (λ i. records_at (at i) (many i) x)
          (putting_none d.moment d.may_hold_after d.bytes a.frame (records_at (64 + a.place) a.count x) a.disk.now);
      below = subst (AreBelow a.frame.heap_lines) (λ i. records_at (at i) (many i) x) c.requires.below;
    }

pub put_line-requires-clause-below : goal.put_line-requires-clause-below
put_line-requires-clause-below g c =
    let d = g.D.Disk in
    let a = c.args in
    let inv = c.loop-done.invariant in
    let wide : disk_bytes a.frame ≤ length (d.bytes c.loop-done.disk) = omega (arith, inv.size, c.requires.regions.inside) in
    (read_below a.frame a.place a.count (d.bytes a.disk.now) (d.bytes c.loop-done.disk) c.requires.inside
    c.requires.regions.inside c.requires.below c.loop-done.done c.loop-done-test.true inv.putting.written wide inv.below
    c.in_ok-old.old c.in_ok-old.ensures.given).0

pub returns-in_err-put_line-clause-inside : goal.returns-in_err-put_line-clause-inside
returns-in_err-put_line-clause-inside g c =
    let d = g.D.Disk in
    let a = c.args in
    let inv = c.loop-done.invariant in
    let wide : disk_bytes a.frame ≤ length (d.bytes c.loop-done.disk) = omega (arith, inv.size, c.requires.regions.inside) in
    let below = (read_below a.frame a.place a.count (d.bytes a.disk.now) (d.bytes c.loop-done.disk) c.requires.inside
    c.requires.regions.inside c.requires.below c.loop-done.done c.loop-done-test.true inv.putting.written wide inv.below
    c.in_ok-old.old c.in_ok-old.ensures.given).0 in
    Agrees-trans _ _ _ _ inv.inside
    (subst (λ (y : List ℕ). KeepsOutside a.frame y (d.bytes c.put_line.new.disk)) c.read_record.ensures.reads.same
    (agrees_line a.frame c.in_ok-old.old.line _ _ below c.put_line.ensures.others))

pub returns-in_err-put_line-clause-any_moment : goal.returns-in_err-put_line-clause-any_moment
returns-in_err-put_line-clause-any_moment g c m =
    let d = g.D.Disk in
    let a = c.args in
    let inv = c.loop-done.invariant in
    let wide : disk_bytes a.frame ≤ length (d.bytes c.loop-done.disk) = omega (arith, inv.size, c.requires.regions.inside) in
    let split = read_split a.frame a.place a.count (d.bytes a.disk.now) (d.bytes c.loop-done.disk) c.requires.inside
    c.requires.regions.inside c.requires.below c.loop-done.done c.loop-done-test.true inv.putting.written wide inv.below
    c.in_ok-old.old c.in_ok-old.ensures.given in
    putting_each _ _ d.bytes a.frame _ _ _ _ _ _ c.in_ok-old.old split c.put_line.ensures.long
    (putting_read a.frame _ _ _ _ _ inv.putting c.read_record.ensures.reads) c.put_line.ensures.moments m

pub loop-done-preserved : goal.loop-done-preserved
loop-done-preserved g c =
    let d = g.D.Disk in
    let a = c.args in
    let inv = c.loop-done.invariant in
    let put = c.put_line.ensures in
    let read = c.read_record.ensures in
    let wide : disk_bytes a.frame ≤ length (d.bytes c.loop-done.disk) = omega (arith, inv.size, c.requires.regions.inside) in
    let split = read_split a.frame a.place a.count (d.bytes a.disk.now) (d.bytes c.loop-done.disk) c.requires.inside
    c.requires.regions.inside c.requires.below c.loop-done.done c.loop-done-test.true inv.putting.written wide inv.below
    c.in_ok-old.old c.in_ok-old.ensures.given in
    let below = read_below a.frame a.place a.count (d.bytes a.disk.now) (d.bytes c.loop-done.disk) c.requires.inside
    c.requires.regions.inside c.requires.below c.loop-done.done c.loop-done-test.true inv.putting.written wide inv.below
    c.in_ok-old.old c.in_ok-old.ensures.given in
    record {
      size = put.size ∙ Rattle.std.proofs.Common.ap length read.reads.same ∙ inv.size;
      tells = put.tells ∙ read.reads.tells ∙ inv.tells;
      later = omega (arith, put.cause.later, read.cause.later, inv.later);
      forward = omega (arith, put.moments.later, read.reads.time, inv.forward);
      calls = omega (arith, c.in_ok-put_line.ensures.rises, read.reads.time, inv.calls, c.loop-done-test.true);
      inside = Agrees-trans _ _ _ _ inv.inside
          (subst (λ (y : List ℕ). KeepsOutside a.frame y (d.bytes c.put_line.new.disk)) read.reads.same
          (agrees_line a.frame c.in_ok-old.old.line _ _ below.0 put.others));
      putting = putting_more _ _ d.bytes a.frame _ _ _ _ _ _ c.in_ok-old.old split put.long
          (putting_read a.frame _ _ _ _ _ inv.putting read.reads) put.moments c.in_ok-put_line.ensures.written
          c.in_ok-put_line.ensures.rises;
      below = below.1;
    }
