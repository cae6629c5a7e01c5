use Rattle.std.proofs.Common.{arith, ◌≡◌, ◌∙◌, ◌≤◌, ◌<◌, ◌+◌, ◌*◌, [], Result, Err, true, ap, false, length, refl, sym, subst, true≢false}
use Rattle.sdr_base.specs.Causes.{Rose}
use Rattle.sdr_base.specs.Transaction.{Explains}
use Rattle.sdr_base.specs.declared.stop.Stop.{Stop}
use Rattle.sdr_heap.specs.Noted.{Held}
use Rattle.sdr_image.specs.Opened.{Opened, Rests, StaysAt, transaction_of}
use Rattle.sdr_image.specs.Saved.{calls_of}
use Rattle.sdr_log.specs.Log.{first_gate}
use Rattle.sdr_machine.specs.Crash.{LeavesBefore}
use Rattle.sdr_machine.specs.Ground.{Ground, HasHeap}
use Rattle.sdr_machine.specs.Serving.{KeepsGround, MeetsFault, RollsBack}
use Rattle.sdr_station.proofs.ClosingLemmas.{ClosesTo, back_ground, closes_back, leaves_back}
use Rattle.sdr_station.proofs.GroundLemmas.{ground_failed, heap_ground, keeps_later}
use Rattle.sdr_station.proofs.InsideLemmas.{inside_closed, inside_same, stays_frame}
use Rattle.sdr_station.specs.Grounded.{Grounded, IsGround, StaysInside}
use Rattle.sdr_station.proofs.ground.HeapGround.restore.Goals as goal

pub returns-in-Ok : goal.returns-in-Ok
returns-in-Ok g c =
    let D = g.row.D.Denot in
    let M = g.row.M.Denot in
    let b = g.D.Disk.bytes in
    let t = g.D.Disk.tells_crashes in
    let m = g.D.Disk.moment in
    let l = g.D.Disk.may_hold_after in
    let f = g.D.Disk.faults in
    let n = g.M.Media in
    let at = c.moment_of-self-inside in
    let e = c.in-Ok.ensures in
    let old : Grounded D M = record {
      heap = c.self.inside.heap;
      media = c.self.inside.media;
      shown = c.self.inside.shown;
      stopped = c.self.inside.stopped;
      idle = c.self.inside.idle;
      moment = c.self.inside.moment;
      restored = c.self.inside.restored;
    } in
    let disk = c.cancel.new.heap.cells.disk in
    let new : Grounded D M = record {
      heap = at.new.heap;
      media = c.self.inside.media;
      shown = c.clear.new.self;
      stopped = false;
      idle = true;
      moment = at.result;
      restored = c.self.inside.restored;
    } in
    let heap : at.new.heap ≡ (back_ground old disk at.result).heap = at.ensures.same ∙ e.ended in
    let is : new ≡ back_ground old disk at.result =
    λ i. record { heap = heap i; media = old.media; shown = c.clear.ensures i; stopped = false; idle = true; moment = at.result; restored = old.restored } in
    let at_now = at.ensures.moment ∙ ap (λ (h : Held (Opened D)). m h.cells.disk) at.ensures.same in
    let since : old.moment ≤ at.result = omega (arith, at_now, c.self.invariant.seen, e.forward) in
    let sound : old.heap.cells.failed ≡ false = e.cause.explained.0 in
    let closed = closes_back b t m f l n old disk at.result at_now since sound e.disk.tells _ (e.any_moment sound) new is c.self.invariant
    e.cause.later (λ rests. subst (λ (h : Held (Opened D)). Rests b t m l h.cells) e.ended (e.rests rests)) (λ image p. p) in
    let all : ClosesTo b t m f l n false RollsBack c.args.self.now new = subst (λ (o : Grounded D M). ClosesTo b t m f l n false RollsBack o new) c.self.view_is closed in
    record {
      memory = all.memory;
      put_back = all.brings;
      untouched = λ _. ap (λ (h : Held (Opened D)). h.cells.touched) heap;
      begun = ap (λ (h : Held (Opened D)). h.cells.begun) heap ∙ ap (λ (o : Grounded D M). o.heap.cells.begun) c.self.view_is;
      seen = subst (λ (o : Grounded D M). o.moment ≡ m o.heap.cells.disk) c.self.view_is c.self.invariant.seen;
      going = λ _. refl;
      idle = λ _. refl;
      sound = all.sound ∙ sym (ap (λ (o : Grounded D M). o.heap.cells.failed) (sym c.self.view_is) ∙ sound);
      restored = ap (λ (o : Grounded D M). o.restored) c.self.view_is;
      media = ap (λ (o : Grounded D M). o.media) c.self.view_is;
      fault = tt;
      some = tt;
      holds = at.ensures.holds;
      closed = subst (λ (o : Grounded D M). first_gate (b o.heap.cells.disk) ≡ 0 → at.new.heap.cells.disk ≡ o.heap.cells.disk) c.self.view_is
          (λ gate. ap (λ (h : Held (Opened D)). h.cells.disk) at.ensures.same ∙ e.same gate);
      still = subst (λ (o : Grounded D M). o.heap.cells.touched ≡ [] → at.new.heap.cells.disk ≡ o.heap.cells.disk) c.self.view_is
          (λ none. ap (λ (h : Held (Opened D)). h.cells.disk) at.ensures.same ∙ e.idle none);
      calls = subst (λ (o : Grounded D M). at.result ≤ o.moment + 2 * calls_of (length o.heap.cells.touched)) c.self.view_is
          (omega (arith, e.calls, at_now, c.self.invariant.seen));
      time = all.time;
      keeps = all.keeps;
      inside = subst (λ (o : Grounded D M). StaysInside b t o new) c.self.view_is
          (inside_closed b t old new c.cancel.new.heap at.ensures.same (ap (λ (h : Held (Opened D)). h.cells.frame) e.ended)
          e.disk.tells e.inside);
      any_moment = all.any_moment;
    }

pub invariant_of-self : goal.invariant_of-self
invariant_of-self g c =
    let D = g.row.D.Denot in
    let M = g.row.M.Denot in
    let b = g.D.Disk.bytes in
    let t = g.D.Disk.tells_crashes in
    let m = g.D.Disk.moment in
    let l = g.D.Disk.may_hold_after in
    let f = g.D.Disk.faults in
    let n = g.M.Media in
    let at = c.moment_of-self-inside in
    let e = c.in-Ok.ensures in
    let old : Grounded D M = record {
      heap = c.self.inside.heap;
      media = c.self.inside.media;
      shown = c.self.inside.shown;
      stopped = c.self.inside.stopped;
      idle = c.self.inside.idle;
      moment = c.self.inside.moment;
      restored = c.self.inside.restored;
    } in
    let disk = c.cancel.new.heap.cells.disk in
    let new : Grounded D M = record {
      heap = at.new.heap;
      media = c.self.inside.media;
      shown = c.clear.new.self;
      stopped = false;
      idle = true;
      moment = at.result;
      restored = c.self.inside.restored;
    } in
    let heap : at.new.heap ≡ (back_ground old disk at.result).heap = at.ensures.same ∙ e.ended in
    let is : new ≡ back_ground old disk at.result =
    λ i. record { heap = heap i; media = old.media; shown = c.clear.ensures i; stopped = false; idle = true; moment = at.result; restored = old.restored } in
    let at_now = at.ensures.moment ∙ ap (λ (h : Held (Opened D)). m h.cells.disk) at.ensures.same in
    let since : old.moment ≤ at.result = omega (arith, at_now, c.self.invariant.seen, e.forward) in
    let sound : old.heap.cells.failed ≡ false = e.cause.explained.0 in
    let closed = closes_back b t m f l n old disk at.result at_now since sound e.disk.tells _ (e.any_moment sound) new is c.self.invariant
    e.cause.later (λ rests. subst (λ (h : Held (Opened D)). Rests b t m l h.cells) e.ended (e.rests rests)) (λ image p. p) in
    closed.is_ground

pub returns-in-Err-DiskFault-clause-fault : goal.returns-in-Err-DiskFault-clause-fault
returns-in-Err-DiskFault-clause-fault g c =
    let D = g.row.D.Denot in
    let M = g.row.M.Denot in
    let b = g.D.Disk.bytes in
    let t = g.D.Disk.tells_crashes in
    let m = g.D.Disk.moment in
    let l = g.D.Disk.may_hold_after in
    let f = g.D.Disk.faults in
    let n = g.M.Media in
    let at = c.moment_of-self-inside-in-Err-DiskFault in
    let e = c.in-Err-DiskFault.ensures in
    let is = c.in-Err-DiskFault.field-0-is in
    let old : Grounded D M = record {
      heap = c.self.inside.heap;
      media = c.self.inside.media;
      shown = c.self.inside.shown;
      stopped = c.self.inside.stopped;
      idle = c.self.inside.idle;
      moment = c.self.inside.moment;
      restored = c.self.inside.restored;
    } in
    let new : Grounded D M = record {
      heap = at.new.heap;
      media = c.self.inside.media;
      shown = c.self.inside.shown;
      stopped = true;
      idle = false;
      moment = at.result;
      restored = c.self.inside.restored;
    } in
    let same : at.new.heap ≡ c.cancel.new.heap = at.ensures.same in
    let at_now : at.result ≡ m c.cancel.new.heap.cells.disk = at.ensures.moment ∙ ap (λ (h : Held (Opened D)). m h.cells.disk) same in
    let explained = subst (λ (s : Stop). Explains {T = Unit {0}} (transaction_of f old.heap.cells) (transaction_of f c.cancel.new.heap.cells) (Err s)) is
    e.cause.explained in
    let sound : old.heap.cells.failed ≡ false = explained.0 in
    let since : old.moment ≤ at.result = omega (arith, at_now, c.self.invariant.seen, e.forward) in
    subst (λ (o : Grounded D M). MeetsFault (heap_ground b t m f l n) o new) c.self.view_is
    (record {
      heap = λ v at. subst (λ (b : Ground). HasHeap b) (sym at.memory.before.base) tt;
      cause = subst (λ (h : Held (Opened D)). Rose (f old.heap.cells.disk) (f h.cells.disk)) (sym same) explained.2;
    })

pub returns-in-Err-DiskFault-clause-some : goal.returns-in-Err-DiskFault-clause-some
returns-in-Err-DiskFault-clause-some g c =
    let D = g.row.D.Denot in
    let M = g.row.M.Denot in
    let b = g.D.Disk.bytes in
    let t = g.D.Disk.tells_crashes in
    let m = g.D.Disk.moment in
    let l = g.D.Disk.may_hold_after in
    let f = g.D.Disk.faults in
    let n = g.M.Media in
    let at = c.moment_of-self-inside-in-Err-DiskFault in
    let e = c.in-Err-DiskFault.ensures in
    let is = c.in-Err-DiskFault.field-0-is in
    let old : Grounded D M = record {
      heap = c.self.inside.heap;
      media = c.self.inside.media;
      shown = c.self.inside.shown;
      stopped = c.self.inside.stopped;
      idle = c.self.inside.idle;
      moment = c.self.inside.moment;
      restored = c.self.inside.restored;
    } in
    let new : Grounded D M = record {
      heap = at.new.heap;
      media = c.self.inside.media;
      shown = c.self.inside.shown;
      stopped = true;
      idle = false;
      moment = at.result;
      restored = c.self.inside.restored;
    } in
    let same : at.new.heap ≡ c.cancel.new.heap = at.ensures.same in
    let at_now : at.result ≡ m c.cancel.new.heap.cells.disk = at.ensures.moment ∙ ap (λ (h : Held (Opened D)). m h.cells.disk) same in
    let explained = subst (λ (s : Stop). Explains {T = Unit {0}} (transaction_of f old.heap.cells) (transaction_of f c.cancel.new.heap.cells) (Err s)) is
    e.cause.explained in
    let sound : old.heap.cells.failed ≡ false = explained.0 in
    let since : old.moment ≤ at.result = omega (arith, at_now, c.self.invariant.seen, e.forward) in
    subst (λ (o : Grounded D M). 0 < length o.heap.cells.touched) c.self.view_is
    (let stopped : Stop → Result (Unit {0}) Stop = λ s. Err s in e.some (ap stopped is))

pub returns-in-Err-DiskFault-clause-seen : goal.returns-in-Err-DiskFault-clause-seen
returns-in-Err-DiskFault-clause-seen g c =
    let D = g.row.D.Denot in
    let M = g.row.M.Denot in
    let b = g.D.Disk.bytes in
    let t = g.D.Disk.tells_crashes in
    let m = g.D.Disk.moment in
    let l = g.D.Disk.may_hold_after in
    let f = g.D.Disk.faults in
    let n = g.M.Media in
    let at = c.moment_of-self-inside-in-Err-DiskFault in
    let e = c.in-Err-DiskFault.ensures in
    let is = c.in-Err-DiskFault.field-0-is in
    let old : Grounded D M = record {
      heap = c.self.inside.heap;
      media = c.self.inside.media;
      shown = c.self.inside.shown;
      stopped = c.self.inside.stopped;
      idle = c.self.inside.idle;
      moment = c.self.inside.moment;
      restored = c.self.inside.restored;
    } in
    let new : Grounded D M = record {
      heap = at.new.heap;
      media = c.self.inside.media;
      shown = c.self.inside.shown;
      stopped = true;
      idle = false;
      moment = at.result;
      restored = c.self.inside.restored;
    } in
    let same : at.new.heap ≡ c.cancel.new.heap = at.ensures.same in
    let at_now : at.result ≡ m c.cancel.new.heap.cells.disk = at.ensures.moment ∙ ap (λ (h : Held (Opened D)). m h.cells.disk) same in
    let explained = subst (λ (s : Stop). Explains {T = Unit {0}} (transaction_of f old.heap.cells) (transaction_of f c.cancel.new.heap.cells) (Err s)) is
    e.cause.explained in
    let sound : old.heap.cells.failed ≡ false = explained.0 in
    let since : old.moment ≤ at.result = omega (arith, at_now, c.self.invariant.seen, e.forward) in
    subst (λ (o : Grounded D M). o.moment ≡ m o.heap.cells.disk) c.self.view_is c.self.invariant.seen

pub returns-in-Err-DiskFault-clause-closed : goal.returns-in-Err-DiskFault-clause-closed
returns-in-Err-DiskFault-clause-closed g c =
    let D = g.row.D.Denot in
    let M = g.row.M.Denot in
    let b = g.D.Disk.bytes in
    let t = g.D.Disk.tells_crashes in
    let m = g.D.Disk.moment in
    let l = g.D.Disk.may_hold_after in
    let f = g.D.Disk.faults in
    let n = g.M.Media in
    let at = c.moment_of-self-inside-in-Err-DiskFault in
    let e = c.in-Err-DiskFault.ensures in
    let is = c.in-Err-DiskFault.field-0-is in
    let old : Grounded D M = record {
      heap = c.self.inside.heap;
      media = c.self.inside.media;
      shown = c.self.inside.shown;
      stopped = c.self.inside.stopped;
      idle = c.self.inside.idle;
      moment = c.self.inside.moment;
      restored = c.self.inside.restored;
    } in
    let new : Grounded D M = record {
      heap = at.new.heap;
      media = c.self.inside.media;
      shown = c.self.inside.shown;
      stopped = true;
      idle = false;
      moment = at.result;
      restored = c.self.inside.restored;
    } in
    let same : at.new.heap ≡ c.cancel.new.heap = at.ensures.same in
    let at_now : at.result ≡ m c.cancel.new.heap.cells.disk = at.ensures.moment ∙ ap (λ (h : Held (Opened D)). m h.cells.disk) same in
    let explained = subst (λ (s : Stop). Explains {T = Unit {0}} (transaction_of f old.heap.cells) (transaction_of f c.cancel.new.heap.cells) (Err s)) is
    e.cause.explained in
    let sound : old.heap.cells.failed ≡ false = explained.0 in
    let since : old.moment ≤ at.result = omega (arith, at_now, c.self.invariant.seen, e.forward) in
    subst (λ (o : Grounded D M). first_gate (b o.heap.cells.disk) ≡ 0 → at.new.heap.cells.disk ≡ o.heap.cells.disk) c.self.view_is
    (λ gate. ap (λ (h : Held (Opened D)). h.cells.disk) same ∙ e.same gate)

pub returns-in-Err-DiskFault-clause-still : goal.returns-in-Err-DiskFault-clause-still
returns-in-Err-DiskFault-clause-still g c =
    let D = g.row.D.Denot in
    let M = g.row.M.Denot in
    let b = g.D.Disk.bytes in
    let t = g.D.Disk.tells_crashes in
    let m = g.D.Disk.moment in
    let l = g.D.Disk.may_hold_after in
    let f = g.D.Disk.faults in
    let n = g.M.Media in
    let at = c.moment_of-self-inside-in-Err-DiskFault in
    let e = c.in-Err-DiskFault.ensures in
    let is = c.in-Err-DiskFault.field-0-is in
    let old : Grounded D M = record {
      heap = c.self.inside.heap;
      media = c.self.inside.media;
      shown = c.self.inside.shown;
      stopped = c.self.inside.stopped;
      idle = c.self.inside.idle;
      moment = c.self.inside.moment;
      restored = c.self.inside.restored;
    } in
    let new : Grounded D M = record {
      heap = at.new.heap;
      media = c.self.inside.media;
      shown = c.self.inside.shown;
      stopped = true;
      idle = false;
      moment = at.result;
      restored = c.self.inside.restored;
    } in
    let same : at.new.heap ≡ c.cancel.new.heap = at.ensures.same in
    let at_now : at.result ≡ m c.cancel.new.heap.cells.disk = at.ensures.moment ∙ ap (λ (h : Held (Opened D)). m h.cells.disk) same in
    let explained = subst (λ (s : Stop). Explains {T = Unit {0}} (transaction_of f old.heap.cells) (transaction_of f c.cancel.new.heap.cells) (Err s)) is
    e.cause.explained in
    let sound : old.heap.cells.failed ≡ false = explained.0 in
    let since : old.moment ≤ at.result = omega (arith, at_now, c.self.invariant.seen, e.forward) in
    subst (λ (o : Grounded D M). o.heap.cells.touched ≡ [] → at.new.heap.cells.disk ≡ o.heap.cells.disk) c.self.view_is
    (λ none. ap (λ (h : Held (Opened D)). h.cells.disk) same ∙ e.idle none)

pub returns-in-Err-DiskFault-clause-calls : goal.returns-in-Err-DiskFault-clause-calls
returns-in-Err-DiskFault-clause-calls g c =
    let D = g.row.D.Denot in
    let M = g.row.M.Denot in
    let b = g.D.Disk.bytes in
    let t = g.D.Disk.tells_crashes in
    let m = g.D.Disk.moment in
    let l = g.D.Disk.may_hold_after in
    let f = g.D.Disk.faults in
    let n = g.M.Media in
    let at = c.moment_of-self-inside-in-Err-DiskFault in
    let e = c.in-Err-DiskFault.ensures in
    let is = c.in-Err-DiskFault.field-0-is in
    let old : Grounded D M = record {
      heap = c.self.inside.heap;
      media = c.self.inside.media;
      shown = c.self.inside.shown;
      stopped = c.self.inside.stopped;
      idle = c.self.inside.idle;
      moment = c.self.inside.moment;
      restored = c.self.inside.restored;
    } in
    let new : Grounded D M = record {
      heap = at.new.heap;
      media = c.self.inside.media;
      shown = c.self.inside.shown;
      stopped = true;
      idle = false;
      moment = at.result;
      restored = c.self.inside.restored;
    } in
    let same : at.new.heap ≡ c.cancel.new.heap = at.ensures.same in
    let at_now : at.result ≡ m c.cancel.new.heap.cells.disk = at.ensures.moment ∙ ap (λ (h : Held (Opened D)). m h.cells.disk) same in
    let explained = subst (λ (s : Stop). Explains {T = Unit {0}} (transaction_of f old.heap.cells) (transaction_of f c.cancel.new.heap.cells) (Err s)) is
    e.cause.explained in
    let sound : old.heap.cells.failed ≡ false = explained.0 in
    let since : old.moment ≤ at.result = omega (arith, at_now, c.self.invariant.seen, e.forward) in
    subst (λ (o : Grounded D M). at.result ≤ o.moment + 2 * calls_of (length o.heap.cells.touched)) c.self.view_is
    (omega (arith, e.calls, at_now, c.self.invariant.seen))

pub returns-in-Err-DiskFault-clause-time : goal.returns-in-Err-DiskFault-clause-time
returns-in-Err-DiskFault-clause-time g c =
    let D = g.row.D.Denot in
    let M = g.row.M.Denot in
    let b = g.D.Disk.bytes in
    let t = g.D.Disk.tells_crashes in
    let m = g.D.Disk.moment in
    let l = g.D.Disk.may_hold_after in
    let f = g.D.Disk.faults in
    let n = g.M.Media in
    let at = c.moment_of-self-inside-in-Err-DiskFault in
    let e = c.in-Err-DiskFault.ensures in
    let is = c.in-Err-DiskFault.field-0-is in
    let old : Grounded D M = record {
      heap = c.self.inside.heap;
      media = c.self.inside.media;
      shown = c.self.inside.shown;
      stopped = c.self.inside.stopped;
      idle = c.self.inside.idle;
      moment = c.self.inside.moment;
      restored = c.self.inside.restored;
    } in
    let new : Grounded D M = record {
      heap = at.new.heap;
      media = c.self.inside.media;
      shown = c.self.inside.shown;
      stopped = true;
      idle = false;
      moment = at.result;
      restored = c.self.inside.restored;
    } in
    let same : at.new.heap ≡ c.cancel.new.heap = at.ensures.same in
    let at_now : at.result ≡ m c.cancel.new.heap.cells.disk = at.ensures.moment ∙ ap (λ (h : Held (Opened D)). m h.cells.disk) same in
    let explained = subst (λ (s : Stop). Explains {T = Unit {0}} (transaction_of f old.heap.cells) (transaction_of f c.cancel.new.heap.cells) (Err s)) is
    e.cause.explained in
    let sound : old.heap.cells.failed ≡ false = explained.0 in
    let since : old.moment ≤ at.result = omega (arith, at_now, c.self.invariant.seen, e.forward) in
    subst (λ (o : Grounded D M). o.moment ≤ at.result) c.self.view_is since

pub returns-in-Err-DiskFault-clause-keeps : goal.returns-in-Err-DiskFault-clause-keeps
returns-in-Err-DiskFault-clause-keeps g c =
    let D = g.row.D.Denot in
    let M = g.row.M.Denot in
    let b = g.D.Disk.bytes in
    let t = g.D.Disk.tells_crashes in
    let m = g.D.Disk.moment in
    let l = g.D.Disk.may_hold_after in
    let f = g.D.Disk.faults in
    let n = g.M.Media in
    let at = c.moment_of-self-inside-in-Err-DiskFault in
    let e = c.in-Err-DiskFault.ensures in
    let is = c.in-Err-DiskFault.field-0-is in
    let old : Grounded D M = record {
      heap = c.self.inside.heap;
      media = c.self.inside.media;
      shown = c.self.inside.shown;
      stopped = c.self.inside.stopped;
      idle = c.self.inside.idle;
      moment = c.self.inside.moment;
      restored = c.self.inside.restored;
    } in
    let new : Grounded D M = record {
      heap = at.new.heap;
      media = c.self.inside.media;
      shown = c.self.inside.shown;
      stopped = true;
      idle = false;
      moment = at.result;
      restored = c.self.inside.restored;
    } in
    let same : at.new.heap ≡ c.cancel.new.heap = at.ensures.same in
    let at_now : at.result ≡ m c.cancel.new.heap.cells.disk = at.ensures.moment ∙ ap (λ (h : Held (Opened D)). m h.cells.disk) same in
    let explained = subst (λ (s : Stop). Explains {T = Unit {0}} (transaction_of f old.heap.cells) (transaction_of f c.cancel.new.heap.cells) (Err s)) is
    e.cause.explained in
    let sound : old.heap.cells.failed ≡ false = explained.0 in
    let since : old.moment ≤ at.result = omega (arith, at_now, c.self.invariant.seen, e.forward) in
    subst (λ (o : Grounded D M). KeepsGround (heap_ground b t m f l n) false o new) c.self.view_is
    (keeps_later b t m f l n old new refl (subst (λ (h : Held (Opened D)). f old.heap.cells.disk ≤ f h.cells.disk) (sym same) e.cause.later))

pub returns-in-Err-DiskFault-clause-inside : goal.returns-in-Err-DiskFault-clause-inside
returns-in-Err-DiskFault-clause-inside g c =
    let D = g.row.D.Denot in
    let M = g.row.M.Denot in
    let b = g.D.Disk.bytes in
    let t = g.D.Disk.tells_crashes in
    let m = g.D.Disk.moment in
    let l = g.D.Disk.may_hold_after in
    let f = g.D.Disk.faults in
    let n = g.M.Media in
    let at = c.moment_of-self-inside-in-Err-DiskFault in
    let e = c.in-Err-DiskFault.ensures in
    let is = c.in-Err-DiskFault.field-0-is in
    let old : Grounded D M = record {
      heap = c.self.inside.heap;
      media = c.self.inside.media;
      shown = c.self.inside.shown;
      stopped = c.self.inside.stopped;
      idle = c.self.inside.idle;
      moment = c.self.inside.moment;
      restored = c.self.inside.restored;
    } in
    let new : Grounded D M = record {
      heap = at.new.heap;
      media = c.self.inside.media;
      shown = c.self.inside.shown;
      stopped = true;
      idle = false;
      moment = at.result;
      restored = c.self.inside.restored;
    } in
    let same : at.new.heap ≡ c.cancel.new.heap = at.ensures.same in
    let at_now : at.result ≡ m c.cancel.new.heap.cells.disk = at.ensures.moment ∙ ap (λ (h : Held (Opened D)). m h.cells.disk) same in
    let explained = subst (λ (s : Stop). Explains {T = Unit {0}} (transaction_of f old.heap.cells) (transaction_of f c.cancel.new.heap.cells) (Err s)) is
    e.cause.explained in
    let sound : old.heap.cells.failed ≡ false = explained.0 in
    let since : old.moment ≤ at.result = omega (arith, at_now, c.self.invariant.seen, e.forward) in
    subst (λ (o : Grounded D M). StaysInside b t o new) c.self.view_is
    (inside_closed b t old new c.cancel.new.heap same (stays_frame _ _ _ e.stays) e.disk.tells e.inside)

pub returns-in-Err-DiskFault-clause-any_moment : goal.returns-in-Err-DiskFault-clause-any_moment
returns-in-Err-DiskFault-clause-any_moment g c =
    let D = g.row.D.Denot in
    let M = g.row.M.Denot in
    let b = g.D.Disk.bytes in
    let t = g.D.Disk.tells_crashes in
    let m = g.D.Disk.moment in
    let l = g.D.Disk.may_hold_after in
    let f = g.D.Disk.faults in
    let n = g.M.Media in
    let at = c.moment_of-self-inside-in-Err-DiskFault in
    let e = c.in-Err-DiskFault.ensures in
    let is = c.in-Err-DiskFault.field-0-is in
    let old : Grounded D M = record {
      heap = c.self.inside.heap;
      media = c.self.inside.media;
      shown = c.self.inside.shown;
      stopped = c.self.inside.stopped;
      idle = c.self.inside.idle;
      moment = c.self.inside.moment;
      restored = c.self.inside.restored;
    } in
    let new : Grounded D M = record {
      heap = at.new.heap;
      media = c.self.inside.media;
      shown = c.self.inside.shown;
      stopped = true;
      idle = false;
      moment = at.result;
      restored = c.self.inside.restored;
    } in
    let same : at.new.heap ≡ c.cancel.new.heap = at.ensures.same in
    let at_now : at.result ≡ m c.cancel.new.heap.cells.disk = at.ensures.moment ∙ ap (λ (h : Held (Opened D)). m h.cells.disk) same in
    let explained = subst (λ (s : Stop). Explains {T = Unit {0}} (transaction_of f old.heap.cells) (transaction_of f c.cancel.new.heap.cells) (Err s)) is
    e.cause.explained in
    let sound : old.heap.cells.failed ≡ false = explained.0 in
    let since : old.moment ≤ at.result = omega (arith, at_now, c.self.invariant.seen, e.forward) in
    subst (λ (o : Grounded D M). LeavesBefore (heap_ground b t m f l n) o new) c.self.view_is
    (leaves_back b t m f l n old c.cancel.new.heap.cells.disk at.result at_now since sound e.disk.tells _ (e.any_moment sound) new
    (ap (λ (h : Held (Opened D)). h.cells.disk) same) refl (λ image p. p))

pub invariant_of-self-in-Err-DiskFault : goal.invariant_of-self-in-Err-DiskFault
invariant_of-self-in-Err-DiskFault g c =
    let D = g.row.D.Denot in
    let M = g.row.M.Denot in
    let b = g.D.Disk.bytes in
    let t = g.D.Disk.tells_crashes in
    let m = g.D.Disk.moment in
    let l = g.D.Disk.may_hold_after in
    let f = g.D.Disk.faults in
    let n = g.M.Media in
    let at = c.moment_of-self-inside-in-Err-DiskFault in
    let e = c.in-Err-DiskFault.ensures in
    let is = c.in-Err-DiskFault.field-0-is in
    let old : Grounded D M = record {
      heap = c.self.inside.heap;
      media = c.self.inside.media;
      shown = c.self.inside.shown;
      stopped = c.self.inside.stopped;
      idle = c.self.inside.idle;
      moment = c.self.inside.moment;
      restored = c.self.inside.restored;
    } in
    let new : Grounded D M = record {
      heap = at.new.heap;
      media = c.self.inside.media;
      shown = c.self.inside.shown;
      stopped = true;
      idle = false;
      moment = at.result;
      restored = c.self.inside.restored;
    } in
    let same : at.new.heap ≡ c.cancel.new.heap = at.ensures.same in
    let at_now : at.result ≡ m c.cancel.new.heap.cells.disk = at.ensures.moment ∙ ap (λ (h : Held (Opened D)). m h.cells.disk) same in
    let explained = subst (λ (s : Stop). Explains {T = Unit {0}} (transaction_of f old.heap.cells) (transaction_of f c.cancel.new.heap.cells) (Err s)) is
    e.cause.explained in
    let sound : old.heap.cells.failed ≡ false = explained.0 in
    let since : old.moment ≤ at.result = omega (arith, at_now, c.self.invariant.seen, e.forward) in
    ground_failed m new (at_now ∙ ap (λ (h : Held (Opened D)). m h.cells.disk) (sym same)) refl refl
    (ap (λ (h : Held (Opened D)). h.cells.failed) same ∙ explained.1)

pub returns-in-Err-Failed-clause-inside : goal.returns-in-Err-Failed-clause-inside
returns-in-Err-Failed-clause-inside g c =
    let D = g.row.D.Denot in
    let M = g.row.M.Denot in
    let b = g.D.Disk.bytes in
    let t = g.D.Disk.tells_crashes in
    let m = g.D.Disk.moment in
    let l = g.D.Disk.may_hold_after in
    let f = g.D.Disk.faults in
    let n = g.M.Media in
    let e = c.in-Err-Failed.ensures in
    let is = c.in-Err-Failed.field-0-is in
    let old : Grounded D M = record {
      heap = c.self.inside.heap;
      media = c.self.inside.media;
      shown = c.self.inside.shown;
      stopped = c.self.inside.stopped;
      idle = c.self.inside.idle;
      moment = c.self.inside.moment;
      restored = c.self.inside.restored;
    } in
    let same : c.cancel.new.heap.cells ≡ old.heap.cells =
    subst (λ (s : Stop). StaysAt {T = Unit {0}} (Err s) old.heap.cells c.cancel.new.heap.cells) is e.stays in
    let whole : c.cancel.new.heap ≡ old.heap = e.stops ∙ ap (λ (i : Opened D). record old.heap { cells = i }) same in
    let new : Grounded D M = record old { heap = c.cancel.new.heap } in
    let unchanged : new ≡ old = ap (λ (h : Held (Opened D)). record old { heap = h }) whole in
    let explained = subst (λ (s : Stop). Explains {T = Unit {0}} (transaction_of f old.heap.cells) (transaction_of f c.cancel.new.heap.cells) (Err s)) is
    e.cause.explained in
    subst (λ (o : Grounded D M). StaysInside b t o new) c.self.view_is
    (inside_same b t old new c.cancel.new.heap refl (ap (λ (i : Opened D). i.frame) same) (ap (λ (i : Opened D). i.disk) same))

pub returns-in-Err-Failed-clause-holds : goal.returns-in-Err-Failed-clause-holds
returns-in-Err-Failed-clause-holds g c =
    let D = g.row.D.Denot in
    let M = g.row.M.Denot in
    let b = g.D.Disk.bytes in
    let t = g.D.Disk.tells_crashes in
    let m = g.D.Disk.moment in
    let l = g.D.Disk.may_hold_after in
    let f = g.D.Disk.faults in
    let n = g.M.Media in
    let e = c.in-Err-Failed.ensures in
    let is = c.in-Err-Failed.field-0-is in
    let old : Grounded D M = record {
      heap = c.self.inside.heap;
      media = c.self.inside.media;
      shown = c.self.inside.shown;
      stopped = c.self.inside.stopped;
      idle = c.self.inside.idle;
      moment = c.self.inside.moment;
      restored = c.self.inside.restored;
    } in
    let same : c.cancel.new.heap.cells ≡ old.heap.cells =
    subst (λ (s : Stop). StaysAt {T = Unit {0}} (Err s) old.heap.cells c.cancel.new.heap.cells) is e.stays in
    let whole : c.cancel.new.heap ≡ old.heap = e.stops ∙ ap (λ (i : Opened D). record old.heap { cells = i }) same in
    let new : Grounded D M = record old { heap = c.cancel.new.heap } in
    let unchanged : new ≡ old = ap (λ (h : Held (Opened D)). record old { heap = h }) whole in
    let explained = subst (λ (s : Stop). Explains {T = Unit {0}} (transaction_of f old.heap.cells) (transaction_of f c.cancel.new.heap.cells) (Err s)) is
    e.cause.explained in
    λ sound. absurd (true≢false (sym explained.1 ∙ sound))

pub returns-in-Err-Failed-clause-seen : goal.returns-in-Err-Failed-clause-seen
returns-in-Err-Failed-clause-seen g c =
    let D = g.row.D.Denot in
    let M = g.row.M.Denot in
    let b = g.D.Disk.bytes in
    let t = g.D.Disk.tells_crashes in
    let m = g.D.Disk.moment in
    let l = g.D.Disk.may_hold_after in
    let f = g.D.Disk.faults in
    let n = g.M.Media in
    let e = c.in-Err-Failed.ensures in
    let is = c.in-Err-Failed.field-0-is in
    let old : Grounded D M = record {
      heap = c.self.inside.heap;
      media = c.self.inside.media;
      shown = c.self.inside.shown;
      stopped = c.self.inside.stopped;
      idle = c.self.inside.idle;
      moment = c.self.inside.moment;
      restored = c.self.inside.restored;
    } in
    let same : c.cancel.new.heap.cells ≡ old.heap.cells =
    subst (λ (s : Stop). StaysAt {T = Unit {0}} (Err s) old.heap.cells c.cancel.new.heap.cells) is e.stays in
    let whole : c.cancel.new.heap ≡ old.heap = e.stops ∙ ap (λ (i : Opened D). record old.heap { cells = i }) same in
    let new : Grounded D M = record old { heap = c.cancel.new.heap } in
    let unchanged : new ≡ old = ap (λ (h : Held (Opened D)). record old { heap = h }) whole in
    let explained = subst (λ (s : Stop). Explains {T = Unit {0}} (transaction_of f old.heap.cells) (transaction_of f c.cancel.new.heap.cells) (Err s)) is
    e.cause.explained in
    subst (λ (o : Grounded D M). o.moment ≡ m o.heap.cells.disk) c.self.view_is c.self.invariant.seen

pub returns-in-Err-Failed-clause-closed : goal.returns-in-Err-Failed-clause-closed
returns-in-Err-Failed-clause-closed g c =
    let D = g.row.D.Denot in
    let M = g.row.M.Denot in
    let b = g.D.Disk.bytes in
    let t = g.D.Disk.tells_crashes in
    let m = g.D.Disk.moment in
    let l = g.D.Disk.may_hold_after in
    let f = g.D.Disk.faults in
    let n = g.M.Media in
    let e = c.in-Err-Failed.ensures in
    let is = c.in-Err-Failed.field-0-is in
    let old : Grounded D M = record {
      heap = c.self.inside.heap;
      media = c.self.inside.media;
      shown = c.self.inside.shown;
      stopped = c.self.inside.stopped;
      idle = c.self.inside.idle;
      moment = c.self.inside.moment;
      restored = c.self.inside.restored;
    } in
    let same : c.cancel.new.heap.cells ≡ old.heap.cells =
    subst (λ (s : Stop). StaysAt {T = Unit {0}} (Err s) old.heap.cells c.cancel.new.heap.cells) is e.stays in
    let whole : c.cancel.new.heap ≡ old.heap = e.stops ∙ ap (λ (i : Opened D). record old.heap { cells = i }) same in
    let new : Grounded D M = record old { heap = c.cancel.new.heap } in
    let unchanged : new ≡ old = ap (λ (h : Held (Opened D)). record old { heap = h }) whole in
    let explained = subst (λ (s : Stop). Explains {T = Unit {0}} (transaction_of f old.heap.cells) (transaction_of f c.cancel.new.heap.cells) (Err s)) is
    e.cause.explained in
    subst (λ (o : Grounded D M). first_gate (b o.heap.cells.disk) ≡ 0 → c.cancel.new.heap.cells.disk ≡ o.heap.cells.disk) c.self.view_is
    (λ gate. ap (λ (i : Opened D). i.disk) same)

pub returns-in-Err-Failed-clause-still : goal.returns-in-Err-Failed-clause-still
returns-in-Err-Failed-clause-still g c =
    let D = g.row.D.Denot in
    let M = g.row.M.Denot in
    let b = g.D.Disk.bytes in
    let t = g.D.Disk.tells_crashes in
    let m = g.D.Disk.moment in
    let l = g.D.Disk.may_hold_after in
    let f = g.D.Disk.faults in
    let n = g.M.Media in
    let e = c.in-Err-Failed.ensures in
    let is = c.in-Err-Failed.field-0-is in
    let old : Grounded D M = record {
      heap = c.self.inside.heap;
      media = c.self.inside.media;
      shown = c.self.inside.shown;
      stopped = c.self.inside.stopped;
      idle = c.self.inside.idle;
      moment = c.self.inside.moment;
      restored = c.self.inside.restored;
    } in
    let same : c.cancel.new.heap.cells ≡ old.heap.cells =
    subst (λ (s : Stop). StaysAt {T = Unit {0}} (Err s) old.heap.cells c.cancel.new.heap.cells) is e.stays in
    let whole : c.cancel.new.heap ≡ old.heap = e.stops ∙ ap (λ (i : Opened D). record old.heap { cells = i }) same in
    let new : Grounded D M = record old { heap = c.cancel.new.heap } in
    let unchanged : new ≡ old = ap (λ (h : Held (Opened D)). record old { heap = h }) whole in
    let explained = subst (λ (s : Stop). Explains {T = Unit {0}} (transaction_of f old.heap.cells) (transaction_of f c.cancel.new.heap.cells) (Err s)) is
    e.cause.explained in
    subst (λ (o : Grounded D M). o.heap.cells.touched ≡ [] → c.cancel.new.heap.cells.disk ≡ o.heap.cells.disk) c.self.view_is
    (λ none. ap (λ (i : Opened D). i.disk) same)

pub returns-in-Err-Failed-clause-calls : goal.returns-in-Err-Failed-clause-calls
returns-in-Err-Failed-clause-calls g c =
    let D = g.row.D.Denot in
    let M = g.row.M.Denot in
    let b = g.D.Disk.bytes in
    let t = g.D.Disk.tells_crashes in
    let m = g.D.Disk.moment in
    let l = g.D.Disk.may_hold_after in
    let f = g.D.Disk.faults in
    let n = g.M.Media in
    let e = c.in-Err-Failed.ensures in
    let is = c.in-Err-Failed.field-0-is in
    let old : Grounded D M = record {
      heap = c.self.inside.heap;
      media = c.self.inside.media;
      shown = c.self.inside.shown;
      stopped = c.self.inside.stopped;
      idle = c.self.inside.idle;
      moment = c.self.inside.moment;
      restored = c.self.inside.restored;
    } in
    let same : c.cancel.new.heap.cells ≡ old.heap.cells =
    subst (λ (s : Stop). StaysAt {T = Unit {0}} (Err s) old.heap.cells c.cancel.new.heap.cells) is e.stays in
    let whole : c.cancel.new.heap ≡ old.heap = e.stops ∙ ap (λ (i : Opened D). record old.heap { cells = i }) same in
    let new : Grounded D M = record old { heap = c.cancel.new.heap } in
    let unchanged : new ≡ old = ap (λ (h : Held (Opened D)). record old { heap = h }) whole in
    let explained = subst (λ (s : Stop). Explains {T = Unit {0}} (transaction_of f old.heap.cells) (transaction_of f c.cancel.new.heap.cells) (Err s)) is
    e.cause.explained in
    subst (λ (o : Grounded D M). old.moment ≤ o.moment + 2 * calls_of (length o.heap.cells.touched)) c.self.view_is (omega arith)

pub returns-in-Err-Failed-clause-begun : goal.returns-in-Err-Failed-clause-begun
returns-in-Err-Failed-clause-begun g c =
    let D = g.row.D.Denot in
    let M = g.row.M.Denot in
    let b = g.D.Disk.bytes in
    let t = g.D.Disk.tells_crashes in
    let m = g.D.Disk.moment in
    let l = g.D.Disk.may_hold_after in
    let f = g.D.Disk.faults in
    let n = g.M.Media in
    let e = c.in-Err-Failed.ensures in
    let is = c.in-Err-Failed.field-0-is in
    let old : Grounded D M = record {
      heap = c.self.inside.heap;
      media = c.self.inside.media;
      shown = c.self.inside.shown;
      stopped = c.self.inside.stopped;
      idle = c.self.inside.idle;
      moment = c.self.inside.moment;
      restored = c.self.inside.restored;
    } in
    let same : c.cancel.new.heap.cells ≡ old.heap.cells =
    subst (λ (s : Stop). StaysAt {T = Unit {0}} (Err s) old.heap.cells c.cancel.new.heap.cells) is e.stays in
    let whole : c.cancel.new.heap ≡ old.heap = e.stops ∙ ap (λ (i : Opened D). record old.heap { cells = i }) same in
    let new : Grounded D M = record old { heap = c.cancel.new.heap } in
    let unchanged : new ≡ old = ap (λ (h : Held (Opened D)). record old { heap = h }) whole in
    let explained = subst (λ (s : Stop). Explains {T = Unit {0}} (transaction_of f old.heap.cells) (transaction_of f c.cancel.new.heap.cells) (Err s)) is
    e.cause.explained in
    subst (λ (o : Grounded D M). c.cancel.new.heap.cells.begun ≡ o.heap.cells.begun) c.self.view_is (ap (λ (i : Opened D). i.begun) same)

pub returns-in-Err-Failed-clause-untouched : goal.returns-in-Err-Failed-clause-untouched
returns-in-Err-Failed-clause-untouched g c =
    let D = g.row.D.Denot in
    let M = g.row.M.Denot in
    let b = g.D.Disk.bytes in
    let t = g.D.Disk.tells_crashes in
    let m = g.D.Disk.moment in
    let l = g.D.Disk.may_hold_after in
    let f = g.D.Disk.faults in
    let n = g.M.Media in
    let e = c.in-Err-Failed.ensures in
    let is = c.in-Err-Failed.field-0-is in
    let old : Grounded D M = record {
      heap = c.self.inside.heap;
      media = c.self.inside.media;
      shown = c.self.inside.shown;
      stopped = c.self.inside.stopped;
      idle = c.self.inside.idle;
      moment = c.self.inside.moment;
      restored = c.self.inside.restored;
    } in
    let same : c.cancel.new.heap.cells ≡ old.heap.cells =
    subst (λ (s : Stop). StaysAt {T = Unit {0}} (Err s) old.heap.cells c.cancel.new.heap.cells) is e.stays in
    let whole : c.cancel.new.heap ≡ old.heap = e.stops ∙ ap (λ (i : Opened D). record old.heap { cells = i }) same in
    let new : Grounded D M = record old { heap = c.cancel.new.heap } in
    let unchanged : new ≡ old = ap (λ (h : Held (Opened D)). record old { heap = h }) whole in
    let explained = subst (λ (s : Stop). Explains {T = Unit {0}} (transaction_of f old.heap.cells) (transaction_of f c.cancel.new.heap.cells) (Err s)) is
    e.cause.explained in
    subst (λ (o : Grounded D M). o.heap.cells.failed ≡ false → c.cancel.new.heap.cells.touched ≡ []) c.self.view_is
    (λ sound. absurd (true≢false (sym explained.0 ∙ sound)))

pub invariant_of-self-in-Err-Failed : goal.invariant_of-self-in-Err-Failed
invariant_of-self-in-Err-Failed g c =
    let D = g.row.D.Denot in
    let M = g.row.M.Denot in
    let b = g.D.Disk.bytes in
    let t = g.D.Disk.tells_crashes in
    let m = g.D.Disk.moment in
    let l = g.D.Disk.may_hold_after in
    let f = g.D.Disk.faults in
    let n = g.M.Media in
    let e = c.in-Err-Failed.ensures in
    let is = c.in-Err-Failed.field-0-is in
    let old : Grounded D M = record {
      heap = c.self.inside.heap;
      media = c.self.inside.media;
      shown = c.self.inside.shown;
      stopped = c.self.inside.stopped;
      idle = c.self.inside.idle;
      moment = c.self.inside.moment;
      restored = c.self.inside.restored;
    } in
    let same : c.cancel.new.heap.cells ≡ old.heap.cells =
    subst (λ (s : Stop). StaysAt {T = Unit {0}} (Err s) old.heap.cells c.cancel.new.heap.cells) is e.stays in
    let whole : c.cancel.new.heap ≡ old.heap = e.stops ∙ ap (λ (i : Opened D). record old.heap { cells = i }) same in
    let new : Grounded D M = record old { heap = c.cancel.new.heap } in
    let unchanged : new ≡ old = ap (λ (h : Held (Opened D)). record old { heap = h }) whole in
    let explained = subst (λ (s : Stop). Explains {T = Unit {0}} (transaction_of f old.heap.cells) (transaction_of f c.cancel.new.heap.cells) (Err s)) is
    e.cause.explained in
    subst (λ (o : Grounded D M). IsGround m o) (sym unchanged) c.self.invariant
