use Rattle.std.proofs.Common.{arith, ◌≡◌, ◌∙◌, ◌≤◌, ◌+◌, ◌*◌, [], true, ap, false, length, refl, subst}
use Rattle.sdr_heap.specs.Noted.{Held}
use Rattle.sdr_image.specs.Opened.{Opened, Rests}
use Rattle.sdr_image.specs.Saved.{calls_of}
use Rattle.sdr_machine.specs.Crash.{LeavesEither}
use Rattle.sdr_machine.specs.Serving.{Commits, MeetsFault}
use Rattle.sdr_station.proofs.ClosingLemmas.{ClosesTo, closes_kept, kept_ground, leaves_either, meets_fault}
use Rattle.sdr_station.proofs.GroundLemmas.{heap_ground}
use Rattle.sdr_station.proofs.InsideLemmas.{inside_closed, stays_frame}
use Rattle.sdr_station.specs.Grounded.{Grounded, StaysInside}
use Rattle.sdr_station.proofs.ground.HeapGround.save.Goals as goal

pub returns-in-Ok : goal.returns-in-Ok
returns-in-Ok g c =
    let D = g.row.D.Denot in
    let M = g.row.M.Denot in
    let b = g.D.Disk.bytes in
    let t = g.D.Disk.tells_crashes in
    let m = g.D.Disk.moment in
    let l = g.D.Disk.may_hold_after in
    let f = g.D.Disk.faults in
    let n = g.M.Media in
    let at = c.moment_of-self-inside in
    let e = c.in-Ok.ensures in
    let old : Grounded D M = record {
      heap = c.self.inside.heap;
      media = c.self.inside.media;
      shown = c.self.inside.shown;
      stopped = c.self.inside.stopped;
      idle = c.self.inside.idle;
      moment = c.self.inside.moment;
      restored = c.self.inside.restored;
    } in
    let going : old.stopped ≡ false = ap (λ (o : Grounded D M). o.stopped) c.self.view_is ∙ c.requires.going in
    let disk = c.commit.new.heap.cells.disk in
    let new : Grounded D M = record {
      heap = at.new.heap;
      media = c.self.inside.media;
      shown = c.clear.new.self;
      stopped = false;
      idle = true;
      moment = at.result;
      restored = c.self.inside.restored;
    } in
    let heap : at.new.heap ≡ (kept_ground old disk at.result).heap = at.ensures.same ∙ e.ended in
    let is : new ≡ kept_ground old disk at.result =
    λ i. record { heap = heap i; media = old.media; shown = c.clear.ensures i; stopped = false; idle = true; moment = at.result; restored = old.restored } in
    let at_now = at.ensures.moment ∙ ap (λ (h : Held (Opened D)). m h.cells.disk) at.ensures.same in
    let since : old.moment ≤ at.result = omega (arith, at_now, c.self.invariant.seen, e.forward) in
    let sound : old.heap.cells.failed ≡ false = e.cause.explained.0 in
    let closed = closes_kept b t m f l n old disk at.result at_now since sound e.disk.tells _ (e.any_moment sound) new is c.self.invariant going
    e.cause.later (λ rests. subst (λ (h : Held (Opened D)). Rests b t m l h.cells) e.ended (e.rests rests)) (λ image p. p) in
    let all : ClosesTo b t m f l n true Commits c.args.self.now new = subst (λ (o : Grounded D M). ClosesTo b t m f l n true Commits o new) c.self.view_is closed in
    record {
      memory = all.memory;
      kept = all.brings;
      going = refl;
      idle = refl;
      sound = all.sound;
      restored = ap (λ (o : Grounded D M). o.restored) c.self.view_is;
      media = ap (λ (o : Grounded D M). o.media) c.self.view_is;
      fault = tt;
      still = subst (λ (o : Grounded D M). o.heap.cells.touched ≡ [] → new.heap.cells.disk ≡ o.heap.cells.disk) c.self.view_is
          (λ none. ap (λ (h : Held (Opened D)). h.cells.disk) at.ensures.same ∙ e.idle none);
      calls = subst (λ (o : Grounded D M). new.moment ≤ o.moment + 2 * calls_of (length o.heap.cells.touched)) c.self.view_is
          (omega (arith, e.calls, at_now, c.self.invariant.seen));
      time = all.time;
      keeps = all.keeps;
      inside = subst (λ (o : Grounded D M). StaysInside b t o new) c.self.view_is
          (inside_closed b t old new c.commit.new.heap at.ensures.same (ap (λ (h : Held (Opened D)). h.cells.frame) e.ended)
          e.disk.tells e.inside);
      any_moment = all.any_moment;
    }

pub returns-in-Err-clause-any_moment : goal.returns-in-Err-clause-any_moment
returns-in-Err-clause-any_moment g c =
    let D = g.row.D.Denot in
    let M = g.row.M.Denot in
    let b = g.D.Disk.bytes in
    let t = g.D.Disk.tells_crashes in
    let m = g.D.Disk.moment in
    let l = g.D.Disk.may_hold_after in
    let f = g.D.Disk.faults in
    let n = g.M.Media in
    let at = c.moment_of-self-inside-in-Err in
    let e = c.in-Err.ensures in
    let old : Grounded D M = record {
      heap = c.self.inside.heap;
      media = c.self.inside.media;
      shown = c.self.inside.shown;
      stopped = c.self.inside.stopped;
      idle = c.self.inside.idle;
      moment = c.self.inside.moment;
      restored = c.self.inside.restored;
    } in
    let going : old.stopped ≡ false = ap (λ (o : Grounded D M). o.stopped) c.self.view_is ∙ c.requires.going in
    let new : Grounded D M = record {
      heap = at.new.heap;
      media = c.self.inside.media;
      shown = c.self.inside.shown;
      stopped = true;
      idle = false;
      moment = at.result;
      restored = c.self.inside.restored;
    } in
    let disk = c.commit.new.heap.cells.disk in
    let at_now = at.ensures.moment ∙ ap (λ (h : Held (Opened D)). m h.cells.disk) at.ensures.same in
    let since : old.moment ≤ at.result = omega (arith, at_now, c.self.invariant.seen, e.forward) in
    let sound : old.heap.cells.failed ≡ false = c.self.invariant.sound going in
    subst (λ (o : Grounded D M). LeavesEither (heap_ground b t m f l n) o new) c.self.view_is
    (leaves_either b t m f l n old disk at.result at_now since sound e.disk.tells _ (e.any_moment sound) new
    (ap (λ (h : Held (Opened D)). h.cells.disk) at.ensures.same) refl going (λ image p. p))

pub invariant_of-self : goal.invariant_of-self
invariant_of-self g c =
    let D = g.row.D.Denot in
    let M = g.row.M.Denot in
    let b = g.D.Disk.bytes in
    let t = g.D.Disk.tells_crashes in
    let m = g.D.Disk.moment in
    let l = g.D.Disk.may_hold_after in
    let f = g.D.Disk.faults in
    let n = g.M.Media in
    let at = c.moment_of-self-inside in
    let e = c.in-Ok.ensures in
    let old : Grounded D M = record {
      heap = c.self.inside.heap;
      media = c.self.inside.media;
      shown = c.self.inside.shown;
      stopped = c.self.inside.stopped;
      idle = c.self.inside.idle;
      moment = c.self.inside.moment;
      restored = c.self.inside.restored;
    } in
    let going : old.stopped ≡ false = ap (λ (o : Grounded D M). o.stopped) c.self.view_is ∙ c.requires.going in
    let disk = c.commit.new.heap.cells.disk in
    let new : Grounded D M = record {
      heap = at.new.heap;
      media = c.self.inside.media;
      shown = c.clear.new.self;
      stopped = false;
      idle = true;
      moment = at.result;
      restored = c.self.inside.restored;
    } in
    let heap : at.new.heap ≡ (kept_ground old disk at.result).heap = at.ensures.same ∙ e.ended in
    let is : new ≡ kept_ground old disk at.result =
    λ i. record { heap = heap i; media = old.media; shown = c.clear.ensures i; stopped = false; idle = true; moment = at.result; restored = old.restored } in
    let at_now = at.ensures.moment ∙ ap (λ (h : Held (Opened D)). m h.cells.disk) at.ensures.same in
    let since : old.moment ≤ at.result = omega (arith, at_now, c.self.invariant.seen, e.forward) in
    let sound : old.heap.cells.failed ≡ false = e.cause.explained.0 in
    let closed = closes_kept b t m f l n old disk at.result at_now since sound e.disk.tells _ (e.any_moment sound) new is c.self.invariant going
    e.cause.later (λ rests. subst (λ (h : Held (Opened D)). Rests b t m l h.cells) e.ended (e.rests rests)) (λ image p. p) in
    closed.is_ground

pub returns-in-Err-clause-fault : goal.returns-in-Err-clause-fault
returns-in-Err-clause-fault g c =
    let D = g.row.D.Denot in
    let M = g.row.M.Denot in
    let b = g.D.Disk.bytes in
    let t = g.D.Disk.tells_crashes in
    let m = g.D.Disk.moment in
    let l = g.D.Disk.may_hold_after in
    let f = g.D.Disk.faults in
    let n = g.M.Media in
    let e = c.in-Err.ensures in
    let at = c.moment_of-self-inside-in-Err in
    let new : Grounded D M = record {
      heap = at.new.heap;
      media = c.self.inside.media;
      shown = c.self.inside.shown;
      stopped = true;
      idle = false;
      moment = at.result;
      restored = c.self.inside.restored;
    } in
    let going = ap (λ (o : Grounded D M). o.stopped) c.self.view_is ∙ c.requires.going in
    subst (λ (o : Grounded D M). MeetsFault (heap_ground b t m f l n) o new) c.self.view_is
    (meets_fault b t m f l n _ new c.commit.new.heap.cells _ (ap (λ (h : Held (Opened D)). h.cells.disk) at.ensures.same)
    (c.self.invariant.sound going) e.cause.explained e.answered)

pub returns-in-Err-clause-time : goal.returns-in-Err-clause-time
returns-in-Err-clause-time g c =
    let was = ap (λ (o : Grounded g.row.D.Denot g.row.M.Denot). o.moment) c.self.view_is in
    let at = c.moment_of-self-inside-in-Err in
    let at_now = at.ensures.moment ∙ ap (λ (h : Held (Opened g.row.D.Denot)). g.D.Disk.moment h.cells.disk) at.ensures.same in
    omega (arith, was, at_now, c.self.invariant.seen, c.in-Err.ensures.forward)

pub returns-in-Err-clause-inside : goal.returns-in-Err-clause-inside
returns-in-Err-clause-inside g c =
    let D = g.row.D.Denot in
    let M = g.row.M.Denot in
    let b = g.D.Disk.bytes in
    let t = g.D.Disk.tells_crashes in
    let at = c.moment_of-self-inside-in-Err in
    let e = c.in-Err.ensures in
    let old : Grounded D M = record {
      heap = c.self.inside.heap;
      media = c.self.inside.media;
      shown = c.self.inside.shown;
      stopped = c.self.inside.stopped;
      idle = c.self.inside.idle;
      moment = c.self.inside.moment;
      restored = c.self.inside.restored;
    } in
    let new : Grounded D M = record {
      heap = at.new.heap;
      media = c.self.inside.media;
      shown = c.self.inside.shown;
      stopped = true;
      idle = false;
      moment = at.result;
      restored = c.self.inside.restored;
    } in
    subst (λ (o : Grounded D M). StaysInside b t o new) c.self.view_is
    (inside_closed b t old new c.commit.new.heap at.ensures.same (stays_frame _ _ _ e.stays) e.disk.tells e.inside)

pub returns-in-Err-clause-still : goal.returns-in-Err-clause-still
returns-in-Err-clause-still g c =
    let D = g.row.D.Denot in
    let at = c.moment_of-self-inside-in-Err in
    subst (λ (o : Grounded D g.row.M.Denot). o.heap.cells.touched ≡ [] → at.new.heap.cells.disk ≡ o.heap.cells.disk) c.self.view_is
    (λ none. ap (λ (h : Held (Opened D)). h.cells.disk) at.ensures.same ∙ c.in-Err.ensures.idle none)

pub returns-in-Err-clause-calls : goal.returns-in-Err-clause-calls
returns-in-Err-clause-calls g c =
    let D = g.row.D.Denot in
    let m = g.D.Disk.moment in
    let at = c.moment_of-self-inside-in-Err in
    let at_now = at.ensures.moment ∙ ap (λ (h : Held (Opened D)). m h.cells.disk) at.ensures.same in
    subst (λ (o : Grounded D g.row.M.Denot). at.result ≤ o.moment + 2 * calls_of (length o.heap.cells.touched)) c.self.view_is
    (omega (arith, c.in-Err.ensures.calls, at_now, c.self.invariant.seen))
