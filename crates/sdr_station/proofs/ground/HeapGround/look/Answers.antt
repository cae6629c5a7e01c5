-- A ticket is seen in the heap in memory, which stays.
use Rattle.std.proofs.Common.{◌∙◌, arith, false, refl, sym, ap, subst, true}
use Rattle.sdr_disk.specs.Moments.{Reads}
use Rattle.sdr_machine.specs.Crash.{LeavesBefore}
use Rattle.sdr_machine.specs.Ground.{Ground, HasHeap}
use Rattle.sdr_machine.specs.Serving.{Brings, KeepsGround, MeetsFault, Shows}
use Rattle.sdr_station.proofs.GroundLemmas.{heap_ground, keeps_later}
use Rattle.sdr_station.proofs.InsideLemmas.{inside_quiet}
use Rattle.sdr_station.proofs.LookLemmas.{before_idle, keeps_before_look, looked_failed, looked_ground, looked_quiet, looked_reads, looks_fault, shows_seen, stands_before_look, untouched_idle}
use Rattle.sdr_station.proofs.ServingLemmas.{QuietOn, brings_quiet, leaves_quiet}
use Rattle.sdr_station.specs.Grounded.{Grounded, StandsForBoth, StandsInMemory, StaysInside}
use Rattle.sdr_station.proofs.ground.HeapGround.look.Goals as goal

pub look-requires-clause-kept : goal.look-requires-clause-kept
look-requires-clause-kept g c =
    let D = g.row.D.Denot in
    let M = g.row.M.Denot in
    let d = g.D.Disk in
    let old : Grounded D M = record {
      heap = c.self.inside.heap;
      media = c.self.inside.media;
      shown = c.self.inside.shown;
      stopped = c.self.inside.stopped;
      idle = c.self.inside.idle;
      moment = c.self.inside.moment;
      restored = c.self.inside.restored;
    } in
    let idle = ap (λ (o : Grounded D M). o.idle) c.self.view_is ∙ c.requires.idle in
    let before = before_idle d.moment old c.self.invariant idle in
    keeps_before_look old before

pub look-requires-clause-stands : goal.look-requires-clause-stands
look-requires-clause-stands g c =
    let D = g.row.D.Denot in
    let M = g.row.M.Denot in
    let d = g.D.Disk in
    let old : Grounded D M = record {
      heap = c.self.inside.heap;
      media = c.self.inside.media;
      shown = c.self.inside.shown;
      stopped = c.self.inside.stopped;
      idle = c.self.inside.idle;
      moment = c.self.inside.moment;
      restored = c.self.inside.restored;
    } in
    let idle = ap (λ (o : Grounded D M). o.idle) c.self.view_is ∙ c.requires.idle in
    let before = before_idle d.moment old c.self.invariant idle in
    stands_before_look old before

pub invariant_of-self : goal.invariant_of-self
invariant_of-self g c =
    let D = g.row.D.Denot in
    let M = g.row.M.Denot in
    let d = g.D.Disk in
    let old : Grounded D M = record {
      heap = c.self.inside.heap;
      media = c.self.inside.media;
      shown = c.self.inside.shown;
      stopped = c.self.inside.stopped;
      idle = c.self.inside.idle;
      moment = c.self.inside.moment;
      restored = c.self.inside.restored;
    } in
    let idle = ap (λ (o : Grounded D M). o.idle) c.self.view_is ∙ c.requires.idle in
    let none = untouched_idle d.moment old c.self.invariant idle in
    looked_ground d old c.look.new.o _ c.in-Ok.ensures.looks c.in-Ok.ensures.looks.cause.explained.1 none c.self.invariant

pub invariant_of-self-in-Err : goal.invariant_of-self-in-Err
invariant_of-self-in-Err g c =
    let D = g.row.D.Denot in
    let M = g.row.M.Denot in
    let d = g.D.Disk in
    let old : Grounded D M = record {
      heap = c.self.inside.heap;
      media = c.self.inside.media;
      shown = c.self.inside.shown;
      stopped = c.self.inside.stopped;
      idle = c.self.inside.idle;
      moment = c.self.inside.moment;
      restored = c.self.inside.restored;
    } in
    let idle = ap (λ (o : Grounded D M). o.idle) c.self.view_is ∙ c.requires.idle in
    let none = untouched_idle d.moment old c.self.invariant idle in
    let e = c.in-Err.ensures in
    let sound = c.self.invariant.sound (c.self.invariant.going idle) in
    looked_failed d old c.look.new.o _ e.looks (looks_fault d old c.look.new.o c.in-Err.field-0 e.looks sound e.refused).0 none c.self.invariant

pub returns-in-Ok-clause-memory : goal.returns-in-Ok-clause-memory
returns-in-Ok-clause-memory g c =
    let D = g.row.D.Denot in
    let M = g.row.M.Denot in
    let d = g.D.Disk in
    let old : Grounded D M = record {
      heap = c.self.inside.heap;
      media = c.self.inside.media;
      shown = c.self.inside.shown;
      stopped = c.self.inside.stopped;
      idle = c.self.inside.idle;
      moment = c.self.inside.moment;
      restored = c.self.inside.restored;
    } in
    let idle = ap (λ (o : Grounded D M). o.idle) c.self.view_is ∙ c.requires.idle in
    let before = before_idle d.moment old c.self.invariant idle in
    let looks = c.in-Ok.ensures.looks in
    let new : Grounded D M = record old { heap = c.look.new.o } in
    let quiet = (looked_quiet d old c.look.new.o _ looks).0 in
    subst (λ (o : Grounded D M). Brings StandsInMemory o new (Shows c.args.ticket c.in-Ok.granted)) c.self.view_is
    (shows_seen d old c.look.new.o _ looks looks.cause.explained.1 c.args.ticket c.in-Ok.granted before c.in-Ok.ensures.seen)

pub returns-in-Ok-clause-shown : goal.returns-in-Ok-clause-shown
returns-in-Ok-clause-shown g c =
    let D = g.row.D.Denot in
    let M = g.row.M.Denot in
    let d = g.D.Disk in
    let old : Grounded D M = record {
      heap = c.self.inside.heap;
      media = c.self.inside.media;
      shown = c.self.inside.shown;
      stopped = c.self.inside.stopped;
      idle = c.self.inside.idle;
      moment = c.self.inside.moment;
      restored = c.self.inside.restored;
    } in
    let idle = ap (λ (o : Grounded D M). o.idle) c.self.view_is ∙ c.requires.idle in
    let none = untouched_idle d.moment old c.self.invariant idle in
    let before = before_idle d.moment old c.self.invariant idle in
    let looks = c.in-Ok.ensures.looks in
    let new : Grounded D M = record old { heap = c.look.new.o } in
    let quiet = (looked_quiet d old c.look.new.o _ looks).0 in
    let seen = c.self.invariant.seen ∙ sym (looked_reads d old c.look.new.o _ looks none).time in
    subst (λ (o : Grounded D M). Brings (λ g v. StandsForBoth d.bytes d.tells_crashes d.moment d.may_hold_after g v) o new (Shows c.args.ticket c.in-Ok.granted))
    c.self.view_is
    (brings_quiet d old new quiet seen
    (shows_seen d old c.look.new.o _ looks looks.cause.explained.1 c.args.ticket c.in-Ok.granted before c.in-Ok.ensures.seen))

pub returns-in-Ok-clause-quiet : goal.returns-in-Ok-clause-quiet
returns-in-Ok-clause-quiet g c =
    let D = g.row.D.Denot in
    let M = g.row.M.Denot in
    let d = g.D.Disk in
    let old : Grounded D M = record {
      heap = c.self.inside.heap;
      media = c.self.inside.media;
      shown = c.self.inside.shown;
      stopped = c.self.inside.stopped;
      idle = c.self.inside.idle;
      moment = c.self.inside.moment;
      restored = c.self.inside.restored;
    } in
    let idle = ap (λ (o : Grounded D M). o.idle) c.self.view_is ∙ c.requires.idle in
    let looks = c.in-Ok.ensures.looks in
    let new : Grounded D M = record old { heap = c.look.new.o } in
    let quiet = (looked_quiet d old c.look.new.o _ looks).0 in
    subst (λ (o : Grounded D M). QuietOn d o.heap.cells c.look.new.o.cells) c.self.view_is quiet

pub returns-in-Ok-clause-reads : goal.returns-in-Ok-clause-reads
returns-in-Ok-clause-reads g c =
    let D = g.row.D.Denot in
    let M = g.row.M.Denot in
    let d = g.D.Disk in
    let old : Grounded D M = record {
      heap = c.self.inside.heap;
      media = c.self.inside.media;
      shown = c.self.inside.shown;
      stopped = c.self.inside.stopped;
      idle = c.self.inside.idle;
      moment = c.self.inside.moment;
      restored = c.self.inside.restored;
    } in
    let idle = ap (λ (o : Grounded D M). o.idle) c.self.view_is ∙ c.requires.idle in
    let none = untouched_idle d.moment old c.self.invariant idle in
    let looks = c.in-Ok.ensures.looks in
    let new : Grounded D M = record old { heap = c.look.new.o } in
    let quiet = (looked_quiet d old c.look.new.o _ looks).0 in
    subst (λ (o : Grounded D M). Reads d.bytes d.tells_crashes d.moment d.may_hold_after o.heap.cells.disk c.look.new.o.cells.disk) c.self.view_is
    (looked_reads d old c.look.new.o _ looks none)

pub returns-in-Ok-clause-keeps : goal.returns-in-Ok-clause-keeps
returns-in-Ok-clause-keeps g c =
    let D = g.row.D.Denot in
    let M = g.row.M.Denot in
    let d = g.D.Disk in
    let old : Grounded D M = record {
      heap = c.self.inside.heap;
      media = c.self.inside.media;
      shown = c.self.inside.shown;
      stopped = c.self.inside.stopped;
      idle = c.self.inside.idle;
      moment = c.self.inside.moment;
      restored = c.self.inside.restored;
    } in
    let idle = ap (λ (o : Grounded D M). o.idle) c.self.view_is ∙ c.requires.idle in
    let looks = c.in-Ok.ensures.looks in
    let new : Grounded D M = record old { heap = c.look.new.o } in
    let quiet = (looked_quiet d old c.look.new.o _ looks).0 in
    subst (λ (o : Grounded D M). KeepsGround (heap_ground d.bytes d.tells_crashes d.moment d.faults d.may_hold_after g.M.Media) false o new) c.self.view_is
    (keeps_later d.bytes d.tells_crashes d.moment d.faults d.may_hold_after g.M.Media old new refl looks.cause.later)

pub returns-in-Ok-clause-inside : goal.returns-in-Ok-clause-inside
returns-in-Ok-clause-inside g c =
    let D = g.row.D.Denot in
    let M = g.row.M.Denot in
    let d = g.D.Disk in
    let old : Grounded D M = record {
      heap = c.self.inside.heap;
      media = c.self.inside.media;
      shown = c.self.inside.shown;
      stopped = c.self.inside.stopped;
      idle = c.self.inside.idle;
      moment = c.self.inside.moment;
      restored = c.self.inside.restored;
    } in
    let idle = ap (λ (o : Grounded D M). o.idle) c.self.view_is ∙ c.requires.idle in
    let looks = c.in-Ok.ensures.looks in
    let new : Grounded D M = record old { heap = c.look.new.o } in
    let quiet = (looked_quiet d old c.look.new.o _ looks).0 in
    subst (λ (o : Grounded D M). StaysInside d.bytes d.tells_crashes o new) c.self.view_is
    (inside_quiet d.bytes d.tells_crashes d.moment d.may_hold_after old new quiet)

pub returns-in-Ok-clause-any_moment : goal.returns-in-Ok-clause-any_moment
returns-in-Ok-clause-any_moment g c =
    let D = g.row.D.Denot in
    let M = g.row.M.Denot in
    let d = g.D.Disk in
    let old : Grounded D M = record {
      heap = c.self.inside.heap;
      media = c.self.inside.media;
      shown = c.self.inside.shown;
      stopped = c.self.inside.stopped;
      idle = c.self.inside.idle;
      moment = c.self.inside.moment;
      restored = c.self.inside.restored;
    } in
    let idle = ap (λ (o : Grounded D M). o.idle) c.self.view_is ∙ c.requires.idle in
    let none = untouched_idle d.moment old c.self.invariant idle in
    let looks = c.in-Ok.ensures.looks in
    let new : Grounded D M = record old { heap = c.look.new.o } in
    let quiet = (looked_quiet d old c.look.new.o _ looks).0 in
    let seen = c.self.invariant.seen ∙ sym (looked_reads d old c.look.new.o _ looks none).time in
    subst (λ (o : Grounded D M). LeavesBefore (heap_ground d.bytes d.tells_crashes d.moment d.faults d.may_hold_after g.M.Media) o new) c.self.view_is
    (leaves_quiet d old new quiet seen g.M.Media (c.self.invariant.sound (c.self.invariant.going idle)) (omega arith))

pub returns-in-Err-clause-fault : goal.returns-in-Err-clause-fault
returns-in-Err-clause-fault g c =
    let D = g.row.D.Denot in
    let M = g.row.M.Denot in
    let d = g.D.Disk in
    let old : Grounded D M = record {
      heap = c.self.inside.heap;
      media = c.self.inside.media;
      shown = c.self.inside.shown;
      stopped = c.self.inside.stopped;
      idle = c.self.inside.idle;
      moment = c.self.inside.moment;
      restored = c.self.inside.restored;
    } in
    let idle = ap (λ (o : Grounded D M). o.idle) c.self.view_is ∙ c.requires.idle in
    let looks = c.in-Err.ensures.looks in
    let new : Grounded D M = record old { heap = c.look.new.o; stopped = true; idle = false } in
    let quiet = (looked_quiet d old c.look.new.o _ looks).0 in
    let sound = c.self.invariant.sound (c.self.invariant.going idle) in
    subst (λ (o : Grounded D M). MeetsFault (heap_ground d.bytes d.tells_crashes d.moment d.faults d.may_hold_after g.M.Media) o new) c.self.view_is
    (record {
      heap = λ v at. subst (λ (b : Ground). HasHeap b) (sym at.memory.before.base) tt;
      cause = (looks_fault d old c.look.new.o c.in-Err.field-0 looks sound c.in-Err.ensures.refused).1;
    })

pub returns-in-Err-clause-quiet : goal.returns-in-Err-clause-quiet
returns-in-Err-clause-quiet g c =
    let D = g.row.D.Denot in
    let M = g.row.M.Denot in
    let d = g.D.Disk in
    let old : Grounded D M = record {
      heap = c.self.inside.heap;
      media = c.self.inside.media;
      shown = c.self.inside.shown;
      stopped = c.self.inside.stopped;
      idle = c.self.inside.idle;
      moment = c.self.inside.moment;
      restored = c.self.inside.restored;
    } in
    let idle = ap (λ (o : Grounded D M). o.idle) c.self.view_is ∙ c.requires.idle in
    let looks = c.in-Err.ensures.looks in
    let new : Grounded D M = record old { heap = c.look.new.o; stopped = true; idle = false } in
    let quiet = (looked_quiet d old c.look.new.o _ looks).0 in
    subst (λ (o : Grounded D M). QuietOn d o.heap.cells c.look.new.o.cells) c.self.view_is quiet

pub returns-in-Err-clause-reads : goal.returns-in-Err-clause-reads
returns-in-Err-clause-reads g c =
    let D = g.row.D.Denot in
    let M = g.row.M.Denot in
    let d = g.D.Disk in
    let old : Grounded D M = record {
      heap = c.self.inside.heap;
      media = c.self.inside.media;
      shown = c.self.inside.shown;
      stopped = c.self.inside.stopped;
      idle = c.self.inside.idle;
      moment = c.self.inside.moment;
      restored = c.self.inside.restored;
    } in
    let idle = ap (λ (o : Grounded D M). o.idle) c.self.view_is ∙ c.requires.idle in
    let none = untouched_idle d.moment old c.self.invariant idle in
    let looks = c.in-Err.ensures.looks in
    let new : Grounded D M = record old { heap = c.look.new.o; stopped = true; idle = false } in
    let quiet = (looked_quiet d old c.look.new.o _ looks).0 in
    subst (λ (o : Grounded D M). Reads d.bytes d.tells_crashes d.moment d.may_hold_after o.heap.cells.disk c.look.new.o.cells.disk) c.self.view_is
    (looked_reads d old c.look.new.o _ looks none)

pub returns-in-Err-clause-keeps : goal.returns-in-Err-clause-keeps
returns-in-Err-clause-keeps g c =
    let D = g.row.D.Denot in
    let M = g.row.M.Denot in
    let d = g.D.Disk in
    let old : Grounded D M = record {
      heap = c.self.inside.heap;
      media = c.self.inside.media;
      shown = c.self.inside.shown;
      stopped = c.self.inside.stopped;
      idle = c.self.inside.idle;
      moment = c.self.inside.moment;
      restored = c.self.inside.restored;
    } in
    let idle = ap (λ (o : Grounded D M). o.idle) c.self.view_is ∙ c.requires.idle in
    let looks = c.in-Err.ensures.looks in
    let new : Grounded D M = record old { heap = c.look.new.o; stopped = true; idle = false } in
    let quiet = (looked_quiet d old c.look.new.o _ looks).0 in
    subst (λ (o : Grounded D M). KeepsGround (heap_ground d.bytes d.tells_crashes d.moment d.faults d.may_hold_after g.M.Media) false o new) c.self.view_is
    (keeps_later d.bytes d.tells_crashes d.moment d.faults d.may_hold_after g.M.Media old new refl looks.cause.later)

pub returns-in-Err-clause-inside : goal.returns-in-Err-clause-inside
returns-in-Err-clause-inside g c =
    let D = g.row.D.Denot in
    let M = g.row.M.Denot in
    let d = g.D.Disk in
    let old : Grounded D M = record {
      heap = c.self.inside.heap;
      media = c.self.inside.media;
      shown = c.self.inside.shown;
      stopped = c.self.inside.stopped;
      idle = c.self.inside.idle;
      moment = c.self.inside.moment;
      restored = c.self.inside.restored;
    } in
    let idle = ap (λ (o : Grounded D M). o.idle) c.self.view_is ∙ c.requires.idle in
    let looks = c.in-Err.ensures.looks in
    let new : Grounded D M = record old { heap = c.look.new.o; stopped = true; idle = false } in
    let quiet = (looked_quiet d old c.look.new.o _ looks).0 in
    subst (λ (o : Grounded D M). StaysInside d.bytes d.tells_crashes o new) c.self.view_is
    (inside_quiet d.bytes d.tells_crashes d.moment d.may_hold_after old new quiet)

pub returns-in-Err-clause-any_moment : goal.returns-in-Err-clause-any_moment
returns-in-Err-clause-any_moment g c =
    let D = g.row.D.Denot in
    let M = g.row.M.Denot in
    let d = g.D.Disk in
    let old : Grounded D M = record {
      heap = c.self.inside.heap;
      media = c.self.inside.media;
      shown = c.self.inside.shown;
      stopped = c.self.inside.stopped;
      idle = c.self.inside.idle;
      moment = c.self.inside.moment;
      restored = c.self.inside.restored;
    } in
    let idle = ap (λ (o : Grounded D M). o.idle) c.self.view_is ∙ c.requires.idle in
    let none = untouched_idle d.moment old c.self.invariant idle in
    let looks = c.in-Err.ensures.looks in
    let new : Grounded D M = record old { heap = c.look.new.o; stopped = true; idle = false } in
    let quiet = (looked_quiet d old c.look.new.o _ looks).0 in
    let seen = c.self.invariant.seen ∙ sym (looked_reads d old c.look.new.o _ looks none).time in
    subst (λ (o : Grounded D M). LeavesBefore (heap_ground d.bytes d.tells_crashes d.moment d.faults d.may_hold_after g.M.Media) o new) c.self.view_is
    (leaves_quiet d old new quiet seen g.M.Media (c.self.invariant.sound (c.self.invariant.going idle)) (omega arith))
