-- What a call comes to on a ground.
use Rattle.std.proofs.Common.{◌≡◌, ◌≢◌, ◌∙◌, ◌≤◌, ℕ, List, [], Bool, true, false, not, Result, Ok, Err, true≢false, refl, sym, ap, subst, arith}
use Rattle.sdr_base.specs.KeptHeap.{KeepsRegion}
use Rattle.sdr_base.specs.Moves.{KeepsSome}
use Rattle.sdr_base.specs.Works.{Spends}
use Rattle.sdr_base.specs.declared.media.Media.{Ghosts as MediaGhosts}
use Rattle.sdr_base.specs.declared.refusal.Refusal.{Refusal}
use Rattle.sdr_base.specs.declared.stop.Stop.{Stop}
use Rattle.sdr_base.specs.declared.stop.Stop.TheVariants as stops
use Rattle.sdr_stands.specs.Standing.{HeapStandsFor}
use Rattle.sdr_disk.specs.declared.disk.Disk.{Ghosts as DiskGhosts}
use Rattle.sdr_heap.specs.Noted.{Held}
use Rattle.sdr_image.specs.Opened.{Opened}
use Rattle.law_steps.proofs.StepLemmas.{row_is_no_stop}
use Rattle.law_steps.specs.Refused.{is_stop}
use Rattle.sdr_machine.proofs.GroundLemmas.{keeps_more}
use Rattle.sdr_machine.specs.Crash.{LeavesBefore}
use Rattle.sdr_machine.specs.Lapses.{LapsesLast, HasLapseCause}
use Rattle.sdr_machine.specs.Ground.{Ground, HasHeap}
use Rattle.sdr_machine.specs.Serving.{Brings, Calls, KeepsGround, MeetsFault}
use Rattle.sdr_model.specs.Fields.{FitsCall}
use Rattle.sdr_model.specs.Pieces.{pieces_asked}
use Rattle.sdr_model.specs.Reading.{is_reading, reads_media}
use Rattle.sdr_model.specs.Steps.{Outcome}
use Rattle.sdr_model.specs.World.{World}
use Rattle.sdr_model.specs.declared.answer.Answer.TheVariants as answers
use Rattle.sdr_model.specs.declared.answer.Reply.{Reply}
use Rattle.sdr_model.specs.declared.answer.Reply.TheVariants as replies
use Rattle.sdr_model.specs.declared.call.Call.{Call}
use Rattle.sdr_station.proofs.GivingLemmas.{gives_shown}
use Rattle.sdr_station.proofs.GroundLemmas.{lapses_of, ground_brought, ground_failed, heap_ground, keeps_read}
use Rattle.sdr_station.proofs.MediaLemmas.{answered_gap, answered_reads, refused_gap, refused_reads}
use Rattle.sdr_station.proofs.ServingLemmas.{AsksIn, QuietOn, WorksIn, answers_no_doom, brings_answered, brings_missed, brings_quiet, brings_refused, going_ground, has_failed, image_heap, leaves_quiet, not_failed, quiet_of, refused_ground, served_in, stands_in}
use Rattle.step_things.specs.Answering.{ComesInEach, HeapStands, IsReady, dooms}
use Rattle.step_calls.specs.Giving.{TellsInEach}
use Rattle.step_calls.specs.Serving.{call_lines}
use Rattle.zco_wire.specs.Asking.{AsksFor}
use Rattle.zco_wire.specs.Stopping.{KeepsTold, past_media}
use Rattle.sdr_station.specs.Closing.{moves_left}
use Rattle.sdr_station.specs.Giving.{AsksMedia, GivesReply, reads_by}
use Rattle.step_zco_parts.specs.Giving.{AsksInEach, may_read}
use Rattle.sdr_station.specs.Grounded.{Grounded, IsGround, StandsForBoth, StandsInMemory, StandsSome, StandsWithin, heap_in}

-- what a call came to on a ground
pub record CameTo {D M : Type 0} (d : DiskGhosts D) (media : MediaGhosts M) (call : Call) (reply : Reply) (old new : Grounded D M) : Type 0 where
  pub memory : Brings StandsInMemory old new (Calls (media.told old.media) call reply)
  pub answered : Brings (λ g v. StandsForBoth d.bytes d.tells_crashes d.moment d.may_hold_after g v) old new (Calls (media.told old.media) call reply)
  pub stopped : new.stopped ≡ dooms call reply
  pub gives : GivesReply reply new
  pub other : reply ≢ replies.DiskFault
  pub gap : HasLapseCause (answers.Reply reply) (lapses_of media old.media) (lapses_of media new.media)
  pub unread : reads_by call reply ≡ false → new.media ≡ old.media
  pub asks : AsksMedia media call old new
  pub sound : new.heap.cells.failed ≡ false
  pub quiet : QuietOn d old.heap.cells new.heap.cells
  pub time : old.moment ≤ new.moment
  pub keeps : KeepsGround (heap_ground d.bytes d.tells_crashes d.moment d.faults d.may_hold_after media) true old new
  pub any_moment : LeavesBefore (heap_ground d.bytes d.tells_crashes d.moment d.faults d.may_hold_after media) old new
  pub is_ground : IsGround d.moment new

-- what a call leaves of a ground in which the disk failed
pub record FaultsTo {D M : Type 0} (d : DiskGhosts D) (media : MediaGhosts M) (call : Call) (old new : Grounded D M) : Type 0 where
  pub fault : MeetsFault (heap_ground d.bytes d.tells_crashes d.moment d.faults d.may_hold_after media) old new
  pub unasked : reads_media call ≡ false → new.media ≡ old.media
  pub asks : AsksMedia media call old new
  pub quiet : QuietOn d old.heap.cells new.heap.cells
  pub time : old.moment ≤ new.moment
  pub keeps : KeepsGround (heap_ground d.bytes d.tells_crashes d.moment d.faults d.may_hold_after media) true old new
  pub any_moment : LeavesBefore (heap_ground d.bytes d.tells_crashes d.moment d.faults d.may_hold_after media) old new
  pub is_ground : IsGround d.moment new

-- A call on a ground in which none was stopped, from this heap before it, without moves. The disk has this moment behind it.
module _ {D M : Type 0} (d : DiskGhosts D) (media : MediaGhosts M) (old : Grounded D M) (ground : IsGround d.moment old)
    (going : old.stopped ≡ false) (call : Call) (fit : FitsCall call)
    (before : Held (Opened D)) (from : before ≡ record old.heap { moves = []; spare = before.spare })
    (heap : Held (Opened D)) (files : M) (lasts : KeepsTold media old.media files) (page : List ℕ)
    (now : ℕ) (seen : now ≡ d.moment heap.cells.disk) where
  sound : old.heap.cells.failed ≡ false
  sound = ground.sound going

  -- what the call works, in each world that the heap before it stood for
  abbrev pub WorksFrom : Result Reply Stop → Type 0
  WorksFrom result =
      (w : World) → HeapStandsFor (heap_in before) w → IsReady w
      → Spends (image_heap d) (call_lines (heap_in before) w call) before heap (past_media result)

  -- what it tells of media
  abbrev pub AsksFrom : Result Reply Stop → Type 0
  AsksFrom result = TellsInEach media call (heap_in before) (heap_in heap) old.shown page old.media files result

  -- the heap before it is the one of the ground
  abbrev fresh : Held (Opened D)
  fresh = record old.heap { moves = []; spare = before.spare }

  works_from : (result : Result Reply Stop) → WorksFrom result → WorksIn d media old going call fit before.spare heap files page now result
  works_from result works =
      subst (λ (h : Held (Opened D)). (w : World) → HeapStandsFor (heap_in h) w → IsReady w
      → Spends (image_heap d) (call_lines (heap_in h) w call) h heap (past_media result)) from works

  asks_from : (result : Result Reply Stop) → AsksFrom result → AsksIn d media old going call fit before.spare heap files page now result
  asks_from result asks =
      subst (λ (h : Held (Opened D)). TellsInEach media call (heap_in h) (heap_in heap) old.shown page old.media files result) from asks

  comes_from : (result : Result Reply Stop) → ComesInEach call (heap_in before) (heap_in heap) old.shown page result
      → ComesInEach call (heap_in fresh) (heap_in heap) old.shown page result
  comes_from result comes = subst (λ (h : Held (Opened D)). ComesInEach call (heap_in h) (heap_in heap) old.shown page result) from comes

  -- how often media were asked, in each world that the heap before it stood for
  abbrev pub AsksBefore : Type 0
  AsksBefore = AsksInEach media call (heap_in before) old.media files

  -- so it is in whatever world the ground stood for
  asks_media : AsksBefore → (new : Grounded D M) → new.media ≡ files → AsksMedia media call old new
  asks_media asked new read =
      let here = subst (λ (h : Held (Opened D)). AsksInEach media call (heap_in h) old.media files) from asked in
      record {
        each = λ v at.
            let w = at.now going in
            subst (λ (f : M). AsksFor media (pieces_asked v.now.world call) old.media f) (sym read)
            (here.each v.now.world (record { blocks = w.heap.blocks; roots = w.heap.roots; marks = w.heap.marks }) (served_in w));
      }

  -- the ground stands for a world, in which calls are served
  some : StandsSome old
  some = ground.stands sound

  within : StandsWithin old.heap old.shown some.for.now
  within = some.holds.now going

  stands : HeapStandsFor (heap_in fresh) some.for.now.world
  stands = record { blocks = within.heap.blocks; roots = within.heap.roots; marks = within.heap.marks }

  -- the disk is quiet in it
  quiet_from : (result : Result Reply Stop) → WorksFrom result → QuietOn d old.heap.cells heap.cells
  quiet_from result works =
      (quiet_of d media old going call fit before.spare heap files page now
      (works_from result works some.for.now.world stands (served_in within))).0

  later_from : (result : Result Reply Stop) → WorksFrom result → d.faults old.heap.cells.disk ≤ d.faults heap.cells.disk
  later_from result works = (works_from result works some.for.now.world stands (served_in within)).cause.later

  -- and its moment hasn't fallen
  since_of : (new : Grounded D M) → QuietOn d old.heap.cells new.heap.cells → new.moment ≡ d.moment new.heap.cells.disk → old.moment ≤ new.moment
  since_of new quiet same = omega (arith, same, ground.seen, quiet.forward)

  -- what is kept in a call by which the media have come to these
  keeps_from : (new : Grounded D M) → new.media ≡ files → d.faults old.heap.cells.disk ≤ d.faults new.heap.cells.disk
      → KeepsGround (heap_ground d.bytes d.tells_crashes d.moment d.faults d.may_hold_after media) true old new
  keeps_from new read later =
      keeps_more (heap_ground d.bytes d.tells_crashes d.moment d.faults d.may_hold_after media)
      (keeps_read d.bytes d.tells_crashes d.moment d.faults d.may_hold_after media old new (ap media.told read ∙ lasts.told)
      (subst (λ (f : M). LapsesLast (lapses_of media old.media) (lapses_of media f)) (sym read) (record { faults = lasts.faults; short = lasts.short }))
      later)

  -- what it brings in memory, it comes to
  comes_to : (reply : Reply) (new : Grounded D M) → QuietOn d old.heap.cells new.heap.cells → new.heap.cells.failed ≡ false
      → new.moment ≡ d.moment new.heap.cells.disk → new.media ≡ files
      → d.faults old.heap.cells.disk ≤ d.faults new.heap.cells.disk → new.stopped ≡ dooms call reply → new.idle ≡ false → GivesReply reply new → reply ≢ replies.DiskFault
      → HasLapseCause (answers.Reply reply) (lapses_of media old.media) (lapses_of media files) → (reads_by call reply ≡ false → files ≡ old.media)
      → AsksBefore
      → Brings StandsInMemory old new (Calls (media.told old.media) call reply) → CameTo d media call reply old new
  comes_to reply new quiet sound_new same read later stopped made gives other gap unread asked memory = record {
    memory = memory;
    answered = brings_quiet d old new quiet same memory;
    stopped = stopped;
    gives = gives;
    other = other;
    gap = subst (λ (f : M). HasLapseCause (answers.Reply reply) (lapses_of media old.media) (lapses_of media f)) (sym read) gap;
    unread = λ none. read ∙ unread none;
    asks = asks_media asked new read;
    sound = sound_new;
    quiet = quiet;
    time = since_of new quiet same;
    keeps = keeps_from new read later;
    any_moment = leaves_quiet d old new quiet same media sound (since_of new quiet same);
    is_ground = ground_brought d.moment old new ground same sound sound_new
        (λ idle. absurd (true≢false (sym idle ∙ made))) memory;
  }

  -- the ground after a call that stopped none
  abbrev pub going_on : Grounded D M
  going_on = going_ground d media old going call fit before.spare heap files page now

  -- an answered call
  pub came_answered : (reply : Reply) → ComesInEach call (heap_in before) (heap_in heap) old.shown page (Ok reply)
      → WorksFrom (Ok reply) → AsksFrom (Ok reply) → (may_read call (Ok reply) ≡ false → files ≡ old.media) → AsksBefore
      → CameTo d media call reply old going_on
  came_answered reply comes' works asks unread asked =
      let comes = comes_from (Ok reply) comes' in
      let ans = comes.each some.for.now.world stands (served_in within) in
      let outcome : Outcome = record { moves = heap.moves; after = ans.after; reply = reply } in
      comes_to reply going_on (quiet_from (Ok reply) works)
      (works_from (Ok reply) works some.for.now.world stands (served_in within)).cause.explained.1 seen refl (later_from (Ok reply) works)
      (going ∙ sym (answers_no_doom call reply ans.answered)) refl
      (gives_shown going_on some.for.now.world call outcome within.whole ans.row ans.gave (λ _. going) reply refl)
      (λ is. absurd (true≢false (sym (ap is_stop is) ∙ row_is_no_stop some.for.now.world outcome call ans.row)))
      (answered_gap (lapses_of media old.media) (lapses_of media files) reply ans.answered)
      (λ none. unread (answered_reads call reply ans.answered none)) asked
      (brings_answered d media old going call fit before.spare heap files page now reply comes (works_from (Ok reply) works) (asks_from (Ok reply) asks))

  -- a call that media failed
  pub came_missed : (stop : Stop) → stop ≡ stops.MediaFault → WorksFrom (Err stop) → AsksFrom (Err stop)
      → (may_read call (Err stop) ≡ false → files ≡ old.media) → AsksBefore
      → CameTo d media call replies.MediaFault old going_on
  came_missed stop is works' asks' unread asked =
      let works = subst (λ (s : Stop). WorksFrom (Err s)) is works' in
      let asks = asks_from (Err stops.MediaFault) (subst (λ (s : Stop). AsksFrom (Err s)) is asks') in
      comes_to replies.MediaFault going_on (quiet_from (Err stops.MediaFault) works)
      (works_from (Err stops.MediaFault) works some.for.now.world stands (served_in within)).cause.explained.1 seen refl (later_from (Err stops.MediaFault) works) going refl tt (λ is. cc)
      (asks.each some.for.now.world stands (served_in within)).misses.2
      (subst (λ (s : Stop). may_read call (Err s) ≡ false → files ≡ old.media) is unread) asked
      (brings_missed d media old going call fit before.spare heap files page now (works_from (Err stops.MediaFault) works) asks)

  -- a refused call, which tells these moves, and dooms where it doesn't read
  pub came_refused : (refusal : Refusal) (stop : Stop) → stop ≡ stops.Refused refusal → (left : Held (Opened D))
      → left ≡ record heap { moves = moves_left refusal heap.moves; spare = left.spare } → (reads : Bool) → reads ≡ is_reading call
      → ComesInEach call (heap_in before) (heap_in heap) old.shown page (Err stop) → WorksFrom (Err stop) → AsksFrom (Err stop)
      → (may_read call (Err stop) ≡ false → files ≡ old.media) → AsksBefore
      → CameTo d media call (replies.Refused refusal) old
      (record { heap = left; media = files; shown = page; stopped = not reads; idle = false; moment = now; restored = old.restored })
  came_refused refusal stop is left left_is reads reads_is comes' works' asks' unread asked =
      let comes = comes_from (Err (stops.Refused refusal))
      (subst (λ (s : Stop). ComesInEach call (heap_in before) (heap_in heap) old.shown page (Err s)) is comes') in
      let works = subst (λ (s : Stop). WorksFrom (Err s)) is works' in
      let asks = asks_from (Err (stops.Refused refusal)) (subst (λ (s : Stop). AsksFrom (Err s)) is asks') in
      let new = refused_ground d media old going call fit before.spare heap files page now refusal left.spare in
      let came : CameTo d media call (replies.Refused refusal) old new =
      comes_to (replies.Refused refusal) new (quiet_from (Err (stops.Refused refusal)) works)
      (works_from (Err (stops.Refused refusal)) works some.for.now.world stands (served_in within)).cause.explained.1 seen refl (later_from (Err (stops.Refused refusal)) works) refl refl tt (λ is. cc)
      (refused_gap media some.for.now.world call old.media files refusal (asks.each some.for.now.world stands (served_in within)).misses)
      (λ none. subst (λ (s : Stop). may_read call (Err s) ≡ false → files ≡ old.media) is unread (refused_reads call refusal none)) asked
      (brings_refused d media old going call fit before.spare heap files page now refusal left.spare comes
      (works_from (Err (stops.Refused refusal)) works) asks) in
      subst (λ (g : Grounded D M). CameTo d media call (replies.Refused refusal) old g)
      (λ i. record { heap = sym left_is i; media = files; shown = page; stopped = not (sym reads_is i); idle = false; moment = now; restored = old.restored }) came

  -- the ground after a call in which the disk failed
  abbrev pub failed_ground : Grounded D M
  failed_ground = record { heap = heap; media = files; shown = page; stopped = true; idle = false; moment = now; restored = old.restored }

  -- such a call
  pub came_failed : (stop : Stop) → stop ≡ stops.DiskFault → WorksFrom (Err stop)
      → (may_read call (Err stop) ≡ false → files ≡ old.media) → AsksBefore → FaultsTo d media call old failed_ground
  came_failed stop is works' unread asked =
      let works = subst (λ (s : Stop). WorksFrom (Err s)) is works' in
      let w = works_from (Err stops.DiskFault) works some.for.now.world stands (served_in within) in
      let failed = has_failed d fresh heap (call_lines (heap_in fresh) some.for.now.world call) w in
      let quiet = quiet_from (Err stops.DiskFault) works in
      record {
        fault = record { heap = λ v at. subst (λ (b : Ground). HasHeap b) (sym at.memory.before.base) tt; cause = failed.1 };
        unasked = subst (λ (s : Stop). may_read call (Err s) ≡ false → files ≡ old.media) is unread;
        asks = asks_media asked failed_ground refl;
        quiet = quiet;
        time = since_of failed_ground quiet seen;
        keeps = keeps_from failed_ground refl (later_from (Err stops.DiskFault) works);
        any_moment = leaves_quiet d old failed_ground quiet seen media sound (since_of failed_ground quiet seen);
        is_ground = ground_failed d.moment failed_ground seen refl refl failed.0;
      }

-- a call that leaves the lines touched in the heap before it, which is a ground's without moves, leaves those of the ground
pub lines_left : {D M : Type 0} (old now : Grounded D M) → old ≡ now → (before new : Held (Opened D))
    → before ≡ record old.heap { moves = []; spare = before.spare } → (call : Call)
    → (is_reading call ≡ true → new.cells.touched ≡ before.cells.touched)
    → is_reading call ≡ true → new.cells.touched ≡ now.heap.cells.touched
lines_left {D} {M} old now is before new from call left reads =
    left reads ∙ ap (λ (h : Held (Opened D)). h.cells.touched) from ∙ ap (λ (g : Grounded D M). g.heap.cells.touched) is

-- The heap before a call on a ground in which none was stopped, without moves.
module _ {D M : Type 0} (d : DiskGhosts D) (old : Grounded D M) (ground : IsGround d.moment old) (going : old.stopped ≡ false) (before : Held (Opened D))
    (from : before ≡ record old.heap { moves = []; spare = before.spare }) where
  -- there is a heap in it
  pub keeps_before : KeepsSome (KeepsRegion before.size before.cells.bytes)
  keeps_before =
      let some = ground.stands (ground.sound going) in
      let w = some.holds.now going in
      subst (λ (h : Held (Opened D)). KeepsSome (KeepsRegion h.size h.cells.bytes)) (sym from) (record { pools = w.pools; keeps = w.keeps })

  -- it stands for a world
  pub stands_before : HeapStands (heap_in before)
  stands_before =
      let some = ground.stands (ground.sound going) in
      let w = some.holds.now going in
      subst (λ (h : Held (Opened D)). HeapStands (heap_in h)) (sym from) (stands_in old.heap before.spare w)

  -- no call on it fails again
  pub failed_never : (call : Call) (new : Held (Opened D)) (stop : Stop)
      → ((w : World) → HeapStandsFor (heap_in before) w → IsReady w
      → Spends (image_heap d) (call_lines (heap_in before) w call) before new (past_media {T = Reply} (Err stop)))
      → stop ≡ stops.Failed → ⊥
  failed_never call new stop works is =
      let some = ground.stands (ground.sound going) in
      let w = some.holds.now going in
      let stands : HeapStandsFor (heap_in before) some.for.now.world =
      subst (λ (h : Held (Opened D)). HeapStandsFor (heap_in h) some.for.now.world) (sym from)
      (record { blocks = w.heap.blocks; roots = w.heap.roots; marks = w.heap.marks }) in
      let lines = call_lines (heap_in before) some.for.now.world call in
      not_failed d before new lines (ap (λ (h : Held (Opened D)). h.cells.failed) from ∙ ground.sound going)
      (subst (λ (s : Stop). Spends (image_heap d) lines before new (past_media {T = Reply} (Err s))) is (works some.for.now.world stands (served_in w)))
