-- A call that a heap on an image has answered, as a step of the machine.
use Rattle.std.proofs.Common.{◌≡◌, ◌∙◌, ◌≤◌, ◌+◌, ℕ, List, [], Bool, true, false, true≢false, not, Option, None, Some, Result, Ok, Err, inl, inr, refl, sym, ap, subst, length, arith}
use Rattle.sdr_stands.specs.Standing.{HeapStandsFor}
use Rattle.sdr_base.proofs.MovesLemmas.{Moves-none}
use Rattle.sdr_base.specs.KeptHeap.{KeepsRegion}
use Rattle.sdr_base.specs.Moves.{LeadsPools, Moves, MovesPools}
use Rattle.sdr_base.specs.Objects.{Heap}
use Rattle.sdr_base.specs.Works.{Spends}
use Rattle.sdr_base.specs.declared.has_heap.HasHeap.{Ghosts as HeapGhosts}
use Rattle.sdr_base.specs.Media.{Told}
use Rattle.sdr_base.specs.declared.media.Media.{Ghosts as MediaGhosts}
use Rattle.sdr_base.specs.declared.moves.Move.{Move}
use Rattle.sdr_base.specs.declared.stop.Stop.{Stop}
use Rattle.sdr_base.specs.Causes.{Rose}
use Rattle.sdr_disk.specs.declared.disk.Disk.{Ghosts as DiskGhosts}
use Rattle.sdr_heap.specs.Noted.{Held}
use Rattle.sdr_image.specs.Opened.{IsQuiet, Opened, transaction_of}
use Rattle.sdr_image.specs.QuietLaws.{quiet_same}
use Rattle.sdr_model.specs.declared.answer.Reply.{Reply}
use Rattle.sdr_model.specs.declared.call.Call.{Call}
use Rattle.law_steps.proofs.FieldLaws.{fields_fit}
use Rattle.law_steps.proofs.WholeLaws.{whole_kept}
use Rattle.sdr_machine.specs.Agreeing.{AgreesWith}
use Rattle.sdr_machine.specs.Crash.{LeavesBefore}
use Rattle.sdr_machine.specs.Demand.{Demand, MayFillLog, demand_after, no_demand}
use Rattle.sdr_machine.specs.Ground.{Ground, MayMissMedia, State, Steps, StepsOn}
use Rattle.sdr_machine.specs.Serving.{Brings, Calls}
use Rattle.sdr_machine.specs.Standing.{GroundState}
use Rattle.sdr_machine.specs.Transaction.{bytes_given}
use Rattle.sdr_log.specs.Frame.{room_of}
use Rattle.sdr_log.specs.Logged.{GivesHeap}
use Rattle.sdr_log.specs.declared.frame.Frame.{Frame}
use Rattle.sdr_base.specs.declared.refusal.Refusal.{Refusal}
use Rattle.sdr_base.specs.declared.refusal.Refusal.TheVariants as refusals
use Rattle.sdr_base.specs.declared.stop.Stop.TheVariants as stops
use Rattle.sdr_model.specs.Fields.{FitsCall}
use Rattle.sdr_model.specs.Reading.{is_reading}
use Rattle.sdr_model.specs.Step.{StepTo, is_answer}
use Rattle.sdr_model.specs.Steps.{Outcome}
use Rattle.sdr_model.specs.World.{World}
use Rattle.sdr_model.specs.declared.answer.Answer.TheVariants as answers
use Rattle.sdr_model.specs.declared.answer.Reply.TheVariants as replies
use Rattle.sdr_model.specs.declared.event.Event.TheVariants as events
use Rattle.step_calls.proofs.DemandLemmas.{asks_more, enough, reading_lines}
use Rattle.step_calls.proofs.GivingLemmas.{media_lines}
use Rattle.step_keyed.proofs.NextLemmas.{next_kept}
use Rattle.sdr_station.proofs.ClosingLemmas.{leaves_back}
use Rattle.sdr_station.proofs.StoodLemmas.{small_in, stood_of}
use Rattle.sdr_station.proofs.GroundLemmas.{heap_ground}
use Rattle.sdr_station.proofs.MediaLemmas.{answered_misses, refused_misses}
use Rattle.step_things.specs.Answering.{Aim, Answered, ComesInEach, HeapStands, IsReady, dooms}
use Rattle.step_calls.specs.Giving.{TellsInEach}
use Rattle.step_calls.specs.Serving.{call_lines}
use Rattle.zco_wire.specs.Stopping.{past_media}
use Rattle.sdr_station.specs.Closing.{moves_left}
use Rattle.sdr_station.specs.Grounded.{Grounded, HasStood, StandsAtRest, StandsForBoth, StandsInMemory, StandsWithin, heap_in}

-- what a call within a transaction keeps of an image
abbrev pub QuietOn : {D : Type 0} → DiskGhosts D → Opened D → Opened D → Type 0
QuietOn d old new = IsQuiet d.bytes d.tells_crashes d.moment d.may_hold_after old new

-- a heap on an image, as contracts of calls on blocks see it
abbrev pub image_heap : {D : Type 0} → DiskGhosts D → HeapGhosts (Held (Opened D))
image_heap d = record {
  heap = heap_in;
  keeps = λ h. KeepsRegion h.size h.cells.bytes;
  transaction = λ h. transaction_of d.faults h.cells;
  quiet = λ a b. QuietOn d a.cells b.cells × (b.size ≡ a.size);
  moved = λ a b. Moves (KeepsRegion a.size a.cells.bytes) (KeepsRegion b.size b.cells.bytes) a.moves b.moves;
}

-- calls are served in the world that an open transaction has made
pub served_in : {D : Type 0} {h : Held (Opened D)} {shown : List ℕ} {s : State} → StandsWithin h shown s → IsReady s.world
served_in w = record { whole = w.whole; fits = w.fits }

-- so the heap stands for one before a call
pub stands_in : {D : Type 0} (h : Held (Opened D)) (spare : ℕ) {shown : List ℕ} {s : State} → StandsWithin h shown s
    → HeapStands (heap_in (record h { moves = []; spare = spare }))
stands_in h spare {shown} {s} w =
    let stands = w.heap in
    record {
      world = s.world;
      stands = record { blocks = stands.blocks; roots = stands.roots; marks = stands.marks };
      ready = served_in w;
    }

-- a reply that answers tells of no want of log room
not_full : (room : ℕ) (d : Demand) (w : World) (call : Call) (reply : Reply) → is_answer reply ≡ true → MayFillLog room d w call reply
not_full room d w call (replies.Refused refusal) is = absurd (true≢false (sym is))
not_full room d w call reply is = tt

-- that media failed agrees with whatever they tell
tells_fault : (told : Option Told) (w : World) (call : Call) → AgreesWith told w (events.Say call) (answers.Reply replies.MediaFault) []
tells_fault None w call = tt
tells_fault (Some media) w call = λ reads. tt

-- after a call something was asked
asked_some : (d : Demand) (w : World) (call : Call) (o : Outcome) → demand_after d w call o ≡ no_demand → ⊥
asked_some d w call o none = let calls : d.calls + 1 ≡ 0 = ap (λ (e : Demand). e.calls) none in absurd (omega (arith, calls))

-- A call on a heap that stood for a standing, and has not stopped. The disk has this moment behind it.
module _ {D M : Type 0} (d : DiskGhosts D) (m : MediaGhosts M) (old : Grounded D M) (going : old.stopped ≡ false) (call : Call) (fit : FitsCall call) (spare : ℕ)
    (heap : Held (Opened D)) (files : M) (page : List ℕ) (time : ℕ) where
  -- the heap before the call, with no moves
  abbrev pub fresh_heap : Held (Opened D)
  fresh_heap = record old.heap { moves = []; spare = spare }

  -- it stands for the same world
  fresh_stands : (v : GroundState) → StandsInMemory old v → HeapStandsFor (heap_in fresh_heap) v.now.world
  fresh_stands v at = let s = (at.now going).heap in record { blocks = s.blocks; roots = s.roots; marks = s.marks }

  -- what the call works, in each world that the heap before it stood for
  abbrev pub WorksIn : Result Reply Stop → Type 0
  WorksIn result =
      (w : World) → HeapStandsFor (heap_in fresh_heap) w → IsReady w
      → Spends (image_heap d) (call_lines (heap_in fresh_heap) w call) fresh_heap heap (past_media result)

  -- what it tells of media
  abbrev pub AsksIn : Result Reply Stop → Type 0
  AsksIn result = TellsInEach m call (heap_in fresh_heap) (heap_in heap) old.shown page old.media files result

  -- the ground after a call that stopped none
  abbrev pub going_ground : Grounded D M
  going_ground = record {
    heap = heap;
    media = files;
    shown = page;
    stopped = old.stopped;
    idle = false;
    moment = time;
    restored = old.restored;
  }

  -- what was quiet since then was quiet
  pub quiet_of : {T : Type 0} {lines : ℕ} {result : Result T Stop} → Spends (image_heap d) lines fresh_heap heap result
      → QuietOn d fresh_heap.cells heap.cells × (heap.size ≡ fresh_heap.size)
  quiet_of works = works.quiet fresh_heap (quiet_same d.bytes d.tells_crashes d.moment d.may_hold_after fresh_heap.cells, refl)

  -- what stands still of a standing
  stands_on : (new : Grounded D M) (v : GroundState) → StandsInMemory old v → QuietOn d old.heap.cells new.heap.cells
      → new.heap.cells.failed ≡ false → new.heap.size ≡ old.heap.size → (now : State) → (now.demand ≡ no_demand → ⊥) → now.world.taken ≡ 0
      → now.world.shown ≡ new.shown → HasStood old.heap.size now.world → (new.stopped ≡ false → StandsWithin new.heap new.shown now)
      → new.idle ≡ false
      → StandsInMemory new (record { before = v.before; now = now; moves = new.heap.moves })
  stands_on new v at q sound size now asked taken gave stood within made = record {
    sound = sound;
    size = ap (λ (bytes : List ℕ). length bytes) (q.begun sound) ∙ at.size ∙ sym size;
    before =
        subst (λ (f : Frame). StandsAtRest (room_of f) new.heap.cells.begun v.before) (sym q.frame)
        (subst (λ (bytes : List ℕ). StandsAtRest (room_of old.heap.cells.frame) bytes v.before) (sym (q.begun sound)) at.before);
    taken = taken;
    gave = gave;
    stood = subst (λ (n : ℕ). HasStood n now.world) (sym size) stood;
    now = within;
    idle = λ idle. absurd (true≢false (sym idle ∙ made));
    untouched = λ none. absurd (asked none);
    moves = refl;
  }

  module _ (v : GroundState) (at : StandsInMemory old v)
      (moves : Moves (KeepsRegion fresh_heap.size fresh_heap.cells.bytes) (KeepsRegion heap.size heap.cells.bytes) [] heap.moves) where
    lead : LeadsPools (KeepsRegion heap.size heap.cells.bytes) (at.now going).pools moves.more
    lead = moves.lead (at.now going).pools (at.now going).keeps

    fits : MovesPools (at.now going).pools heap.moves lead.after
    fits = subst (λ (ms : List Move). MovesPools (at.now going).pools ms lead.after) (sym moves.moves) lead.fit

    -- the state after a call that came to this
    abbrev next : World → Reply → State
    next after reply = record {
      world = after;
      base = Ground.OnHeap (room_of heap.cells.frame) lead.after;
      demand = demand_after v.now.demand v.now.world call (record { moves = heap.moves; after = after; reply = reply });
    }

    -- it is one of the machine's
    steps_to : (after : World) (reply : Reply) → heap.cells.frame ≡ old.heap.cells.frame
        → StepTo v.now.world (record { moves = heap.moves; after = after; reply = reply }) call
        → MayFillLog (room_of old.heap.cells.frame) v.now.demand v.now.world call reply → MayMissMedia v.now.world call reply
        → Steps v.now call (record { reply = reply; moves = heap.moves; after = next after reply })
    steps_to after reply frame step full misses =
        subst (λ (b : Ground). StepsOn b v.now call (record { reply = reply; moves = heap.moves; after = next after reply })) (sym (at.now going).base)
        (record {
          step = step;
          pools = lead.after;
          base = ap (λ (f : Frame). Ground.OnHeap (room_of f) lead.after) frame;
          fit = fits;
          full = full;
          media = misses;
          demand = refl;
        })

    -- the world after an answered call, on this heap
    within_answered : (reply : Reply) → heap.cells.frame ≡ old.heap.cells.frame → length heap.cells.touched ≤ length old.heap.cells.touched + call_lines (heap_in fresh_heap) v.now.world call
        → (ans : Answered v.now.world call (heap_in heap) page reply) → StandsWithin heap page (next ans.after reply)
    within_answered reply frame lines ans =
        let w = at.now going in
        let o : Outcome = record { moves = heap.moves; after = ans.after; reply = reply } in
        let whole = whole_kept v.now.world ans.after call heap.moves reply w.whole ans.fresh (inl ans.row) in
        let more =
        enough v.now.demand (heap_in fresh_heap) v.now.world call o (fresh_stands v at) (served_in w)
        (small_in fresh_heap w.keeps) ans.row ans.answered in
        let later = next_kept v.now.world o call ans.row in
        record {
          pools = lead.after;
          base = refl;
          keeps = lead.keeps;
          heap = ans.stands;
          whole = whole;
          fits = fields_fit v.now.world ans.after call heap.moves reply w.whole.valid w.whole.fits w.fits fit ans.words (inl ans.row);
          next = omega (arith, w.next, later);
          gave = ans.gave;
          lines = omega (arith, lines, w.lines, more);
        }

    -- the same world after a call that was not answered and left the heap
    within_same : (heap' : Held (Opened D)) (reply : Reply) → heap'.cells ≡ heap.cells → heap'.size ≡ heap.size → heap'.marks ≡ heap.marks
        → heap_in heap ≡ heap_in fresh_heap → page ≡ old.shown → length heap.cells.touched ≤ length old.heap.cells.touched
        → StandsWithin heap' page (next v.now.world reply)
    within_same heap' reply cells size marks left gave lines =
        let w = at.now going in
        let s = subst (λ (h : Heap). HeapStandsFor h v.now.world) (sym left) (fresh_stands v at) in
        let more = asks_more v.now.demand v.now.world call (record { moves = heap.moves; after = v.now.world; reply = reply }) in
        let here : StandsWithin (record heap' { cells = heap.cells; size = heap.size; marks = heap.marks }) page (next v.now.world reply) =
        record {
          pools = lead.after;
          base = refl;
          keeps = lead.keeps;
          heap = record { blocks = s.blocks; roots = s.roots; marks = s.marks };
          whole = w.whole;
          fits = w.fits;
          next = w.next;
          gave = w.gave ∙ sym gave;
          lines = omega (arith, lines, w.lines, more);
        } in
        subst (λ (h : Held (Opened D)). StandsWithin h page (next v.now.world reply))
        (λ i. record heap' { cells = sym cells i; size = sym size i; marks = sym marks i }) here

  -- an answered call brings what its row does
  pub brings_answered : (reply : Reply) → ComesInEach call (heap_in fresh_heap) (heap_in heap) old.shown page (Ok reply) → WorksIn (Ok reply)
      → AsksIn (Ok reply) → Brings StandsInMemory old going_ground (Calls (m.told old.media) call reply)
  brings_answered reply comes each asks = record {
    each = λ v at.
        let w = at.now going in
        let works = each v.now.world (fresh_stands v at) (served_in w) in
        let ans = comes.each v.now.world (fresh_stands v at) (served_in w) in
        let media = asks.each v.now.world (fresh_stands v at) (served_in w) in
        let moves = works.moved fresh_heap (Moves-none (KeepsRegion fresh_heap.size fresh_heap.cells.bytes) (KeepsRegion fresh_heap.size fresh_heap.cells.bytes) [] (λ P k. k)) in
        let q = quiet_of works in
        let after = next v at moves ans.after reply in
        let within = within_answered v at moves reply q.0.frame works.room.most ans in
        record {
          for = record { before = v.before; now = after; moves = heap.moves };
          holds = stands_on going_ground v at q.0 works.cause.explained.1 q.1 after
              (asked_some v.now.demand v.now.world call (record { moves = heap.moves; after = ans.after; reply = reply }))
              (ans.taken ∙ at.taken) ans.gave
              (subst (λ (n : ℕ). HasStood n ans.after) q.1 (stood_of within)) (λ _. within) refl;
          tells = record {
            steps = steps_to v at moves ans.after reply q.0.frame (inl ans.row)
                (not_full (room_of old.heap.cells.frame) v.now.demand v.now.world call reply ans.answered)
                (answered_misses v.now.world call reply ans.answered);
            media = subst (λ (bytes : List ℕ). AgreesWith (m.told old.media) v.now.world (events.Say call) (answers.Reply reply) (bytes_given (answers.Reply reply) bytes))
                (sym ans.gave) media.agrees;
            before = refl;
          };
        };
  }

  -- a call that media failed leaves the world
  pub brings_missed : WorksIn (Err stops.MediaFault) → AsksIn (Err stops.MediaFault)
      → Brings StandsInMemory old going_ground (Calls (m.told old.media) call replies.MediaFault)
  brings_missed each asks = record {
    each = λ v at.
        let w = at.now going in
        let works = each v.now.world (fresh_stands v at) (served_in w) in
        let media = asks.each v.now.world (fresh_stands v at) (served_in w) in
        let stays = media.stays refl in
        let aim : Aim v.now.world call = media.misses.0 in
        let moves = works.moved fresh_heap (Moves-none (KeepsRegion fresh_heap.size fresh_heap.cells.bytes) (KeepsRegion fresh_heap.size fresh_heap.cells.bytes) [] (λ P k. k)) in
        let q = quiet_of works in
        let after = next v at moves v.now.world replies.MediaFault in
        let none : heap.moves ≡ [] = ap (λ (h : Heap). h.moves) stays.1 in
        let lines = media_lines (heap_in fresh_heap) v.now.world call stays.0 in
        let few = works.room.most in
        record {
          for = record { before = v.before; now = after; moves = heap.moves };
          holds = stands_on going_ground v at q.0 works.cause.explained.1 q.1 after
              (asked_some v.now.demand v.now.world call (record { moves = heap.moves; after = v.now.world; reply = replies.MediaFault }))
              at.taken (at.gave ∙ sym stays.2) at.stood
              (λ _. within_same v at moves heap replies.MediaFault refl refl refl stays.1 stays.2 (omega (arith, few, lines))) refl;
          tells = record {
            steps = steps_to v at moves v.now.world replies.MediaFault q.0.frame
                (inr (record { aim = aim.to; row = aim.row; answered = aim.answered; stopped = (none, stays.0); same = refl })) tt
                media.misses.1;
            media = tells_fault (m.told old.media) v.now.world call;
            before = refl;
          };
        };
  }

  -- the ground after a call that was refused, with room for so many moves
  abbrev pub refused_ground : Refusal → ℕ → Grounded D M
  refused_ground refusal n = record {
    heap = record heap { moves = moves_left refusal heap.moves; spare = n };
    media = files;
    shown = page;
    stopped = not (is_reading call);
    idle = false;
    moment = time;
    restored = old.restored;
  }

  reads_only : (b : Bool) → not b ≡ false → b ≡ true
  reads_only true is = refl
  reads_only false is = absurd (true≢false is)

  -- a refused call for which there was log room
  brings_stopped : (refusal : Refusal) (n : ℕ) → moves_left refusal heap.moves ≡ heap.moves
      → ((w : World) → WorksIn (Err (stops.Refused refusal)) → HeapStandsFor (heap_in fresh_heap) w → IsReady w
      → Moves (KeepsRegion fresh_heap.size fresh_heap.cells.bytes) (KeepsRegion heap.size heap.cells.bytes) [] heap.moves)
      → ((room : ℕ) (d : Demand) (w : World) → MayFillLog room d w call (replies.Refused refusal))
      → ((w : World) → HeapStandsFor (heap_in fresh_heap) w → IsReady w
      → StepTo w (record { moves = heap.moves; after = w; reply = replies.Refused refusal }) call × (is_reading call ≡ true → heap_in heap ≡ heap_in fresh_heap) × (page ≡ old.shown))
      → WorksIn (Err (stops.Refused refusal)) → AsksIn (Err (stops.Refused refusal))
      → Brings StandsInMemory old (refused_ground refusal n) (Calls (m.told old.media) call (replies.Refused refusal))
  brings_stopped refusal n same moved full steps each asks = record {
    each = λ v at.
        let w = at.now going in
        let works = each v.now.world (fresh_stands v at) (served_in w) in
        let moves = moved v.now.world each (fresh_stands v at) (served_in w) in
        let s = steps v.now.world (fresh_stands v at) (served_in w) in
        let media = asks.each v.now.world (fresh_stands v at) (served_in w) in
        let q = quiet_of works in
        let after = next v at moves v.now.world (replies.Refused refusal) in
        record {
          for = record { before = v.before; now = after; moves = moves_left refusal heap.moves };
          holds = stands_on (refused_ground refusal n) v at q.0 works.cause.explained.1 q.1 after
              (asked_some v.now.demand v.now.world call (record { moves = heap.moves; after = v.now.world; reply = replies.Refused refusal }))
              at.taken (at.gave ∙ sym s.2) at.stood
              (λ going_on.
              let reads = reads_only (is_reading call) going_on in
              let none = reading_lines (heap_in fresh_heap) v.now.world call reads in
              within_same v at moves (refused_ground refusal n).heap (replies.Refused refusal) refl refl refl (s.1 reads) s.2 (omega (arith, works.room.most, none)))
              refl;
          tells = record {
            steps = subst (λ (ms : List Move). Steps v.now call (record { reply = replies.Refused refusal; moves = ms; after = after })) (sym same)
                (steps_to v at moves v.now.world (replies.Refused refusal) q.0.frame s.0 (full (room_of old.heap.cells.frame) v.now.demand v.now.world)
                (refused_misses m v.now.world call old.media files refusal media.misses));
            media = media.agrees;
            before = refl;
          };
        };
  }

  -- the state after a call for which there was no log room
  abbrev pub full_state : (v : GroundState) → StandsInMemory old v → Reply → State
  full_state v at reply = record {
    world = v.now.world;
    base = Ground.OnHeap (room_of heap.cells.frame) (at.now going).pools;
    demand = demand_after v.now.demand v.now.world call (record { moves = []; after = v.now.world; reply = reply });
  }

  -- a refused call for which there was none
  brings_full : (lines room n : ℕ)
      → ((w : World) → HeapStandsFor (heap_in fresh_heap) w → IsReady w → Aim w call × (is_reading call ≡ false) × (page ≡ old.shown))
      → WorksIn (Err (stops.Refused (refusals.LogFull lines room))) → AsksIn (Err (stops.Refused (refusals.LogFull lines room)))
      → Brings StandsInMemory old (refused_ground (refusals.LogFull lines room) n)
      (Calls (m.told old.media) call (replies.Refused (refusals.LogFull lines room)))
  brings_full lines room n aims each asks = record {
    each = λ v at.
        let w = at.now going in
        let works = each v.now.world (fresh_stands v at) (served_in w) in
        let reply = replies.Refused (refusals.LogFull lines room) in
        let aim = aims v.now.world (fresh_stands v at) (served_in w) in
        let q = quiet_of works in
        let after = full_state v at reply in
        let f = works.room.full in
        let more =
        enough v.now.demand (heap_in fresh_heap) v.now.world call aim.0.to (fresh_stands v at) (served_in w)
        (small_in fresh_heap w.keeps) aim.0.row aim.0.answered in
        record {
          for = record { before = v.before; now = after; moves = [] };
          holds = stands_on (refused_ground (refusals.LogFull lines room) n) v at q.0 works.cause.explained.1 q.1 after
              (asked_some v.now.demand v.now.world call (record { moves = []; after = v.now.world; reply = reply }))
              at.taken (at.gave ∙ sym aim.2) at.stood
              (λ going_on. absurd (true≢false (ap not (sym aim.1) ∙ going_on))) refl;
          tells = record {
            steps = subst (λ (b : Ground). StepsOn b v.now call (record { reply = reply; moves = []; after = after })) (sym w.base) (record {
              step = inr (record {
                aim = aim.0.to;
                row = aim.0.row;
                answered = aim.0.answered;
                stopped = (record { rest = aim.0.to.moves; whole = refl }, aim.1);
                same = refl;
              });
              pools = w.pools;
              base = ap (λ (f : Frame). Ground.OnHeap (room_of f) w.pools) q.0.frame;
              fit = refl;
              full = record {
                aim = aim.0.to;
                row = aim.0.row;
                answered = aim.0.answered;
                room_is = f.0;
                above = f.1;
                most = omega (arith, f.2, w.lines, more);
              };
              media = tt;
              demand = refl;
            });
            media = (asks.each v.now.world (fresh_stands v at) (served_in w)).agrees;
            before = refl;
          };
        };
  }

  -- a refused call brings what its step does
  pub brings_refused : (refusal : Refusal) (n : ℕ) → ComesInEach call (heap_in fresh_heap) (heap_in heap) old.shown page (Err (stops.Refused refusal))
      → WorksIn (Err (stops.Refused refusal)) → AsksIn (Err (stops.Refused refusal))
      → Brings StandsInMemory old (refused_ground refusal n) (Calls (m.told old.media) call (replies.Refused refusal))
  brings_refused (refusals.LogFull lines room) n comes works asks =
      brings_full lines room n (λ w stands served. let r = comes.each w stands served in (r.step.0, r.step.1, r.gave)) works asks
  brings_refused refusal n comes works asks =
      brings_stopped refusal n refl
      (λ w each stands served.
      (each w stands served).moved fresh_heap
      (Moves-none (KeepsRegion fresh_heap.size fresh_heap.cells.bytes) (KeepsRegion fresh_heap.size fresh_heap.cells.bytes) [] (λ P k. k)))
      (λ room d w. tt)
      (λ w stands served. let r = comes.each w stands served in (r.step, r.left, r.gave)) works asks

-- A call within the transaction of a ground whose moment is its disk's still.
module _ {D M : Type 0} (d : DiskGhosts D) (old new : Grounded D M) (q : QuietOn d old.heap.cells new.heap.cells)
    (seen : new.moment ≡ d.moment new.heap.cells.disk) where
  -- what it brings in memory it brings on its disk
  pub brings_quiet : {P : GroundState → GroundState → Type 0} → Brings StandsInMemory old new P
      → Brings (λ g v. StandsForBoth d.bytes d.tells_crashes d.moment d.may_hold_after g v) old new P
  brings_quiet brings = record {
    each = λ v at.
        let s = brings.each v at.memory in
        record { for = s.for; holds = record { rests = q.rests at.rests; moment_is = seen; memory = s.holds }; tells = s.tells };
  }

  -- a crash leaves the state before, unless the disk had failed
  pub leaves_quiet : (media : MediaGhosts M) → old.heap.cells.failed ≡ false → old.moment ≤ new.moment
      → LeavesBefore (heap_ground d.bytes d.tells_crashes d.moment d.faults d.may_hold_after media) old new
  leaves_quiet media sound since =
      leaves_back d.bytes d.tells_crashes d.moment d.faults d.may_hold_after media old new.heap.cells.disk new.moment seen since sound
      q.disk.tells (GivesHeap old.heap.cells.begun) (q.any_moment sound) new refl refl (λ image gives. gives)

-- no call on blocks fails again where the disk hadn't failed
pub not_failed : {D : Type 0} (d : DiskGhosts D) (old new : Held (Opened D)) (lines : ℕ) → old.cells.failed ≡ false
    → Spends (image_heap d) lines old new (past_media {T = Reply} (Err stops.Failed)) → ⊥
not_failed d old new lines sound works = true≢false (sym works.cause.explained.0 ∙ sound)

-- and where one meets a disk fault, the disk has failed, whose count rose
pub has_failed : {D : Type 0} (d : DiskGhosts D) (old new : Held (Opened D)) (lines : ℕ)
    → Spends (image_heap d) lines old new (past_media {T = Reply} (Err stops.DiskFault))
    → (new.cells.failed ≡ true) × Rose (d.faults old.cells.disk) (d.faults new.cells.disk)
has_failed d old new lines works = (works.cause.explained.1, works.cause.explained.2)

-- a reply that answers dooms nothing
pub answers_no_doom : (call : Call) (reply : Reply) → is_answer reply ≡ true → dooms call reply ≡ false
answers_no_doom call (replies.Refused refusal) is = absurd (true≢false (sym is))
answers_no_doom call reply is = refl
