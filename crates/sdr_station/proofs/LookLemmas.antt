-- A look at a ticket on a ground.
use Rattle.std.proofs.Common.{◌≡◌, ◌∙◌, ◌≤◌, ℕ, List, [], Bool, true, false, true≢false, Option, Result, Ok, Err, refl, sym, ap, subst, length}
use Rattle.std.specs.Prelude.{OnOk}
use Rattle.std.proofs.lemmas.List.{append-nil, append_cancel_left}
use Rattle.sdr_stands.specs.Standing.{HeapStandsFor}
use Rattle.sdr_base.proofs.MovesLemmas.{Moves-none}
use Rattle.sdr_base.specs.KeptHeap.{KeepsRegion}
use Rattle.sdr_base.specs.Moves.{KeepsSome, MovesPools}
use Rattle.sdr_base.specs.Objects.{Heap, OnlyFault}
use Rattle.sdr_base.specs.Pools.{Pools}
use Rattle.sdr_base.specs.Works.{Looks}
use Rattle.sdr_base.specs.declared.moves.Move.{Move}
use Rattle.sdr_base.specs.declared.stop.Stop.{Stop}
use Rattle.sdr_base.specs.declared.stop.Stop.TheVariants as stops
use Rattle.sdr_base.specs.Causes.{Rose}
use Rattle.sdr_disk.specs.Moments.{Reads}
use Rattle.sdr_disk.specs.declared.disk.Disk.{Ghosts as DiskGhosts}
use Rattle.sdr_heap.specs.Noted.{Held}
use Rattle.sdr_image.specs.Opened.{Opened}
use Rattle.sdr_image.specs.QuietLaws.{quiet_same}
use Rattle.sdr_machine.specs.Demand.{most_lines}
use Rattle.sdr_machine.specs.Ground.{Ground, State}
use Rattle.sdr_machine.specs.Serving.{Brings, Shows}
use Rattle.sdr_machine.specs.Standing.{GroundState}
use Rattle.sdr_log.specs.Frame.{room_of}
use Rattle.sdr_log.specs.declared.frame.Frame.{Frame}
use Rattle.sdr_station.proofs.GroundLemmas.{ground_failed}
use Rattle.sdr_station.proofs.ServingLemmas.{QuietOn, image_heap}
use Rattle.sdr_station.specs.Grounded.{Grounded, HasStood, HoldsWorld, IsBefore, IsGround, StandsAtRest, StandsInMemory, StandsWithin, heap_in, HasNoCalls}
use Rattle.step_things.specs.Answering.{HeapStands}
use Rattle.step_zco.specs.AccountAnswering.{Sees}

-- what stands within a transaction holds its world
within_holds : {D : Type 0} {h : Held (Opened D)} {shown : List ℕ} {s : State} → StandsWithin h shown s → HoldsWorld h s.world
within_holds w = record { pools = w.pools; keeps = w.keeps; heap = w.heap; whole = w.whole; fits = w.fits }

-- so a ground in whose transaction no call was made holds the world before that
pub before_idle : {D M : Type 0} (moment : D → ℕ) (g : Grounded D M) → IsGround moment g → g.idle ≡ true → IsBefore g
before_idle moment g ground idle = record {
  some = ground.stands (ground.sound (ground.going idle));
  holds = λ v at.
      subst (λ (s : State). HoldsWorld g.heap s.world) (at.idle idle) (within_holds (at.now (ground.going idle)));
}

-- and it has touched no line
pub untouched_idle : {D M : Type 0} (moment : D → ℕ) (g : Grounded D M) → IsGround moment g → g.idle ≡ true → g.heap.cells.touched ≡ []
untouched_idle moment g ground idle =
    let at = (ground.stands (ground.sound (ground.going idle))).holds in
    at.untouched (ap (λ (s : State). s.demand) (at.idle idle) ∙ at.before.demand)

-- there is a heap in it
pub keeps_before_look : {D M : Type 0} (g : Grounded D M) → IsBefore g → KeepsSome (KeepsRegion g.heap.size g.heap.cells.bytes)
keeps_before_look g before =
    let h = before.holds before.some.for before.some.holds in record { pools = h.pools; keeps = h.keeps }

-- and it stands for a world
pub stands_before_look : {D M : Type 0} (g : Grounded D M) → IsBefore g → HeapStands (heap_in g.heap)
stands_before_look g before =
    let h = before.holds before.some.for before.some.holds in
    record { world = before.some.for.before.world; stands = h.heap; ready = record { whole = h.whole; fits = h.fits } }

-- A look that read the heap of a ground.
module _ {D M T : Type 0} (d : DiskGhosts D) (old : Grounded D M) (heap : Held (Opened D)) (result : Result T Stop)
    (looks : Looks (image_heap d) old.heap heap result) where
  -- what it keeps of the image
  pub looked_quiet : QuietOn d old.heap.cells heap.cells × (heap.size ≡ old.heap.size)
  looked_quiet = looks.quiet old.heap (quiet_same d.bytes d.tells_crashes d.moment d.may_hold_after old.heap.cells, refl)

  -- where no line is touched, the disk was only read
  pub looked_reads : old.heap.cells.touched ≡ [] → Reads d.bytes d.tells_crashes d.moment d.may_hold_after old.heap.cells.disk heap.cells.disk
  looked_reads none = looked_quiet.0.reads (looks.touched ∙ none)

  -- the heap stands still within its transaction
  still_within : {shown : List ℕ} {s : State} → StandsWithin old.heap shown s → StandsWithin heap shown s
  still_within {shown} {s} w =
      let q = looked_quiet in
      let moves = looks.moved old.heap
      (Moves-none (KeepsRegion old.heap.size old.heap.cells.bytes) (KeepsRegion old.heap.size old.heap.cells.bytes)
      old.heap.moves (λ P k. k)) in
      let none : moves.more ≡ [] =
      append_cancel_left old.heap.moves moves.more []
      (sym moves.moves ∙ ap (λ (h : Heap). h.moves) looks.same ∙ sym (append-nil old.heap.moves)) in
      let lead = moves.lead w.pools w.keeps in
      let same : lead.after ≡ w.pools = subst (λ (ms : List Move). MovesPools w.pools ms lead.after) none lead.fit in
      record {
        pools = w.pools;
        base = w.base ∙ ap (λ (f : Frame). Ground.OnHeap (room_of f) w.pools) (sym q.0.frame);
        keeps = subst (λ (P : Pools). KeepsRegion heap.size heap.cells.bytes P) same lead.keeps;
        heap = subst (λ (h : Heap). HeapStandsFor h s.world) (sym looks.same) w.heap;
        whole = w.whole;
        fits = w.fits;
        next = w.next;
        gave = w.gave;
        lines = subst (λ (lines : List ℕ). length lines ≤ most_lines s.demand) (sym looks.touched) w.lines;
      }

  -- unless the disk failed in it, the ground stands for what it did
  pub looked_still : heap.cells.failed ≡ false → (v : GroundState) → StandsInMemory old v → StandsInMemory (record old { heap = heap }) v
  looked_still sound v at =
      let q = looked_quiet in
      let begun = q.0.begun sound in
      record {
        sound = sound;
        size = ap (λ (bytes : List ℕ). length bytes) begun ∙ at.size ∙ sym q.1;
        before =
            subst (λ (f : Frame). StandsAtRest (room_of f) heap.cells.begun v.before) (sym q.0.frame)
            (subst (λ (bytes : List ℕ). StandsAtRest (room_of old.heap.cells.frame) bytes v.before) (sym begun) at.before);
        taken = at.taken;
        gave = at.gave;
        stood = subst (λ (n : ℕ). HasStood n v.now.world) (sym q.1) at.stood;
        now = λ going. still_within (at.now going);
        idle = at.idle;
        untouched = λ none. looks.touched ∙ at.untouched none;
        moves = at.moves ∙ sym (ap (λ (h : Heap). h.moves) looks.same);
      }

  -- a ticket that was seen so is shown
  pub shows_seen : heap.cells.failed ≡ false → (ticket : ℕ) (granted : Option Bool) → IsBefore old → Sees ticket (heap_in old.heap) granted
      → Brings StandsInMemory old (record old { heap = heap }) (Shows ticket granted)
  shows_seen sound ticket granted before sees = record {
    each = λ v at.
        let h = before.holds v at in
        record {
          for = v;
          holds = looked_still sound v at;
          tells = record {
            shown = sees.sees v.before.world h.heap (record { whole = h.whole; fits = h.fits });
            still = record { before = refl; now = refl };
          };
        };
  }

  -- which is still one
  pub looked_ground : heap.cells.failed ≡ false → old.heap.cells.touched ≡ [] → IsGround d.moment old → IsGround d.moment (record old { heap = heap })
  looked_ground sound none ground = record {
    seen = ground.seen ∙ sym (looked_reads none).time;
    sound = λ going. sound;
    going = ground.going;
    stands = λ is.
        let some = ground.stands (was_sound old.heap.cells.failed refl) in
        record { for = some.for; holds = looked_still sound some.for some.holds };
  }
    where
      was_sound : (failed : Bool) → old.heap.cells.failed ≡ failed → old.heap.cells.failed ≡ false
      was_sound false is = is
      was_sound true is = absurd (true≢false (sym (looked_quiet.0.still is).0 ∙ sound))

  -- and so is one whose disk failed, where it is stopped
  pub looked_failed : heap.cells.failed ≡ true → old.heap.cells.touched ≡ [] → IsGround d.moment old
      → IsGround d.moment (record old { heap = heap; stopped = true; idle = false })
  looked_failed failed none ground =
      ground_failed d.moment (record old { heap = heap; stopped = true; idle = false }) (ground.seen ∙ sym (looked_reads none).time) refl refl failed

-- a look that was stopped on a disk that hadn't failed met a fault of it, whose count rose
pub looks_fault : {D M T : Type 0} (d : DiskGhosts D) (old : Grounded D M) (heap : Held (Opened D)) (stop : Stop)
    → Looks {T = T} (image_heap d) old.heap heap (Err stop) → old.heap.cells.failed ≡ false → OnlyFault stop
    → (heap.cells.failed ≡ true) × Rose (d.faults old.heap.cells.disk) (d.faults heap.cells.disk)
looks_fault d old heap (stops.Refused refusal) looks sound fault = absurd fault
looks_fault d old heap stops.DiskFault looks sound fault = (looks.cause.explained.1, looks.cause.explained.2)
looks_fault d old heap stops.MediaFault looks sound fault = absurd fault
looks_fault d old heap stops.Failed looks sound fault = absurd (true≢false (sym looks.cause.explained.0 ∙ sound))

-- no transaction is open on a ground behind a look that was answered
pub looked_idle : {D M : Type 0} (old new : Grounded D M) → new ≡ record old { heap = new.heap } → new.heap.cells.failed ≡ false → HasNoCalls old
    → HasNoCalls new
looked_idle {D} {M} old new same sound idle = record {
  going = record { sound = sound; going = ap (λ (g : Grounded D M). g.stopped) same ∙ idle.going.going };
  idle = ap (λ (g : Grounded D M). g.idle) same ∙ idle.idle;
}

-- so it is by the result of a look
pub seen_idle : {D M T E : Type 0} (r : Result T E) (old new : Grounded D M) → OnOk r (new ≡ record old { heap = new.heap })
    → OnOk r (new.heap.cells.failed ≡ false) → HasNoCalls old → OnOk r (HasNoCalls new)
seen_idle (Ok x) old new same sound idle = looked_idle old new same sound idle
seen_idle (Err e) old new same sound idle = tt
