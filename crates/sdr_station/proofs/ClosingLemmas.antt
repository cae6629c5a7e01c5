-- A transaction of a heap on an image that is kept or put back.
use Rattle.std.proofs.Common.{◌≡◌, ◌∙◌, ◌≤◌, ◌⊎◌, ℕ, List, [], false, true, true≢false, Bool, Err, refl, sym, ap, subst, inl, inr, arith, length}
use Rattle.std.specs.Prelude.{replicate}
use Rattle.sdr_stands.proofs.RestLemmas.{begins, ends}
use Rattle.sdr_base.specs.KeptHeap.{block_in}
use Rattle.sdr_base.specs.Causes.{Rose}
use Rattle.sdr_base.specs.Entries.{Few}
use Rattle.sdr_base.specs.Transaction.{Explains, IfRefused, Transaction}
use Rattle.sdr_base.specs.declared.media.Media.{Ghosts as MediaGhosts}
use Rattle.sdr_base.specs.declared.stop.Stop.{Stop}
use Rattle.sdr_base.specs.declared.stop.Stop.TheVariants as stops
use Rattle.sdr_disk.specs.Moments.{AtEach}
use Rattle.sdr_disk.specs.Tells.{IfTells}
use Rattle.sdr_heap.proofs.FewLemmas.{block_in-few}
use Rattle.sdr_heap.specs.Noted.{Held, marked_in}
use Rattle.sdr_image.specs.Opened.{Opened, Rests, transaction_of}
use Rattle.sdr_machine.specs.Crash.{LeavesBefore, LeavesEither, LeavesOr}
use Rattle.sdr_machine.specs.Demand.{most_lines}
use Rattle.sdr_machine.specs.Ground.{Ground, HasHeap, State, committed, rolled_back}
use Rattle.sdr_machine.specs.Serving.{Brings, Commits, KeepsGround, MeetsFault, RollsBack}
use Rattle.sdr_machine.specs.Standing.{GroundState}
use Rattle.sdr_log.specs.Frame.{room_of}
use Rattle.sdr_log.specs.Logged.{GivesHeap}
use Rattle.sdr_log.specs.Spilled.{GivesEither}
use Rattle.sdr_station.specs.Closing as closing
use Rattle.sdr_station.specs.Grounded.{Grounded, IsGround, OpensAs, StandsAtRest, StandsForBoth, StandsInMemory, StandsWithin, heap_in}
use Rattle.sdr_station.proofs.GroundLemmas.{ground_brought, heap_ground, keeps_later, unmarked}
use Rattle.sdr_station.proofs.RestLemmas.{fits_rest, put_back_is, whole_rest}
use Rattle.sdr_station.proofs.StoodLemmas.{stood_of}

-- what the heap stands for within a transaction, its bytes stand for at rest
pub at_rest_of : {D : Type 0} (h : Held (Opened D)) (shown : List ℕ) (s : State) → s.world.taken ≡ 0 → StandsWithin h shown s
    → StandsAtRest (room_of h.cells.frame) h.cells.bytes (committed s)
at_rest_of h shown s taken w = record {
  pools = w.pools;
  base = w.base;
  stands = record {
    stands = ends h.cells.bytes (heap_in h) s.world w.pools w.heap refl refl w.keeps.heap taken;
    whole = whole_rest s.world w.whole;
    fits = fits_rest s.world w.fits;
    next = w.next;
  };
  demand = refl;
}

-- and what bytes stand for at rest, the heap of these bytes stands for within a transaction, where nothing is touched or marked
pub within_of : {D : Type 0} (h : Held (Opened D)) (n : ℕ) (s : State) → h.marks ≡ replicate n false → h.cells.touched ≡ []
    → length h.cells.bytes ≡ h.size → StandsAtRest (room_of h.cells.frame) h.cells.bytes s → StandsWithin h [] s
within_of h n s none untouched size at = record {
  pools = at.pools;
  base = at.base;
  keeps = record {
    size = size;
    heap = at.stands.stands.heap;
    few = subst (λ (count : ℕ). Few count (block_in h.cells.bytes)) size (block_in-few h.cells.bytes at.pools at.stands.stands.heap);
  };
  heap = begins h.cells.bytes (heap_in h) s.world at.pools at.stands.stands refl refl
      (λ addr. ap (λ marks. marked_in marks addr) none ∙ unmarked n addr);
  whole = at.stands.whole;
  fits = at.stands.fits;
  next = at.stands.next;
  gave = at.stands.stands.shown;
  lines = subst (λ (touched : List ℕ). length touched ≤ most_lines s.demand) (sym untouched) (omega arith);
}

-- the ground whose transaction was kept on a disk
abbrev pub kept_ground : {D M : Type 0} → Grounded D M → D → ℕ → Grounded D M
kept_ground old disk now = record {
  heap = closing.heap_committed old.heap disk;
  media = old.media;
  shown = [];
  stopped = false;
  idle = true;
  moment = now;
  restored = old.restored;
}

-- and the one whose transaction was put back
abbrev pub back_ground : {D M : Type 0} → Grounded D M → D → ℕ → Grounded D M
back_ground old disk now = record {
  heap = closing.heap_rolled_back old.heap disk;
  media = old.media;
  shown = [];
  stopped = false;
  idle = true;
  moment = now;
  restored = old.restored;
}

-- what is kept in memory
pub memory_kept : {D M : Type 0} (old : Grounded D M) (disk : D) (now : ℕ) → old.stopped ≡ false → Brings StandsInMemory old (kept_ground old disk now) Commits
memory_kept old disk now going = record {
  each = λ v at.
      let w = at.now going in
      let after = at_rest_of old.heap old.shown v.now at.taken w in
      let within = within_of (kept_ground old disk now).heap (length old.heap.marks) (committed v.now) refl refl w.keeps.size after in
      record {
        for = record { before = committed v.now; now = committed v.now; moves = v.moves };
        holds = record {
          sound = at.sound;
          size = w.keeps.size;
          before = after;
          taken = at.taken;
          gave = refl;
          stood = stood_of within;
          now = λ _. within;
          idle = λ _. refl;
          untouched = λ _. refl;
          moves = at.moves;
        };
        tells = (refl, refl);
      };
}

-- what is put back in memory
pub memory_back : {D M : Type 0} (old : Grounded D M) (disk : D) (now : ℕ) → Brings StandsInMemory old (back_ground old disk now) RollsBack
memory_back old disk now = record {
  each = λ v at.
      let next = rolled_back v.before v.now in
      let after : StandsAtRest (room_of old.heap.cells.frame) old.heap.cells.begun next =
      subst (λ (s : State). StandsAtRest (room_of old.heap.cells.frame) old.heap.cells.begun s)
      (put_back_is v.before v.now at.before.stands.stands.taken at.taken) at.before in
      let within = within_of (back_ground old disk now).heap (length old.heap.marks) next refl refl at.size after in
      record {
        for = record { before = next; now = next; moves = v.moves };
        holds = record {
          sound = at.sound;
          size = at.size;
          before = after;
          taken = at.taken;
          gave = at.before.stands.stands.shown;
          stood = stood_of within;
          now = λ _. within;
          idle = λ _. refl;
          untouched = λ _. refl;
          moves = at.moves;
        };
        tells = (refl, refl);
      };
}

-- what a close that was answered leaves of a ground
pub record ClosesTo {D M : Type 0} (bytes : D → List ℕ) (tells : D → Bool) (moment faults : D → ℕ) (may_hold_after : D → ℕ → List ℕ → Type 0)
    (media : MediaGhosts M) (may_keep : Bool) (P : GroundState → GroundState → Type 0) (old new : Grounded D M) : Type
    0 where
  pub memory : Brings StandsInMemory old new P
  pub brings : Brings (λ g v. StandsForBoth bytes tells moment may_hold_after g v) old new P
  pub sound : new.heap.cells.failed ≡ false
  pub time : old.moment ≤ new.moment
  pub keeps : KeepsGround (heap_ground bytes tells moment faults may_hold_after media) false old new
  pub any_moment : LeavesOr may_keep (heap_ground bytes tells moment faults may_hold_after media) old new
  pub is_ground : IsGround moment new

-- A transaction closes on a disk, at each moment of which a crash leaves what P tells of.
module _ {D M : Type 0} (bytes : D → List ℕ) (tells : D → Bool) (moment : D → ℕ) (faults : D → ℕ) (may_hold_after : D → ℕ → List ℕ → Type 0)
    (media : MediaGhosts M) (old : Grounded D M) (disk : D) (now : ℕ) (is : now ≡ moment disk) (since : old.moment ≤ now) (sound : old.heap.cells.failed ≡ false)
    (same : tells disk ≡ tells old.heap.cells.disk) (P : List ℕ → Type 0)
    (each : Rests bytes tells moment may_hold_after old.heap.cells
    → IfTells (tells old.heap.cells.disk) (AtEach moment may_hold_after old.heap.cells.disk disk P)) where
  -- what closes in memory closes on a disk that rests
  pub brings_closed : {P : GroundState → GroundState → Type 0} (new : Grounded D M) → new.heap.cells.disk ≡ disk → new.moment ≡ now
      → (Rests bytes tells moment may_hold_after old.heap.cells → Rests bytes tells moment may_hold_after new.heap.cells)
      → Brings StandsInMemory old new P → Brings (λ g v. StandsForBoth bytes tells moment may_hold_after g v) old new P
  brings_closed new on at_now rests brings = record {
    each = λ v at.
        let s = brings.each v at.memory in
        record {
          for = s.for;
          holds = record {
            rests = rests at.rests;
            moment_is = at_now ∙ is ∙ ap moment (sym on);
            memory = s.holds;
          };
          tells = s.tells;
        };
  }

  -- each image gives what Q tells of, on a ground with this disk and moment
  at_each : (new : Grounded D M) → new.heap.cells.disk ≡ disk → new.moment ≡ now → (v : GroundState) → (Q : List ℕ → Type 0)
      → StandsForBoth bytes tells moment may_hold_after old v → ((image : List ℕ) → P image → Q image)
      → AtEach (heap_ground bytes tells moment faults may_hold_after media).moment (heap_ground bytes tells moment faults may_hold_after media).left old new Q
  at_each new on at_now v Q at also = record {
    later = omega (arith, since, at_now);
    each = λ m image ge le l.
        let told = sym same ∙ ap tells (sym on) ∙ l.tells in
        let e = each at.rests told in
        let was = at.moment_is in
        also image (e.each m image (omega (arith, ge, was)) (omega (arith, le, is, at_now))
        (subst (λ (d : D). may_hold_after d m image) on l.left));
    past = λ m image le l.
        let told = sym same ∙ ap tells (sym on) ∙ l.tells in
        let e = each at.rests told in
        record {
          tells = told;
          left = e.past m image (omega (arith, le, at.moment_is)) (subst (λ (d : D). may_hold_after d m image) on l.left);
        };
  }

  -- where each image gives the bytes at begin, a crash leaves the state before
  pub leaves_back : (new : Grounded D M) → new.heap.cells.disk ≡ disk → new.moment ≡ now
      → ((image : List ℕ) → P image → GivesHeap old.heap.cells.begun image)
      → LeavesBefore (heap_ground bytes tells moment faults may_hold_after media) old new
  leaves_back new on at_now also = record {
    each = λ v at. at_each new on at_now v (λ image. OpensAs image v.before) at (λ image p. record {
      heap = old.heap.cells.begun;
      back = also image p;
      room = room_of old.heap.cells.frame;
      stands = at.memory.before;
    });
  }

  -- where each image gives those or the bytes now, it leaves the state before, or the one that is kept
  pub leaves_either : (new : Grounded D M) → new.heap.cells.disk ≡ disk → new.moment ≡ now → old.stopped ≡ false
      → ((image : List ℕ) → P image → GivesEither old.heap.cells.begun old.heap.cells.bytes image)
      → LeavesEither (heap_ground bytes tells moment faults may_hold_after media) old new
  leaves_either new on at_now going also = record {
    each = λ v at. at_each new on at_now v (λ image. OpensAs image v.before ⊎ OpensAs image (committed v.now)) at
        (λ image p. elim (also image p) [
          | inl begun ↦ inl (record { heap = old.heap.cells.begun; back = begun; room = room_of old.heap.cells.frame; stands = at.memory.before })
          | inr bytes ↦ inr (record {
            heap = old.heap.cells.bytes;
            back = bytes;
            room = room_of old.heap.cells.frame;
            stands = at_rest_of old.heap old.shown v.now at.memory.taken (at.memory.now going);
          })
        ]);
  }

  -- what a close leaves of a ground on which it was brought
  closes_to : {keeps : Bool} {Q : GroundState → GroundState → Type 0} (new : Grounded D M) → new.heap.cells.disk ≡ disk → new.moment ≡ now → new.media ≡ old.media
      → new.heap.cells.failed ≡ false → (new.idle ≡ true → new.stopped ≡ false) → IsGround moment old
      → faults old.heap.cells.disk ≤ faults disk
      → (Rests bytes tells moment may_hold_after old.heap.cells → Rests bytes tells moment may_hold_after new.heap.cells) → Brings StandsInMemory old new Q
      → LeavesOr keeps (heap_ground bytes tells moment faults may_hold_after media) old new → ClosesTo bytes tells moment faults may_hold_after media keeps Q old new
  closes_to new on at_now unread still going ground later rests brings leaves = record {
    memory = brings;
    brings = brings_closed new on at_now rests brings;
    sound = still;
    time = omega (arith, since, at_now);
    keeps = keeps_later bytes tells moment faults may_hold_after media old new unread (subst (λ (d : D). faults old.heap.cells.disk ≤ faults d) (sym on) later);
    any_moment = leaves;
    is_ground = ground_brought moment old new ground (at_now ∙ is ∙ ap moment (sym on)) sound still going brings;
  }

  -- a transaction that is kept
  pub closes_kept : (new : Grounded D M) → new ≡ kept_ground old disk now → IsGround moment old → old.stopped ≡ false
      → faults old.heap.cells.disk ≤ faults disk
      → (Rests bytes tells moment may_hold_after old.heap.cells → Rests bytes tells moment may_hold_after
      (kept_ground old disk now).heap.cells)
      → ((image : List ℕ) → P image → GivesEither old.heap.cells.begun old.heap.cells.bytes image)
      → ClosesTo bytes tells moment faults may_hold_after media true Commits old new
  closes_kept new same ground going later rests also =
      subst (λ (n : Grounded D M). ClosesTo bytes tells moment faults may_hold_after media true Commits old n) (sym same)
      (closes_to (kept_ground old disk now) refl refl refl sound (λ _. refl) ground later rests (memory_kept old disk now going)
      (leaves_either (kept_ground old disk now) refl refl going also))

  -- a transaction that is put back
  pub closes_back : (new : Grounded D M) → new ≡ back_ground old disk now → IsGround moment old → faults old.heap.cells.disk ≤ faults disk
      → (Rests bytes tells moment may_hold_after old.heap.cells → Rests bytes tells moment may_hold_after
      (back_ground old disk now).heap.cells)
      → ((image : List ℕ) → P image → GivesHeap old.heap.cells.begun image) → ClosesTo bytes tells moment faults may_hold_after media false RollsBack old new
  closes_back new same ground later rests also =
      subst (λ (n : Grounded D M). ClosesTo bytes tells moment faults may_hold_after media false RollsBack old n) (sym same)
      (closes_to (back_ground old disk now) refl refl refl sound (λ _. refl) ground later rests (memory_back old disk now)
      (leaves_back (back_ground old disk now) refl refl also))

-- where a close is stopped, the disk has failed
pub stop_fails : (old new : Transaction) (s : Stop) → Explains {T = Unit {0}} old new (Err s) → IfRefused {T = Unit {0}} (Err s) (λ _. ⊥)
    → new.failed ≡ true
stop_fails old new (stops.Refused refusal) explained none = absurd none
stop_fails old new stops.DiskFault explained none = explained.1
stop_fails old new stops.MediaFault explained none = absurd explained
stop_fails old new stops.Failed explained none = explained.1

-- where a close is stopped on a disk that hasn't failed, the disk fails in it
pub meets_fault : {D M : Type 0} (bytes : D → List ℕ) (tells : D → Bool) (moment faults : D → ℕ) (may_hold_after : D → ℕ → List ℕ → Type 0)
    (media : MediaGhosts M) (old new : Grounded D M) (cells : Opened D) (s : Stop) → new.heap.cells.disk ≡ cells.disk → old.heap.cells.failed ≡ false
    → Explains {T = Unit {0}} (transaction_of faults old.heap.cells) (transaction_of faults cells) (Err s)
    → IfRefused {T = Unit {0}} (Err s) (λ _. ⊥) → MeetsFault (heap_ground bytes tells moment faults may_hold_after media) old
    new
meets_fault {D} bytes tells moment faults may_hold_after media old new cells s same sound explained none = record {
  heap = λ v at. subst (λ (b : Ground). HasHeap b) (sym at.memory.before.base) tt;
  cause = subst (λ (d : D). Rose (faults old.heap.cells.disk) (faults d)) (sym same) (rose s explained none);
}
  where
    rose : (s : Stop) → Explains {T = Unit {0}} (transaction_of faults old.heap.cells) (transaction_of faults cells) (Err s)
        → IfRefused {T = Unit {0}} (Err s) (λ _. ⊥) → Rose (faults old.heap.cells.disk) (faults cells.disk)
    rose (stops.Refused refusal) explained none = absurd none
    rose stops.DiskFault explained none = explained.2
    rose stops.MediaFault explained none = absurd explained
    rose stops.Failed explained none = absurd (true≢false (sym explained.0 ∙ sound))
