-- What is known of a heap in memory and on its disk is known of it under a condition on the disk.
use Rattle.std.proofs.Common.{◌≤◌, ℕ, List, Bool, refl, sym, subst}
use Rattle.std.specs.Prelude.{⊤, IfOk, OnErr, OnOk, Result, Ok, Err}
use Rattle.sdr_base.specs.declared.media.Media.{Ghosts as MediaGhosts}
use Rattle.sdr_machine.specs.Crash.{LeavesBefore, LeavesEither}
use Rattle.sdr_machine.specs.Ground.{Ground, HasHeap}
use Rattle.sdr_machine.specs.Serving.{Brings, KeepsGround, MeetsFault}
use Rattle.sdr_machine.specs.Standing.{GroundState}
use Rattle.sdr_machine.specs.declared.has_ground.HasGround.{Ghosts}
use Rattle.sdr_run.specs.Settled.{LeavesWhere, StandsWhere, crash_now}
use Rattle.sdr_station.proofs.GroundLemmas.{heap_ground, lapses_of}
use Rattle.sdr_station.specs.Grounded.{Grounded, IsGoing, HasNoCalls, HasDiskSound, OpensAs, StandsForBoth, StandsInMemory}

-- the heap as a ground under the condition, where the disk and media are told so
abbrev pub ground_where : {D M : Type 0} → (condition : Type 0) → (D → List ℕ) → (D → Bool) → (D → ℕ) → (D → ℕ) → (D → ℕ → List ℕ → Type 0) → MediaGhosts M
    → Ghosts (Grounded D M)
ground_where condition bytes tells moment faults may_hold_after media = record {
  stands = λ g v. StandsWhere condition bytes tells moment may_hold_after g v;
  moment = λ g. g.moment;
  faults = λ g. faults g.heap.cells.disk;
  lapses = λ g. lapses_of media g.media;
  asks = λ _. 0;
  told = λ g. media.told g.media;
  lasts = λ g _. ⊤;
  sound = λ g. HasDiskSound g;
  going = λ g. IsGoing g;
  idle = λ g. HasNoCalls g;
  left = λ g m image. LeavesWhere condition tells may_hold_after g.heap.cells.disk m image;
  opens = λ image s. OpensAs image s;
  crash_now = λ g v image at left. crash_now condition bytes tells moment may_hold_after g v image at left;
  lasts_less = λ g n lasts. lasts;
  idle_going = λ g idle. idle.going;
  going_sound = λ g going. going.sound;
}

module _ {D M : Type 0} (condition : Type 0) (bytes : D → List ℕ) (tells : D → Bool) (moment faults : D → ℕ) (may_hold_after : D → ℕ → List ℕ → Type 0)
    (media : MediaGhosts M) (old new : Grounded D M) where
  -- what is brought in memory and on the disk
  pub brings_where : {P : GroundState → GroundState → Type 0} → Brings StandsInMemory old new P
      → Brings (λ g v. StandsForBoth bytes tells moment may_hold_after g v) old new P
      → Brings (λ g v. StandsWhere condition bytes tells moment may_hold_after g v) old new P
  brings_where memory both = record {
    each = λ v at.
        let s = memory.each v at.memory in
        record {
          for = s.for;
          holds = record {
            memory = s.holds;
            disk = λ met.
                let b = (both.each v (at.disk met)).holds in
                record { rests = b.rests; moment_is = b.moment_is; memory = s.holds };
          };
          tells = s.tells;
        };
  }

  -- a fault that is met
  pub meets_where : MeetsFault (heap_ground bytes tells moment faults may_hold_after media) old new
      → MeetsFault (ground_where condition bytes tells moment faults may_hold_after media) old new
  meets_where fault =
      record { heap = λ v at. subst (λ (b : Ground). HasHeap b) (sym at.memory.before.base) tt; cause = fault.cause }

  -- what is kept
  pub keeps_where : {spent : Bool} → KeepsGround (heap_ground bytes tells moment faults may_hold_after media) spent old new
      → KeepsGround (ground_where condition bytes tells moment faults may_hold_after media) spent old new
  keeps_where keeps = record { later = keeps.later; lapses = keeps.lapses; media = keeps.media; unasked = λ _. refl; lasts = λ n lasts. tt }

  -- and what a crash leaves, where the moment hasn't fallen
  pub leaves_where : old.moment ≤ new.moment → LeavesBefore (heap_ground bytes tells moment faults may_hold_after media) old new
      → LeavesBefore (ground_where condition bytes tells moment faults may_hold_after media) old new
  leaves_where time leaves = record {
    each = λ v at. record {
      later = time;
      each = λ m image ge le l. (leaves.each v (at.disk l.met)).each m image ge le l.left;
      past = λ m image le l. record { met = l.met; left = (leaves.each v (at.disk l.met)).past m image le l.left };
    };
  }

  pub leaves_either_where : old.moment ≤ new.moment → LeavesEither (heap_ground bytes tells moment faults may_hold_after media) old new
      → LeavesEither (ground_where condition bytes tells moment faults may_hold_after media) old new
  leaves_either_where time leaves = record {
    each = λ v at. record {
      later = time;
      each = λ m image ge le l. (leaves.each v (at.disk l.met)).each m image ge le l.left;
      past = λ m image le l. record { met = l.met; left = (leaves.each v (at.disk l.met)).past m image le l.left };
    };
  }

-- what is told of a result twice is told of both
pub if_ok_both : {T E : Type 0} (r : Result T E) (P Q R : T → Type 0) → ((x : T) → P x → Q x → R x) → IfOk r P → IfOk r Q → IfOk r R
if_ok_both (Ok x) P Q R join p q = join x p q
if_ok_both (Err e) P Q R join p q = tt

pub on_ok_both : {T E : Type 0} (r : Result T E) (P Q R : Type 0) → (P → Q → R) → OnOk r P → OnOk r Q → OnOk r R
on_ok_both (Ok x) P Q R join p q = join p q
on_ok_both (Err e) P Q R join p q = tt

pub on_err_more : {T E : Type 0} (r : Result T E) (P Q : Type 0) → (P → Q) → OnErr r P → OnErr r Q
on_err_more (Ok x) P Q more p = tt
on_err_more (Err e) P Q more p = more p

-- so where it holds whatever the value is
pub if_ok_on : {T E : Type 0} (r : Result T E) (P : T → Type 0) (Q : Type 0) → ((x : T) → P x → Q) → IfOk r P → OnOk r Q
if_ok_on (Ok x) P Q more p = more x p
if_ok_on (Err e) P Q more p = tt

-- and where it holds on both outcomes
pub media_left : {T E Q : Type 0} (r : Result T E) (P : T → Type 0) (R : Type 0) → ((x : T) → P x → Q) → (R → Q) → IfOk r P → OnErr r R → Q
media_left (Ok x) P R more fails p q = more x p
media_left (Err e) P R more fails p q = fails q

pub on_ok_more : {T E : Type 0} (r : Result T E) (P Q : Type 0) → (P → Q) → OnOk r P → OnOk r Q
on_ok_more (Ok x) P Q more p = more p
on_ok_more (Err e) P Q more p = tt
