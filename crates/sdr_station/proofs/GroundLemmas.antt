-- A heap on an image as a ground.
use Rattle.std.proofs.Common.{◌≡◌, ◌∙◌, ◌≤◌, ◌/◌, ◌%◌, ◌==◌, ◌&&◌, ℕ, List, suc, zero, true, false, true≢false, Bool, refl, sym, ap, subst}
use Rattle.std.specs.Prelude.{replicate, get_or, ⊤, OnOk, Result, Ok, Err}
use Rattle.sdr_base.specs.declared.line.TheConstants.{WORD}
use Rattle.sdr_base.specs.declared.media.Media.{Ghosts as MediaGhosts}
use Rattle.sdr_heap.specs.Noted.{marked_in}
use Rattle.sdr_machine.proofs.GroundLemmas.{lapses_same}
use Rattle.sdr_machine.specs.Lapses.{Lapses, LapsesLast}
use Rattle.sdr_machine.specs.Serving.{Brings, KeepsGround}
use Rattle.sdr_machine.specs.Standing.{GroundState}
use Rattle.sdr_machine.specs.declared.has_ground.HasGround.{Ghosts}
use Rattle.sdr_station.specs.CrashNow.{crash_now}
use Rattle.sdr_station.specs.Grounded.{Grounded, IsGoing, IsGround, HasNoCalls, HasDiskSound, Leaves, OpensAs, StandsForBoth, StandsInMemory}

-- how often media have failed, and have given fewer bytes than were asked for
abbrev pub lapses_of : {M : Type 0} → MediaGhosts M → M → Lapses
lapses_of media files = record { faults = media.faults files; short = media.short files }

-- a heap on an image as a ground, where the disk and media are told so
abbrev pub heap_ground : {D M : Type 0} → (D → List ℕ) → (D → Bool) → (D → ℕ) → (D → ℕ) → (D → ℕ → List ℕ → Type 0) → MediaGhosts M
    → Ghosts (Grounded D M)
heap_ground bytes tells moment faults may_hold_after media = record {
  stands = λ g v. StandsForBoth bytes tells moment may_hold_after g v;
  moment = λ g. g.moment;
  faults = λ g. faults g.heap.cells.disk;
  lapses = λ g. lapses_of media g.media;
  asks = λ _. 0;
  told = λ g. media.told g.media;
  lasts = λ g _. ⊤;
  sound = λ g. HasDiskSound g;
  going = λ g. IsGoing g;
  idle = λ g. HasNoCalls g;
  left = λ g m image. Leaves tells may_hold_after g.heap.cells.disk m image;
  opens = λ image s. OpensAs image s;
  crash_now = λ g v image at left. crash_now bytes tells moment may_hold_after g v image at left;
  lasts_less = λ g n lasts. lasts;
  idle_going = λ g idle. idle.going;
  going_sound = λ g going. going.sound;
}

none_of : (n i : ℕ) → get_or (replicate n false) i false ≡ false
none_of zero i = refl
none_of (suc n) zero = refl
none_of (suc n) (suc i) = none_of n i

never : (b : Bool) → (b && false) ≡ false
never true = refl
never false = refl

-- nothing is marked where all marks were taken off
pub unmarked : (n addr : ℕ) → marked_in (replicate n false) addr ≡ false
unmarked n addr = ap (λ b. (addr % WORD == 0) && b) (none_of n (addr / WORD)) ∙ never (addr % WORD == 0)

-- where the heap in memory stood for something, and what it stands for follows, the new one is a ground
pub ground_brought : {D M : Type 0} {P : GroundState → GroundState → Type 0} (moment : D → ℕ) (old new : Grounded D M) → IsGround moment old
    → new.moment ≡ moment new.heap.cells.disk → old.heap.cells.failed ≡ false → new.heap.cells.failed ≡ false
    → (new.idle ≡ true → new.stopped ≡ false) → Brings StandsInMemory old new P → IsGround moment new
ground_brought moment old new is seen was sound going brings =
    let some = is.stands was in
    let s = brings.each some.for some.holds in
    record { seen = seen; sound = λ _. sound; going = going; stands = λ _. record { for = s.for; holds = s.holds } }

-- where the disk has failed, a stopped ground is one
pub ground_failed : {D M : Type 0} (moment : D → ℕ) (g : Grounded D M) → g.moment ≡ moment g.heap.cells.disk → g.stopped ≡ true
    → g.idle ≡ false → g.heap.cells.failed ≡ true → IsGround moment g
ground_failed moment g seen stopped made failed = record {
  seen = seen;
  sound = λ going. absurd (true≢false (sym stopped ∙ going));
  going = λ idle. absurd (true≢false (sym idle ∙ made));
  stands = λ sound. absurd (true≢false (sym failed ∙ sound));
}

-- what a ground keeps whose disk counts no fewer faults, whose media tell the same, and no count of theirs falls
pub keeps_read : {D M : Type 0} (bytes : D → List ℕ) (tells : D → Bool) (moment faults : D → ℕ) (may_hold_after : D → ℕ → List ℕ → Type 0)
    (media : MediaGhosts M) (old new : Grounded D M) → media.told new.media ≡ media.told old.media
    → LapsesLast (lapses_of media old.media) (lapses_of media new.media) → faults old.heap.cells.disk ≤ faults new.heap.cells.disk
    → KeepsGround (heap_ground bytes tells moment faults may_hold_after media) false old new
keeps_read bytes tells moment faults may_hold_after media old new same gaps later = record {
  later = later;
  lapses = gaps;
  media = same;
  unasked = λ _. refl;
  lasts = λ n lasts. tt;
}

-- so it is where media are the same
pub keeps_later : {D M : Type 0} (bytes : D → List ℕ) (tells : D → Bool) (moment faults : D → ℕ) (may_hold_after : D → ℕ → List ℕ → Type 0)
    (media : MediaGhosts M) (old new : Grounded D M) → new.media ≡ old.media → faults old.heap.cells.disk ≤ faults new.heap.cells.disk
    → KeepsGround (heap_ground bytes tells moment faults may_hold_after media) false old new
keeps_later {M = M} bytes tells moment faults may_hold_after media old new unread later =
    keeps_read bytes tells moment faults may_hold_after media old new (ap media.told unread)
    (subst (λ (files : M). LapsesLast (lapses_of media old.media) (lapses_of media files)) (sym unread) (lapses_same (lapses_of media old.media))) later

-- where it was put back, no transaction is open on it
pub restored_idle : {D M T E : Type 0} (r : Result T E) (old new : Grounded D M) → HasDiskSound old → OnOk r (HasDiskSound old → new.stopped ≡ false)
    → OnOk r (HasDiskSound old → new.idle ≡ true) → OnOk r (new.heap.cells.failed ≡ old.heap.cells.failed) → OnOk r (HasNoCalls new)
restored_idle (Ok x) old new sound going idle still = record { going = record { sound = still ∙ sound; going = going sound }; idle = idle sound }
restored_idle (Err e) old new sound going idle still = tt
