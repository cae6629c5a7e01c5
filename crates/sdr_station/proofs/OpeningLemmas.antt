-- A heap that was opened.
use Rattle.std.proofs.Common.{◌≡◌, ◌∙◌, ◌≤◌, ℕ, List, [], false, true, true≢false, Err, Bool, Some, inl, refl, sym, ap, subst, length}
use Rattle.std.specs.Prelude.{replicate}
use Rattle.sdr_stands.specs.Standing.{StandsForWhole}
use Rattle.sdr_base.proofs.WrittenLemmas.{rose_later}
use Rattle.sdr_base.specs.Transaction.{Transaction}
use Rattle.sdr_audit.specs.Checked.{HasAuditReason, IsNoWorld, TellsFirst}
use Rattle.sdr_audit.specs.declared.error.AuditError.{AuditError}
use Rattle.sdr_audit.specs.declared.error.AuditError.TheVariants as audits
use Rattle.sdr_disk.proofs.MomentsLemmas.{at_read}
use Rattle.sdr_disk.specs.Moments.{AtEach, Reads}
use Rattle.sdr_disk.specs.Pending.{IsSynced}
use Rattle.sdr_disk.specs.Tells.{IfTells}
use Rattle.sdr_image.proofs.OpenedLemmas.{reads_may}
use Rattle.sdr_image.specs.Opened.{IsQuiet, Opened}
use Rattle.sdr_image.specs.Opening.{FailsOpening, IsOpened, MayBeOpened, UnlessFault}
use Rattle.sdr_image.specs.declared.error.ImageError.{ImageError}
use Rattle.sdr_image.specs.declared.error.ImageError.TheVariants as images
use Rattle.sdr_machine.specs.Ground.{Ground, State, resting}
use Rattle.sdr_log.proofs.LoggedLemmas.{closed_only}
use Rattle.sdr_log.specs.Calls.{KeepsRest, PutsBack}
use Rattle.sdr_log.specs.Frame.{room_of}
use Rattle.sdr_log.specs.Log.{put_back_of}
use Rattle.sdr_log.specs.declared.frame.Frame.{Frame}
use Rattle.audit_world.specs.Standing.{StandsAsTold}
use Rattle.audit_world.specs.Told.{world_of}
use Rattle.audit_world.specs.ToldPools.{pools_of}
use Rattle.sdr_station.proofs.ClosingLemmas.{within_of}
use Rattle.sdr_station.proofs.StoodLemmas.{stood_of}
use Rattle.sdr_station.specs.Grounded.{Grounded, IsGround, StandsAtRest, StandsInMemory}
use Rattle.sdr_station.specs.Opening as opening
use Rattle.sdr_station.specs.Opening.{ArePutBack, IsOfAudit, IsOfImage, IsOpen, LeavesBytes, MayBeAgain}
use Rattle.sdr_station.specs.declared.error.OpenError.{OpenError}
use Rattle.sdr_station.specs.declared.error.OpenError.TheVariants as errors

-- an image that was opened, and for whose bytes a world was found to stand, stands for it
pub open_stands : {D M : Type 0} (bytes_of : D → List ℕ) (tells : D → Bool) (moment : D → ℕ) (may_hold_after : D → ℕ → List ℕ → Type 0) (disk : D) (files : M) (i j : Opened D)
    (count spare : ℕ) → IsOpened bytes_of tells moment may_hold_after disk i → IsQuiet bytes_of tells moment may_hold_after i j → j.failed ≡ false
    → j.bytes ≡ i.bytes → j.touched ≡ i.touched
    → StandsAsTold i.bytes
    → IsOpen {M = M} bytes_of tells moment may_hold_after disk (record {
      heap = record { cells = j; size = length j.bytes; marks = replicate count false; moves = []; spare = spare };
      media = files;
      shown = [];
      stopped = false;
      idle = true;
      moment = moment j.disk;
      restored = i.restored;
    })
open_stands {D} {M} bytes_of tells moment may_hold_after disk files i j count spare o q sound bytes touched told_stands =
    let room = room_of j.frame in
    let reads = q.reads (touched ∙ o.touched) in
    let begun_same = q.begun sound in
    let s : State = resting (world_of j.begun) (Ground.OnHeap room (pools_of j.begun)) in
    let begun : j.begun ≡ j.bytes = begun_same ∙ o.begun ∙ sym bytes in
    let stands = (subst (λ (b : List ℕ). StandsAsTold b) (sym (begun_same ∙ o.begun)) told_stands).told in
    let rest : StandsAtRest room j.bytes s = record {
      pools = pools_of j.begun;
      base = refl;
      stands = subst (λ (b : List ℕ). StandsForWhole b (world_of j.begun) (pools_of j.begun)) begun stands;
      demand = refl;
    } in
    let g : Grounded D M = record {
      heap = record { cells = j; size = length j.bytes; marks = replicate count false; moves = []; spare = spare };
      media = files;
      shown = [];
      stopped = false;
      idle = true;
      moment = moment j.disk;
      restored = i.restored;
    } in
    let within = within_of g.heap count s refl (touched ∙ o.touched) refl rest in
    let memory : StandsInMemory g (record { before = s; now = s; moves = [] }) = record {
      sound = sound;
      size = ap (λ (b : List ℕ). length b) begun;
      before = subst (λ (b : List ℕ). StandsAtRest room b s) (sym begun) rest;
      taken = stands.stands.taken;
      gave = stands.stands.shown;
      stood = stood_of within;
      now = λ _. within;
      idle = λ _. refl;
      untouched = λ _. touched ∙ o.touched;
      moves = refl;
    } in
    record {
      going = refl;
      idle = refl;
      sound = sound;
      seen = refl;
      head = o.head ∙ ap (λ (f : Frame). Some f) (sym q.frame);
      gives = o.heap ∙ ap (λ (b : List ℕ). Some b) (sym bytes ∙ sym begun);
      back = subst (λ (x : List ℕ). PutsBack j.frame i.restored (bytes_of disk) x) (sym reads.same)
          (subst (λ (r : Frame). PutsBack r i.restored (bytes_of disk) (bytes_of i.disk)) (sym q.frame) o.back);
      memory = memory;
      stands = λ may. record {
        rests = q.rests (o.rests may);
        moment_is = refl;
        memory = memory;
      };
    }

-- what was opened is a ground
pub open_ground : {D M : Type 0} (bytes : D → List ℕ) (tells : D → Bool) (moment : D → ℕ) (may_hold_after : D → ℕ → List ℕ → Type 0) (disk : D) (g : Grounded D M)
    → IsOpen bytes tells moment may_hold_after disk g → IsGround moment g
open_ground bytes tells moment may_hold_after disk g o = record { seen = o.seen; sound = λ _. o.sound; going = λ _. o.going; stands = λ _. record { for = _; holds = o.memory } }

-- what holds in any case holds in these
UnlessFault-holds : {P : Type 0} (why : OpenError) → P → opening.UnlessFault why P
UnlessFault-holds errors.NotFormatted holds = holds
UnlessFault-holds (errors.Damaged place check) holds = holds
UnlessFault-holds errors.DiskFault holds = tt
UnlessFault-holds errors.NoMemory holds = holds

OnFault-holds : {P : Type 0} (why : OpenError) → P → opening.OnFault why P
OnFault-holds errors.NotFormatted holds = tt
OnFault-holds (errors.Damaged place check) holds = tt
OnFault-holds errors.DiskFault holds = holds
OnFault-holds errors.NoMemory holds = tt

OnDamaged-holds : {P : Type 0} (why : OpenError) → P → opening.OnDamaged why P
OnDamaged-holds errors.NotFormatted holds = tt
OnDamaged-holds (errors.Damaged place check) holds = holds
OnDamaged-holds errors.DiskFault holds = tt
OnDamaged-holds errors.NoMemory holds = tt

-- the disk of an image that was opened is synced, where it might be opened
pub opened_synced : {D : Type 0} (bytes : D → List ℕ) (tells : D → Bool) (moment : D → ℕ) (may_hold_after : D → ℕ → List ℕ → Type 0) (disk : D) (i : Opened D)
    → IsOpened bytes tells moment may_hold_after disk i → IfTells (tells disk) (MayBeOpened (bytes disk) (may_hold_after disk (moment disk)))
    → IsSynced bytes tells moment may_hold_after i.disk
opened_synced bytes tells moment may_hold_after disk i o may told =
    closed_only i.frame (bytes i.disk) (may_hold_after i.disk (moment i.disk)) (o.rests may o.sound told).keeps.logged o.back.gate

-- What opening told of a disk holds behind reads of it.
module _ {D : Type 0} {bytes : D → List ℕ} {tells : D → Bool} {moment : D → ℕ} {may_hold_after : D → ℕ → List ℕ → Type 0} (disk : D)
    {mid now : D} (r : Reads bytes tells moment may_hold_after mid now) where
  pub rest_read : KeepsRest (bytes disk) (bytes mid) → KeepsRest (bytes disk) (bytes now)
  rest_read rest = subst (λ (x : List ℕ). KeepsRest (bytes disk) x) (sym r.same) rest

  pub moments_read : (P : List ℕ → Type 0) → AtEach moment may_hold_after disk mid P → AtEach moment may_hold_after disk now P
  moments_read P at = at_read moment may_hold_after disk mid now P at r.time r.past

  pub back_read : {f : Frame} {count : ℕ} → PutsBack f count (bytes disk) (bytes mid) → PutsBack f count (bytes disk) (bytes now)
  back_read {f} {count} back = subst (λ (x : List ℕ). PutsBack f count (bytes disk) x) (sym r.same) back

-- so it may be opened again
pub synced_again : {D : Type 0} (bytes : D → List ℕ) (tells : D → Bool) (moment : D → ℕ) (may_hold_after : D → ℕ → List ℕ → Type 0) (old new : D) (why : OpenError)
    → tells new ≡ tells old
    → (IfTells (tells old) (MayBeOpened (bytes old) (may_hold_after old (moment old))) → IsSynced bytes tells moment may_hold_after new)
    → MayBeAgain bytes tells moment may_hold_after old new why
synced_again {D} bytes tells moment may_hold_after old new why same synced = record {
  again = λ may. UnlessFault-holds why (λ told. inl (synced may told));
  faulted = OnFault-holds why (λ told may. inl (inl (synced (λ again. may) (same ∙ told))));
  synced = λ may. OnDamaged-holds why (synced may);
}

-- and so may one whose image wasn't opened
pub image_again : {D : Type 0} (bytes : D → List ℕ) (tells : D → Bool) (moment : D → ℕ) (may_hold_after : D → ℕ → List ℕ → Type 0) (old new : D)
    (error : ImageError) (why : OpenError) → IsOfImage error why → UnlessFault error (Reads bytes tells moment may_hold_after old new)
    → FailsOpening bytes tells moment may_hold_after old new → MayBeAgain bytes tells moment may_hold_after old new why
image_again bytes tells moment may_hold_after old new images.NotFormatted why is reads failed =
    subst (λ (w : OpenError). MayBeAgain bytes tells moment may_hold_after old new w) (sym is) (record {
      again = λ may told. reads_may reads (may (sym reads.tells ∙ told));
      faulted = tt;
      synced = λ may. tt;
    })
image_again bytes tells moment may_hold_after old new images.DiskFault why is reads failed =
    subst (λ (w : OpenError). MayBeAgain bytes tells moment may_hold_after old new w) (sym is)
    (record { again = λ may. tt; faulted = failed; synced = λ may. tt })
image_again bytes tells moment may_hold_after old new images.NoMemory why is reads failed =
    subst (λ (w : OpenError). MayBeAgain bytes tells moment may_hold_after old new w) (sym is) (record {
      again = λ may told. reads_may reads (may (sym reads.tells ∙ told));
      faulted = tt;
      synced = λ may. tt;
    })

-- where an image isn't opened, the disk's bytes are the same unless it failed
pub image_leaves : (old new : List ℕ) (error : ImageError) (why : OpenError) → IsOfImage error why → UnlessFault error (new ≡ old)
    → LeavesBytes old new why
image_leaves old new images.NotFormatted why is same = subst (λ (w : OpenError). LeavesBytes old new w) (sym is) same
image_leaves old new images.DiskFault why is same = subst (λ (w : OpenError). LeavesBytes old new w) (sym is) tt
image_leaves old new images.NoMemory why is same = subst (λ (w : OpenError). LeavesBytes old new w) (sym is) tt

-- where its bytes aren't taken, the open batches are put back
pub audit_leaves : (old new : List ℕ) (error : AuditError) (why : OpenError) → IsOfAudit error why → ArePutBack old new
    → LeavesBytes old new why
audit_leaves old new (audits.Damaged place check) why is back = subst (λ (w : OpenError). LeavesBytes old new w) (sym is) back
audit_leaves old new audits.DiskFault why is back = subst (λ (w : OpenError). LeavesBytes old new w) (sym is) tt
audit_leaves old new audits.Failed why is back = subst (λ (w : OpenError). LeavesBytes old new w) (sym is) tt
audit_leaves old new audits.NoMemory why is back = subst (λ (w : OpenError). LeavesBytes old new w) (sym is) tt

-- why a heap on an image that hasn't failed wasn't taken by the audit is why it isn't opened
pub explains_audit : (T : Type 0) (x : List ℕ) (first : ℕ) (bytes : List ℕ) (old new : Transaction) (why : AuditError) (result : OpenError)
    → IsOfAudit why result → put_back_of x ≡ Some bytes → HasAuditReason {T = T} old new (Err why) → old.failed ≡ false
    → first ≤ old.faults → TellsFirst bytes why → IsNoWorld bytes why → opening.ExplainsOpen x first new.faults result
explains_audit T x first bytes old new (audits.Damaged place check) result is gives reason sound later wrong none =
    let P : OpenError → Type 0 = λ e. opening.ExplainsOpen x first new.faults e in
    subst P (sym is) (record { heap = bytes; gives = gives; wrong = wrong; none = none })
explains_audit T x first bytes old new audits.DiskFault result is gives reason sound later wrong none =
    let P : OpenError → Type 0 = λ e. opening.ExplainsOpen x first new.faults e in
    subst P (sym is) (rose_later first old.faults new.faults later reason.explained.2)
explains_audit T x first bytes old new audits.Failed result is gives reason sound later wrong none =
    absurd (true≢false (sym reason.explained.0 ∙ sound))
explains_audit T x first bytes old new audits.NoMemory result is gives reason sound later wrong none =
    let P : OpenError → Type 0 = λ e. opening.ExplainsOpen x first new.faults e in
    subst P (sym is) tt

-- no count of faults falls in an audit
pub audit_later : (T : Type 0) (old new : Transaction) (why : AuditError) → HasAuditReason {T = T} old new (Err why) → old.faults ≤ new.faults
audit_later T old new (audits.Damaged place check) reason = reason.later
audit_later T old new audits.DiskFault reason = reason.later
audit_later T old new audits.Failed reason = reason.later
audit_later T old new audits.NoMemory reason = reason.later
