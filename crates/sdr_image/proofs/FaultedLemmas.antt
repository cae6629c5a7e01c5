-- An opening in which the disk failed.
use Rattle.std.proofs.Common.{◌≡◌, ◌⊎◌, inl, inr, ℕ, Bool, List, Some, ◌∙◌}
use Rattle.sdr_disk.specs.Moments.{Reads}
use Rattle.sdr_disk.specs.Pending.{IsSynced}
use Rattle.sdr_disk.specs.Tells.{IfTells}
use Rattle.sdr_log.specs.Calls.{MayPutBack}
use Rattle.sdr_log.specs.Faulted.{FailsAtGate, FailsBack}
use Rattle.sdr_log.specs.Frame.{frame_of}
use Rattle.sdr_log.specs.declared.frame.Frame.{Frame}
use Rattle.sdr_log.proofs.FaultedLemmas.{gate_later}
use Rattle.sdr_base.specs.Parts.{part}
use Rattle.sdr_base.specs.declared.line.TheConstants.{LINE}
use Rattle.sdr_image.specs.Opening.{FailsOpening, MayBeOpened}
use Rattle.sdr_image.proofs.OpenedLemmas.{may_put_back, reads_may}
use Rattle.sdr_log.proofs.RestoringLemmas.{reads_only}

module _ {D : Type 0} (bytes : D → List ℕ) (tells : D → Bool) (moment : D → ℕ) (may_hold_after : D → ℕ → List ℕ → Type 0) where
  -- a disk that may be put back may be opened
  back_opened : (f : Frame) (old new : D) (x y : List ℕ) →
      MayPutBack f y (may_hold_after new (moment new)) ⊎ FailsAtGate moment may_hold_after old new x y →
      MayBeOpened y (may_hold_after new (moment new)) ⊎ FailsAtGate moment may_hold_after old new x y
  back_opened f old new x y (inl (inl only)) = inl (inl only)
  back_opened f old new x y (inl (inr logged)) = inl (inr record { frame = f; logged = logged })
  back_opened f old new x y (inr at_gate) = inr at_gate

  -- it failed as the batches of these regions were put back
  pub back_failed : (f : Frame) (old new : D) → frame_of (part 0 LINE (bytes old)) ≡ Some f →
      FailsBack f bytes tells moment may_hold_after old new → FailsOpening bytes tells moment may_hold_after old new
  back_failed f old new head failed told may =
      back_opened f old new (bytes old) (bytes new) (failed told (may_put_back f (bytes old) _ head may))

  -- it failed in reads alone
  pub reads_failed : (old new : D) → Reads bytes tells moment may_hold_after old new →
      FailsOpening bytes tells moment may_hold_after old new
  reads_failed old new reads told may = inl (reads_may reads may)

  opened_later : (old mid new : D) → Reads bytes tells moment may_hold_after old mid →
      MayBeOpened (bytes new) (may_hold_after new (moment new))
      ⊎ FailsAtGate moment may_hold_after mid new (bytes mid) (bytes new) →
      MayBeOpened (bytes new) (may_hold_after new (moment new))
      ⊎ FailsAtGate moment may_hold_after old new (bytes old) (bytes new)
  opened_later old mid new reads (inl may) = inl may
  opened_later old mid new reads (inr at_gate) = inr (gate_later bytes tells moment may_hold_after old mid new reads at_gate)

  -- it failed behind reads
  pub reads_then_failed : (old mid new : D) → Reads bytes tells moment may_hold_after old mid →
      FailsOpening bytes tells moment may_hold_after mid new → FailsOpening bytes tells moment may_hold_after old new
  reads_then_failed old mid new reads failed told may =
      opened_later old mid new reads (failed (reads.tells ∙ told) (reads_may reads may))

  -- it failed in reads behind a recovery
  pub synced_then_failed : (old mid new : D) → tells mid ≡ tells old →
      IfTells (tells old) (MayBeOpened (bytes old) (may_hold_after old (moment old)) → IsSynced bytes tells moment may_hold_after mid) →
      Reads bytes tells moment may_hold_after mid new → FailsOpening bytes tells moment may_hold_after old new
  synced_then_failed old mid new same synced reads told may =
      inl (inl (reads_only reads (synced told may (same ∙ told))))
