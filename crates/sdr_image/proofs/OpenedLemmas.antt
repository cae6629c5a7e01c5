-- What opening leaves.
use Rattle.std.proofs.Common.{◌≡◌, ℕ, Bool, List, sym, ap, ◌∙◌, subst, Some, inl, inr, arith}
use Rattle.std.proofs.lemmas.Option.{same_Some}
use Rattle.sdr_base.specs.declared.line.TheConstants.{LINE}
use Rattle.sdr_disk.specs.Moments.{AtEach, Reads}
use Rattle.sdr_disk.specs.Pending.{IsSynced}
use Rattle.sdr_base.specs.Parts.{part}
use Rattle.sdr_disk.proofs.MomentsLemmas.{at_read}
use Rattle.sdr_log.specs.Calls.{MayPutBack, PutsBack}
use Rattle.sdr_log.specs.Frame.{frame_of}
use Rattle.sdr_log.specs.Log.{put_back_of}
use Rattle.sdr_log.specs.Logged.{GivesSame, IsLogged}
use Rattle.sdr_log.specs.declared.frame.Frame.{Frame}
use Rattle.sdr_log.proofs.LoggedLemmas.{logged_same}
use Rattle.sdr_log.proofs.RestoringLemmas.{at_restored, reads_only}
use Rattle.sdr_image.specs.Opening.{MayBeOpened}

-- The disk before it is opened.

-- what a crash leaves gives the same heap
pub opened_same : (x image : List ℕ) (left : List ℕ → Type 0) → MayBeOpened x left → left image → GivesSame x image
opened_same x image left (inl only) of_left = ap put_back_of (only image of_left)
opened_same x image left (inr stopped) of_left = logged_same stopped.frame x image left stopped.logged of_left

-- its batches may be put back
pub may_put_back : (f : Frame) (x : List ℕ) (left : List ℕ → Type 0) → frame_of (part 0 LINE x) ≡ Some f →
    MayBeOpened x left → MayPutBack f x left
may_put_back f x left head (inl only) = inl only
may_put_back f x left head (inr stopped) =
    inr (subst (λ (k : Frame). IsLogged k x left)
    (same_Some _ _ (sym stopped.logged.logs.regions.head ∙ head)) stopped.logged)

-- Reads, before and behind other calls.
module _ {D : Type 0} {bytes : D → List ℕ} {tells : D → Bool} {moment : D → ℕ}
    {may_hold_after : D → ℕ → List ℕ → Type 0} {old now : D} (r : Reads bytes tells moment may_hold_after old now) where
  left_before : (image : List ℕ) → may_hold_after now (moment now) image → may_hold_after old (moment old) image
  left_before image of_left =
      r.past.now_then (moment old) image (omega arith) (subst (λ (m : ℕ). may_hold_after now m image) r.time of_left)

  -- they leave a disk that may be opened
  pub reads_may : MayBeOpened (bytes old) (may_hold_after old (moment old)) →
      MayBeOpened (bytes now) (may_hold_after now (moment now))
  reads_may (inl only) = inl (reads_only r only)
  reads_may (inr stopped) = inr record {
    frame = stopped.frame;
    logged = subst (λ (x : List ℕ). IsLogged stopped.frame x (may_hold_after now (moment now))) (sym r.same) record {
      records = stopped.logged.records;
      logs = stopped.logged.logs;
      pending = λ image of_left. stopped.logged.pending image (left_before image of_left);
    };
  }

  -- and one on which nothing is pending
  pub reads_synced : IsSynced bytes tells moment may_hold_after old → IsSynced bytes tells moment may_hold_after now
  reads_synced synced told = reads_only r (synced (sym r.tells ∙ told))

-- at each moment of reads, other calls, and reads
pub at_between : {D : Type 0} {bytes : D → List ℕ} {tells : D → Bool} {moment : D → ℕ}
    {may_hold_after : D → ℕ → List ℕ → Type 0} {old mid mid' new : D} (P : List ℕ → List ℕ → Type 0) →
    Reads bytes tells moment may_hold_after old mid →
    ((image : List ℕ) → may_hold_after old (moment old) image → P (bytes old) image) →
    AtEach moment may_hold_after mid mid' (P (bytes mid)) → Reads bytes tells moment may_hold_after mid' new →
    AtEach moment may_hold_after old new (P (bytes old))
at_between {bytes = bytes} {moment = moment} {may_hold_after = may_hold_after} {old = old} {mid' = mid'} {new = new}
    P f before g r =
    at_read moment may_hold_after old mid' new (P (bytes old)) (at_restored f P before mid' g) r.time r.past

-- the batches are put back, where the disk was read before and behind that
pub back_between : (f : Frame) (count : ℕ) (x x' y y' : List ℕ) → x' ≡ x → y ≡ y' → PutsBack f count x' y' →
    PutsBack f count x y
back_between f count x x' y y' before behind back =
    subst (λ (z : List ℕ). PutsBack f count z y) before (subst (PutsBack f count x') (sym behind) back)
