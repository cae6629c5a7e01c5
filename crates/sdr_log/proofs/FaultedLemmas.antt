-- A recovery in which the disk failed.
use Rattle.std.proofs.Common.{◌≡◌, ◌<◌, ◌⊎◌, inl, inr, ℕ, Bool, ◌+◌, ◌*◌, List, [], ◌∷◌, length, sym, ◌∙◌, subst, arith}
use Rattle.std.specs.Prelude.{Result, Ok, Err, OnErr}
use Rattle.sdr_disk.specs.Moments.{AtEach, IsTorn, Only, Reads, Syncs}
use Rattle.sdr_disk.specs.Ranges.{Agrees, range}
use Rattle.sdr_log.specs.Calls.{MayPutBack, with_records}
use Rattle.sdr_log.specs.Faulted.{FailsAtGate, FailsBack, PendsAtGate}
use Rattle.sdr_log.specs.Log.{first_gate}
use Rattle.sdr_log.specs.Logged.{IsLogged, Logs}
use Rattle.sdr_log.specs.declared.frame.Frame.{Frame}
use Rattle.sdr_log.specs.declared.record.Record.{Record}
use Rattle.sdr_log.proofs.PendingLemmas.{logged_less, logged_none, synced_left, synced_only}
use Rattle.sdr_log.proofs.RestoringLemmas.{reads_may, reads_only}

-- what holds whatever comes, where an error comes
pub on_error : {T E P : Type 0} (result : Result T E) → P → OnErr result P
on_error (Ok value) holds = tt
on_error (Err why) holds = holds

-- Calls of a disk.
module _ {D : Type 0} (bytes : D → List ℕ) (tells : D → Bool) (moment : D → ℕ) (may_hold_after : D → ℕ → List ℕ → Type 0) where
  -- the sync before the gate failed: what is pending is logged, as before
  pub sync_failed : (f : Frame) (old new : D) → bytes new ≡ bytes old → Syncs moment may_hold_after old new →
      IsLogged f (bytes old) (may_hold_after old (moment old)) → IsLogged f (bytes new) (may_hold_after new (moment new))
  sync_failed f old new same s l =
      subst (λ (z : List ℕ). IsLogged f z (may_hold_after new (moment new))) (sym same)
      (logged_less f (bytes old) _ (may_hold_after new (moment new)) l (synced_left moment may_hold_after old new s))

  -- What a gate that wasn't closed leaves, behind the sync.
  module _ (f : Frame) (old mid new : D) (same : bytes mid ≡ bytes old) (rises : moment mid ≡ moment old + 2)
      (only : Only (bytes mid) (may_hold_after mid (moment mid)))
      (others : Agrees (range 64 1 ∷ []) (bytes mid) (bytes new))
      (each : AtEach moment may_hold_after mid new (IsTorn (may_hold_after mid (moment mid)) 64 1)) where
    gate_pending : (image : List ℕ) → may_hold_after new (moment new) image → Agrees (range 64 1 ∷ []) (bytes old) image
    gate_pending image of_left =
        let t = each.each (moment new) image each.later (omega arith) of_left in
        subst (λ (z : List ℕ). Agrees (range 64 1 ∷ []) z image) (only t.whole t.left_before ∙ same) t.agrees

    pub gate_failed : (moment mid < moment new) ⊎ Reads bytes tells moment may_hold_after mid new →
        IsLogged f (bytes old) (may_hold_after old (moment old)) →
        IsLogged f (bytes new) (may_hold_after new (moment new))
        ⊎ ((moment old + 2 < moment new) × PendsAtGate (bytes old) (bytes new) (may_hold_after new (moment new)))
    gate_failed (inl later) l =
        inr (
          omega (arith, rises, later),
          record {
            read = subst (λ (z : List ℕ). Agrees (range 64 1 ∷ []) z (bytes new)) same others;
            pending = gate_pending;
          },
        )
    gate_failed (inr reads) l =
        inl (subst (λ (z : List ℕ). IsLogged f z (may_hold_after new (moment new))) (sym same ∙ sym reads.same)
        (logged_none f (bytes old) _ (may_hold_after new (moment new)) l
        (synced_only (may_hold_after new (moment new)) (reads.same ∙ same) (reads_only reads only))))

  -- closing failed, behind the lines that were put back
  pub close_failed : (f : Frame) (old mid new : D) (records : List Record) → Logs f (bytes old) records →
      0 < first_gate (bytes old) → bytes mid ≡ with_records f records (bytes old) →
      moment mid ≡ moment old + 2 * length records →
      IsLogged f (bytes new) (may_hold_after new (moment new))
      ⊎ ((moment mid + 2 < moment new) × PendsAtGate (bytes mid) (bytes new) (may_hold_after new (moment new))) →
      MayPutBack f (bytes new) (may_hold_after new (moment new))
      ⊎ FailsAtGate moment may_hold_after old new (bytes old) (bytes new)
  close_failed f old mid new records l opened is rises (inl logged) = inl (inr logged)
  close_failed f old mid new records l opened is rises (inr at_gate) = inr record {
    frame = f;
    records = records;
    logs = l;
    opened = opened;
    late = omega (arith, rises, at_gate.0);
    gate = subst (λ (z : List ℕ). PendsAtGate z (bytes new) (may_hold_after new (moment new))) is at_gate.1;
  }

  -- it failed behind reads
  pub gate_later : (old mid new : D) → Reads bytes tells moment may_hold_after old mid →
      FailsAtGate moment may_hold_after mid new (bytes mid) (bytes new) →
      FailsAtGate moment may_hold_after old new (bytes old) (bytes new)
  gate_later old mid new reads at_gate =
      let here = subst (λ (x : List ℕ). FailsAtGate moment may_hold_after mid new x (bytes new)) reads.same at_gate in
      record {
        frame = here.frame;
        records = here.records;
        logs = here.logs;
        opened = here.opened;
        late = omega (arith, reads.time, here.late);
        gate = here.gate;
      }

  pub failed_behind : (f : Frame) (old mid new : D) → Reads bytes tells moment may_hold_after old mid →
      MayPutBack f (bytes new) (may_hold_after new (moment new))
      ⊎ FailsAtGate moment may_hold_after mid new (bytes mid) (bytes new) →
      MayPutBack f (bytes new) (may_hold_after new (moment new))
      ⊎ FailsAtGate moment may_hold_after old new (bytes old) (bytes new)
  failed_behind f old mid new reads (inl may) = inl may
  failed_behind f old mid new reads (inr at_gate) = inr (gate_later old mid new reads at_gate)

  -- it failed in reads alone
  pub reads_failed : (f : Frame) (old new : D) → Reads bytes tells moment may_hold_after old new →
      FailsBack f bytes tells moment may_hold_after old new
  reads_failed f old new reads told may = inl (reads_may reads f may)

  pub reads_then_failed : (f : Frame) (old mid new : D) → Reads bytes tells moment may_hold_after old mid →
      FailsBack f bytes tells moment may_hold_after mid new → FailsBack f bytes tells moment may_hold_after old new
  reads_then_failed f old mid new reads failed told may =
      failed_behind f old mid new reads (failed (reads.tells ∙ told) (reads_may reads f may))
