-- What is told of the answer of a write.
use Rattle.std.proofs.Common.{◌≡◌, ℕ, Bool, false, List, sym, ◌∙◌, true≢false}
use Rattle.std.specs.Prelude.{Result, Ok, Err, OnErr}
use Rattle.sdr_base.specs.Transaction.{HasReason, IfRefused}
use Rattle.sdr_base.specs.declared.refusal.Refusal.{Refusal}
use Rattle.sdr_base.specs.declared.stop.Stop.{Stop}
use Rattle.sdr_base.specs.declared.stop.Stop.TheVariants.{Refused, DiskFault, MediaFault, Failed}
use Rattle.sdr_image.specs.Opened.{IsQuiet, Opened, StaysAt, transaction_of}

-- what isn't refused
pub never_refused : {T : Type 0} (P : Refusal → Type 0) (r : Result T Stop) → IfRefused r (λ _. ⊥) → IfRefused r P
never_refused P (Ok v) none = tt
never_refused P (Err (Refused refusal)) none = absurd none
never_refused P (Err DiskFault) none = tt
never_refused P (Err MediaFault) none = tt
never_refused P (Err Failed) none = tt

-- what holds on every outcome
pub on_err : {T E P : Type 0} (r : Result T E) → P → OnErr r P
on_err (Ok v) p = tt
on_err (Err e) p = p

-- a quiet call of an image that had not failed and refuses nothing
pub quiet_stays : {D T : Type 0} (bytes : D → List ℕ) (tells : D → Bool) (moment : D → ℕ)
    (may_hold_after : D → ℕ → List ℕ → Type 0) (faults : D → ℕ) (old new : Opened D) (r : Result T Stop) →
    old.failed ≡ false → IfRefused r (λ _. ⊥) → HasReason (transaction_of faults old) (transaction_of faults new) r →
    IsQuiet bytes tells moment may_hold_after old new → StaysAt r old new
quiet_stays bytes tells moment may_hold_after faults old new (Ok v) sound none why q = tt
quiet_stays bytes tells moment may_hold_after faults old new (Err (Refused refusal)) sound none why q = absurd none
quiet_stays bytes tells moment may_hold_after faults old new (Err DiskFault) sound none why q =
    record { frame = q.frame; restored = q.restored; still_open = q.still_open; failed = why.explained.1 }
quiet_stays bytes tells moment may_hold_after faults old new (Err MediaFault) sound none why q = absurd why.explained
quiet_stays bytes tells moment may_hold_after faults old new (Err Failed) sound none why q =
    absurd (true≢false (sym why.explained.0 ∙ sound))
