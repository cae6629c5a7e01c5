-- What a row of reading calls leaves of a transaction.
use Rattle.std.proofs.Common.{◌≡◌, ◌≤◌, ℕ, List, false, true, sym, ◌∙◌, arith, Result, Ok, Err}
use Rattle.sdr_base.specs.declared.stop.Stop.{Stop}
use Rattle.sdr_base.specs.declared.stop.Stop.TheVariants.{Refused, DiskFault, MediaFault, Failed}
use Rattle.sdr_base.specs.Transaction.{Transaction, Explains, HasReason, TouchesNone}
use Rattle.sdr_base.proofs.WrittenLemmas.{rose_later}

-- nothing has changed, and no call has failed
pub record ReadsOnly (x y : List ℕ) (old new : Transaction) : Type 0 where
  pub same : y ≡ x
  pub room : new.room ≡ old.room
  pub touched : new.touched ≡ old.touched
  pub later : old.faults ≤ new.faults
  pub began : old.failed ≡ false
  pub works : new.failed ≡ false

explains_later : {T : Type 0} (old mid new : Transaction) (r : Result T Stop) → old.faults ≤ mid.faults →
    old.failed ≡ false → mid.failed ≡ false → Explains mid new r → Explains old new r
explains_later old mid new (Ok value) later began works e = (began, e.1)
explains_later old mid new (Err (Refused refusal)) later began works e = (began, e.1)
explains_later old mid new (Err DiskFault) later began works e =
    (began, e.1, rose_later old.faults mid.faults new.faults later e.2)
explains_later old mid new (Err Failed) later began works e = let clash : false ≡ true = sym works ∙ e.0 in cc
explains_later old mid new (Err MediaFault) later began works e = absurd e

-- a call after reading has its reason
pub reason_later : {T : Type 0} (x y : List ℕ) (old mid new : Transaction) (r : Result T Stop) →
    ReadsOnly x y old mid → HasReason mid new r → HasReason old new r
reason_later x y old mid new r reads reason = record {
  later = omega (arith, reads.later, reason.later);
  explained = explains_later old mid new r reads.later reads.began reads.works reason.explained;
}

-- and touches no line if it does none itself
pub none_later : {T : Type 0} (x y : List ℕ) (old mid new : Transaction) (r : Result T Stop) →
    ReadsOnly x y old mid → TouchesNone mid new r → TouchesNone old new r
none_later x y old mid new r reads touches = record {
  room = touches.room ∙ reads.room;
  touched = touches.touched ∙ reads.touched;
  answered = touches.answered;
}

-- one reading call more
pub reads_more : {T : Type 0} (x y z : List ℕ) (old mid new : Transaction) (value : T) → ReadsOnly x y old mid →
    z ≡ y → TouchesNone {T = T} mid new (Ok value) → HasReason {T = T} mid new (Ok value) → ReadsOnly x z old new
reads_more x y z old mid new value reads same touches reason = record {
  same = same ∙ reads.same;
  room = touches.room ∙ reads.room;
  touched = touches.touched ∙ reads.touched;
  later = omega (arith, reads.later, reason.later);
  began = reads.began;
  works = reason.explained.1;
}

-- the first
pub reads_first : {T : Type 0} (x z : List ℕ) (old new : Transaction) (value : T) → z ≡ x →
    TouchesNone {T = T} old new (Ok value) → HasReason {T = T} old new (Ok value) → ReadsOnly x z old new
reads_first x z old new value same touches reason = record {
  same = same;
  room = touches.room;
  touched = touches.touched;
  later = reason.later;
  began = reason.explained.0;
  works = reason.explained.1;
}

pub ruleset reading = (reason_later, none_later)
