-- How open batches are closed, and logged lines put.
use Rattle.std.proofs.Common.{◌≡◌, ◌<◌, ◌⊎◌, inl, inr, ⊎_elim, ℕ, ◌+◌, true, List, [], ◌∷◌, ◌++◌, length}
use Rattle.std.proofs.Common.{sym, ap, ◌∙◌, arith, Some, length-append}
use Rattle.std.proofs.lemmas.Option.{same_Some}
use Rattle.sdr_disk.specs.Moments.{AtEach}
use Rattle.sdr_disk.proofs.MomentsLemmas.{at_both, at_then}
use Rattle.sdr_log.specs.Calls.{Closes, MayPut, Puts}
use Rattle.sdr_log.specs.Log.{heap_of, names_line, put_records}
use Rattle.sdr_log.specs.Logged.{GivesHeap, GivesSame, IsOpen}
use Rattle.sdr_log.specs.declared.frame.Frame.{Frame}
use Rattle.sdr_log.specs.declared.record.Record.{Record}
use Rattle.sdr_log.proofs.LoggedLemmas.{logs_gate}
use Rattle.sdr_log.specs.Spilled.{Ends, GivesEither, KeepsBegin, PutsThrough, Spills}
use Rattle.sdr_log.proofs.SpillingLemmas.{keeps_logs}

-- A disk that keeps the bytes at begin, with these open batches.
module _ (f : Frame) (begun : List ℕ) (place : ℕ) (records : List Record) (x : List ℕ) (left : List ℕ → Type 0)
    (k : KeepsBegin f begun place records x left) where
  -- where they have a record, the first gate is open
  pub keeps_open : 0 < length records → IsOpen f x left
  keeps_open some = record {
    logged = k.logged;
    gate = logs_gate f x records (keeps_logs f begun place records x left k) some;
  }

  -- once they are closed, the heap region stays
  pub closes_ends : (y : List ℕ) (left' : List ℕ → Type 0) → Closes f x y left' → Ends f (heap_of f x) y left'
  closes_ends y left' c = record { rest = c.rest; heap = c.heap }

  -- while they are closed, a crash leaves the bytes at begin or the heap region
  pub closing_each : {D : Type 0} (moment : D → ℕ) (may_hold_after : D → ℕ → List ℕ → Type 0) (old now : D) →
      AtEach moment may_hold_after old now (λ image. GivesSame x image ⊎ GivesHeap (heap_of f x) image) →
      AtEach moment may_hold_after old now (GivesEither begun (heap_of f x))
  closing_each moment may_hold_after old now each =
      at_then moment may_hold_after old now (λ image. GivesSame x image ⊎ GivesHeap (heap_of f x) image)
      (GivesEither begun (heap_of f x)) each
      (λ image either. ⊎_elim (λ same. inl (same ∙ k.gives)) (λ gives. inr gives) either)

  -- a line that they name may be put
  pub through_put : (line : Record) → names_line records line.line ≡ true → MayPut f (line ∷ []) x left
  through_put line named = record {
    logged = k.logged;
    named = (ap (λ (rs : List Record). names_line rs line.line) (same_Some _ _ (sym k.logged.logs.log ∙ k.log)) ∙ named, tt);
  }

  -- and all else stays
  pub through_keeps : (line : Record) (y : List ℕ) (left' : List ℕ → Type 0) → Puts f (line ∷ []) x y left' →
      PutsThrough f begun place records line x y left'
  through_keeps line y left' p = record {
    keeps = record {
      logged = p.logged;
      log = p.log ∙ k.log;
      ends = p.ends ∙ k.ends;
      gives = p.back ∙ k.gives;
    };
    heap = p.heap;
  }

  pub through_each : {D : Type 0} (moment : D → ℕ) (may_hold_after : D → ℕ → List ℕ → Type 0) (old now : D) →
      AtEach moment may_hold_after old now (GivesSame x) → AtEach moment may_hold_after old now (GivesHeap begun)
  through_each moment may_hold_after old now each =
      at_then moment may_hold_after old now (GivesSame x) (GivesHeap begun) each (λ image same. same ∙ k.gives)

-- Lines that were spilled.
module _ (f : Frame) (begun : List ℕ) (place : ℕ) (records olds news : List Record) (x z : List ℕ)
    (left : List ℕ → Type 0) (s : Spills f begun place records olds news x z left) (some : 0 < length olds) where
  many : 0 < length (records ++ olds)
  many = omega (arith, length-append records olds, some)

  pub spilled_open : IsOpen f z left
  spilled_open = keeps_open f begun _ (records ++ olds) z left s.keeps many

  pub spilled_ends : (y : List ℕ) (left' : List ℕ → Type 0) → Closes f z y left' →
      Ends f (put_records news (heap_of f x)) y left'
  spilled_ends y left' c = record { rest = c.rest; heap = c.heap ∙ s.heap }

  pub spilled_each : {D : Type 0} (moment : D → ℕ) (may_hold_after : D → ℕ → List ℕ → Type 0) (old mid now : D) →
      AtEach moment may_hold_after old mid (GivesHeap begun) →
      AtEach moment may_hold_after mid now (λ image. GivesSame z image ⊎ GivesHeap (heap_of f z) image) →
      AtEach moment may_hold_after old now (GivesEither begun (put_records news (heap_of f x)))
  spilled_each moment may_hold_after old mid now before each =
      at_both moment may_hold_after old mid now (GivesHeap begun) (λ image. GivesSame z image ⊎ GivesHeap (heap_of f z) image)
      (GivesEither begun (put_records news (heap_of f x))) before each (λ image gives. inl gives)
      (λ image either. ⊎_elim (λ same. inl (same ∙ s.keeps.gives)) (λ gives. inr (gives ∙ ap Some s.heap)) either)

-- what gives the bytes at begin gives one of two heaps
pub either_first : {D : Type 0} (moment : D → ℕ) (may_hold_after : D → ℕ → List ℕ → Type 0) (old now : D)
    (begun bytes : List ℕ) → AtEach moment may_hold_after old now (GivesHeap begun) →
    AtEach moment may_hold_after old now (GivesEither begun bytes)
either_first moment may_hold_after old now begun bytes each =
    at_then moment may_hold_after old now (GivesHeap begun) (GivesEither begun bytes) each (λ image gives. inl gives)
