-- What a crash may leave behind a call, and what is logged then.
use Rattle.std.proofs.Common.{◌≡◌, ◌≤◌, ◌<◌, ◌⊎◌, inl, inr, ℕ, List, [], ◌∷◌, sym, ◌∙◌, subst, arith}
use Rattle.sdr_disk.specs.Moments.{IsTorn, Only, SamePast, Syncs, Writes}
use Rattle.sdr_disk.specs.Ranges.{Agrees, range}
use Rattle.sdr_disk.proofs.RangesLemmas.{Agrees-refl}
use Rattle.sdr_log.specs.Logged.{IsLogged, line_ranges}
use Rattle.sdr_log.specs.declared.frame.Frame.{Frame}

-- A call of a disk.
module _ {D : Type 0} (moment : D → ℕ) (may_hold_after : D → ℕ → List ℕ → Type 0) (old new : D) where
  -- which was not made
  stayed_left : moment new ≡ moment old → SamePast (moment old) (may_hold_after old) (may_hold_after new) → (image : List ℕ) →
      may_hold_after new (moment new) image → may_hold_after old (moment old) image
  stayed_left same past image of_left =
      past.now_then (moment old) image (omega arith) (subst (λ (k : ℕ). may_hold_after new k image) same of_left)

  later_or_same : (a b : ℕ) → a ≤ b → (a < b) ⊎ (b ≡ a)
  later_or_same a b le = grind arith

  -- a write leaves what was left before, with any bytes in its range
  pub written_left : (place count : ℕ) → Writes moment may_hold_after place count old new → (image : List ℕ) →
      may_hold_after new (moment new) image → IsTorn (may_hold_after old (moment old)) place count image
  written_left place count w image of_left = elim (later_or_same (moment old) (moment new) w.later) [
    | inl later ↦ w.torn (moment new) image later (omega arith) of_left
    | inr same ↦ record {
      whole = image;
      left_before = stayed_left same w.past image of_left;
      agrees = Agrees-refl (range place count ∷ []) image;
    }
  ]

  -- and a sync leaves nothing else than that
  pub synced_left : Syncs moment may_hold_after old new → (image : List ℕ) → may_hold_after new (moment new) image →
      may_hold_after old (moment old) image
  synced_left s image of_left = elim (later_or_same (moment old) (moment new) s.later) [
    | inl later ↦ s.waits (moment new) image later (omega arith) of_left
    | inr same ↦ stayed_left same s.past image of_left
  ]

-- a crash leaves these bytes alone, which are those from before
pub synced_only : {x y : List ℕ} (left : List ℕ → Type 0) → y ≡ x → Only y left → Only x left
synced_only left same only image of_left = only image of_left ∙ same

-- Open batches that name all that was pending.
module _ (f : Frame) (x : List ℕ) (left left' : List ℕ → Type 0) (l : IsLogged f x left) where
  -- where less is pending, they name it
  pub logged_less : ((image : List ℕ) → left' image → left image) → IsLogged f x left'
  logged_less before =
      record { records = l.records; logs = l.logs; pending = λ image of_left. l.pending image (before image of_left) }

  -- and where nothing is
  pub logged_none : Only x left' → IsLogged f x left'
  logged_none only = record {
    records = l.records;
    logs = l.logs;
    pending = λ image of_left. subst (λ (z : List ℕ). Agrees (line_ranges f l.records) x z) (sym (only image of_left))
        (Agrees-refl (line_ranges f l.records) x);
  }
