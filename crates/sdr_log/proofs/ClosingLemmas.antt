-- The first gate, closed over lines that are synced.
use Rattle.std.proofs.Common.{◌≡◌, ◌≤◌, ◌⊎◌, inl, inr, ℕ, ◌+◌, List, []}
use Rattle.std.proofs.Common.{◌∷◌, length, sym, ap, ◌∙◌, subst, arith, Some}
use Rattle.std.proofs.lemmas.Bool.{cases_eq}
use Rattle.std.proofs.lemmas.Bool.Decides.{nat_tests}
use Rattle.sdr_disk.specs.Moments.{AtEach, IsTorn, Only, Syncs}
use Rattle.sdr_base.specs.Parts.{overwrite}
use Rattle.sdr_disk.specs.Ranges.{Agrees, range}
use Rattle.sdr_disk.proofs.MomentsLemmas.{at_both, at_first, at_synced}
use Rattle.sdr_base.proofs.PartsLemmas.{get_or-overwrite_inside}
use Rattle.sdr_disk.proofs.RangesLemmas.{Agrees-overwrite}
use Rattle.sdr_log.specs.Calls.{Closes}
use Rattle.sdr_log.specs.Frame.{IsInLimits}
use Rattle.sdr_log.specs.Log.{first_gate, heap_of, put_records}
use Rattle.sdr_log.specs.Logged.{GivesHeap, GivesSame, HasRegions, IsOpen}
use Rattle.sdr_log.specs.declared.frame.Frame.{Frame}
use Rattle.sdr_log.proofs.LogLemmas.{put_back_of-closed}
use Rattle.sdr_log.proofs.LoggedLemmas.{HasRegions-limits, image_heap_same, logged_same, put_back_of-logs}
use Rattle.sdr_log.proofs.StoppedLemmas.{torn_log, torn_regions}

-- the image is put back as before, or its heap region is the heap
abbrev pub GivesEither : Frame → List ℕ → List ℕ → Type 0
GivesEither f x image = GivesSame x image ⊎ GivesHeap (heap_of f x) image

-- A disk with an open batch, and an image of it with any byte at the first gate.
module _ (f : Frame) (x image : List ℕ) (left : List ℕ → Type 0) (o : IsOpen f x left)
    (g : Agrees (range 64 1 ∷ []) x image) where
  limits : IsInLimits f
  limits = HasRegions-limits f x o.logged.logs.regions

  pub gate_regions : HasRegions f image
  gate_regions = torn_regions f x image [] o.logged.logs.regions g

  pub gate_heap : heap_of f image ≡ heap_of f x
  gate_heap = image_heap_same f x image 0 1 o.logged.logs.regions (omega (arith, limits.least_log)) g

  pub gate_gives : first_gate image ≡ 0 → GivesHeap (heap_of f x) image
  gate_gives shut =
      put_back_of-closed f image gate_regions.head (omega (arith, limits.least_log)) gate_regions.inside shut
      ∙ ap Some gate_heap

  pub torn_gate : GivesEither f x image
  torn_gate = elim (cases_eq (first_gate image) 0) [
    | inl shut ↦ inr (gate_gives shut)
    | inr still ↦
        let l = o.logged.logs in
        inl (put_back_of-logs f image o.logged.records (record {
          regions = gate_regions;
          log = torn_log f x image [] l.regions g (grind (arith, nat_tests, o.gate)) ∙ l.log;
          good = l.good;
        })
        ∙ ap (λ (h : List ℕ). Some (put_records o.logged.records h)) gate_heap
        ∙ sym (put_back_of-logs f x o.logged.records l))
  ]

-- what closing leaves
pub closes : (f : Frame) (x y : List ℕ) (left left' : List ℕ → Type 0) → IsOpen f x left →
    y ≡ overwrite 64 (0 ∷ []) x → Only y left' → Closes f x y left'
closes f x y left left' o is only =
    let r = o.logged.logs.regions in
    let w = HasRegions-limits f x r in
    let le : 64 + length {A = ℕ} (0 ∷ []) ≤ length x = omega (arith, w.least_log, r.inside) in
    let g : Agrees (range 64 1 ∷ []) x y =
    subst (λ (z : List ℕ). Agrees (range 64 1 ∷ []) x z) (sym is) (Agrees-overwrite 64 (0 ∷ []) x [] le) in
    let shut : first_gate y ≡ 0 =
    ap first_gate is ∙ get_or-overwrite_inside 64 (0 ∷ []) x 64 le (omega arith) (omega arith) in
    record {
      rest = record { regions = gate_regions f x y left o g; gate = shut; only = only };
      heap = gate_heap f x y left o g;
      gives = gate_gives f x y left o g shut;
    }

-- Closing at every moment, where what was left before has P, and so have these bytes with any byte at the first gate.
module _ {D : Type 0} (moment : D → ℕ) (may_hold_after : D → ℕ → List ℕ → Type 0) (old : D) (x : List ℕ)
    (P : List ℕ → Type 0) (before : (image : List ℕ) → may_hold_after old (moment old) image → P image)
    (torn : (image : List ℕ) → Agrees (range 64 1 ∷ []) x image → P image) where
  -- while the lines are synced
  pub at_lines : (now : D) → Syncs moment may_hold_after old now → AtEach moment may_hold_after old now P
  at_lines now s = at_synced moment may_hold_after old old now P (at_first moment may_hold_after old P before) s

  -- and while the gate is closed
  pub at_closing : (mid now : D) → Syncs moment may_hold_after old mid → Only x (may_hold_after mid (moment mid)) →
      AtEach moment may_hold_after mid now (IsTorn (may_hold_after mid (moment mid)) 64 1) →
      AtEach moment may_hold_after old now P
  at_closing mid now s only each =
      at_both moment may_hold_after old mid now P _ P (at_lines mid s) each (λ image e. e)
      (λ image t. torn image
      (subst (λ (y : List ℕ). Agrees (range 64 1 ∷ []) y image) (only t.whole t.left_before) t.agrees))

-- an image left while an open batch is closed gives either
pub open_either : (f : Frame) (x image : List ℕ) (left : List ℕ → Type 0) → IsOpen f x left → left image →
    GivesEither f x image
open_either f x image left o of_left = inl (logged_same f x image left o.logged of_left)
