-- The steps of a batch and of its closing, at every moment.
use Rattle.std.proofs.Common.{◌≡◌, ℕ, ◌+◌, List, [], ◌∷◌, length, ap, ◌∙◌, subst}
use Rattle.sdr_disk.specs.Moments.{AtEach, IsTorn, Only}
use Rattle.sdr_base.specs.Parts.{overwrite}
use Rattle.sdr_disk.specs.Ranges.{Agrees, range}
use Rattle.sdr_disk.proofs.MomentsLemmas.{at_both, at_then}
use Rattle.sdr_log.specs.Batch.{batch_of}
use Rattle.sdr_log.specs.Calls.{HasPlace, MayOpen}
use Rattle.sdr_log.specs.Log.{AreLines}
use Rattle.sdr_log.specs.Logged.{GivesSame}
use Rattle.sdr_log.specs.declared.frame.Frame.{Frame}
use Rattle.sdr_log.specs.declared.record.Record.{Record}
use Rattle.sdr_log.proofs.OpeningLemmas.{batch_same, gate_same}

module _ {D : Type 0} (moment : D → ℕ) (may_hold_after : D → ℕ → List ℕ → Type 0) where
  -- A batch may be opened on a disk of these bytes.
  module _ (f : Frame) (place size : ℕ) (records : List Record) (old : D) (x : List ℕ)
      (m : MayOpen f place records x (may_hold_after old (moment old))) (lines : AreLines records)
      (h : HasPlace f place (length records) size) (batch : List ℕ) (is : batch ≡ batch_of records) where
    -- while it is written
    pub at_batch : (now : D) → AtEach moment may_hold_after old now
        (IsTorn (may_hold_after old (moment old)) (64 + place + 1) (length batch)) →
        AtEach moment may_hold_after old now (GivesSame x)
    at_batch now each =
        at_then moment may_hold_after old now _ (GivesSame x) each
        (λ image t. batch_same f place records x (may_hold_after old (moment old)) m lines h.some h.fits t.whole image
        t.left_before
        (subst (λ (b : List ℕ). Agrees (range (64 + place + 1) (length b) ∷ []) t.whole image) is t.agrees))

    -- and while its gate is opened
    pub at_gate : (mid now : D) → AtEach moment may_hold_after old mid
        (IsTorn (may_hold_after old (moment old)) (64 + place + 1) (length batch)) →
        Only (overwrite (64 + place + 1) batch x) (may_hold_after mid (moment mid)) →
        AtEach moment may_hold_after mid now (IsTorn (may_hold_after mid (moment mid)) (64 + place) 1) →
        AtEach moment may_hold_after old now (GivesSame x)
    at_gate mid now before only each =
        at_both moment may_hold_after old mid now (GivesSame x) _ (GivesSame x) (at_batch mid before) each
        (λ image same. same)
        (λ image t. gate_same f place records x (may_hold_after old (moment old)) m lines h.some h.fits image
        (subst (λ (y : List ℕ). Agrees (range (64 + place) 1 ∷ []) y image)
        (only t.whole t.left_before ∙ ap (λ (b : List ℕ). overwrite (64 + place + 1) b x) is) t.agrees))
