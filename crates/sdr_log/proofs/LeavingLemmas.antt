-- What recovery leaves at each moment, of a disk on which nothing is pending.
use Rattle.std.proofs.Common.{◌≡◌, ◌<◌, ℕ, List, [], ◌∷◌, length, inl, inr, ◌⊎◌, ⊎_elim, sym, ◌∙◌, subst, arith}
use Rattle.sdr_disk.specs.Moments.{AtEach}
use Rattle.sdr_disk.specs.Ranges.{Agrees, range}
use Rattle.sdr_disk.proofs.MomentsLemmas.{at_both, at_then}
use Rattle.sdr_disk.proofs.RangesLemmas.{Agrees-more, Agrees-one_more, Agrees-trans}
use Rattle.sdr_log.specs.Calls.{HoldLines, with_records}
use Rattle.sdr_log.specs.Left.{IsLeftFrom}
use Rattle.sdr_log.specs.Log.{heap_of}
use Rattle.sdr_log.specs.Logged.{Logs, line_ranges}
use Rattle.sdr_log.specs.declared.frame.Frame.{Frame}
use Rattle.sdr_log.specs.declared.record.Record.{Record}
use Rattle.sdr_log.proofs.GoodLemmas.{AreBelow-good, AreNamed-own, HoldLines-put_records}
use Rattle.sdr_log.proofs.LoggedLemmas.{HasRegions-limits, Logs-lines, image_heap_same, length-heap_of, logs_gate}
use Rattle.sdr_log.proofs.LoggedLemmas.{pending_gate}
use Rattle.sdr_log.proofs.PuttingLemmas.{with_records-agrees}
use Rattle.sdr_log.proofs.RestoringLemmas.{with_records-put}

-- A disk with open batches.
module _ (f : Frame) (x image : List ℕ) (records : List Record) (l : Logs f x records) (some : 0 < length records) where
  -- an image that differs in their lines alone
  left_lines : Agrees (line_ranges f records) x image → IsLeftFrom x image
  left_lines g =
      let w = HasRegions-limits f x l.regions in
      inr record {
        frame = f;
        records = records;
        logs = l;
        opened = logs_gate f x records l some;
        others = Agrees-one_more (range 64 1) (line_ranges f records) x image g;
        either = inl (pending_gate f x image records l g (omega (arith, w.least_log)));
      }

  -- an image of the disk with its lines put back, with any byte at the first gate
  left_gate : Agrees (range 64 1 ∷ []) (with_records f records x) image → IsLeftFrom x image
  left_gate g =
      let w = HasRegions-limits f x l.regions in
      let y = with_records f records x in
      let long = Logs-lines f x records l in
      let put = with_records-put f records records x l (AreNamed-own records) long in
      let lines = with_records-agrees f records x l.regions.inside (AreBelow-good f.heap_lines records l.good) long in
      let heap = image_heap_same f y image 0 1 put.logs.regions (omega (arith, w.least_log)) g ∙ put.heap in
      inr record {
        frame = f;
        records = records;
        logs = l;
        opened = logs_gate f x records l some;
        others = Agrees-trans (range 64 1 ∷ line_ranges f records) x y image
            (Agrees-one_more (range 64 1) (line_ranges f records) x y lines)
            (Agrees-more (range 64 1 ∷ []) (range 64 1 ∷ line_ranges f records) y image (λ i o. (o.0, tt)) g);
        either = inr (subst (λ (h : List ℕ). HoldLines h records) (sym heap)
            (HoldLines-put_records f.heap_lines records (heap_of f x) l.good long
            (omega (arith, length-heap_of f x l.regions))));
      }

-- The lines are put back, and the first gate is closed.
module _ {D : Type 0} (moment : D → ℕ) (may_hold_after : D → ℕ → List ℕ → Type 0) (f : Frame) (x : List ℕ)
    (records : List Record) (l : Logs f x records) (some : 0 < length records) (old mid : D)
    (lines : AtEach moment may_hold_after old mid (Agrees (line_ranges f records) x)) where
  pub at_lines_left : AtEach moment may_hold_after old mid (IsLeftFrom x)
  at_lines_left = at_then moment may_hold_after old mid
      (Agrees (line_ranges f records) x) (IsLeftFrom x) lines (λ image g. left_lines f x image records l some g)

  pub at_gate_left : (new : D) (y : List ℕ) → y ≡ with_records f records x → AtEach moment may_hold_after mid new
      (λ image. may_hold_after mid (moment mid) image ⊎ Agrees (range 64 1 ∷ []) y image) →
      AtEach moment may_hold_after old new (IsLeftFrom x)
  at_gate_left new y is each =
      at_both moment may_hold_after old mid new (IsLeftFrom x) _ (IsLeftFrom x) at_lines_left each
      (λ image left. left)
      (λ image either. ⊎_elim
      (λ before. at_lines_left.each (moment mid) image lines.later (omega arith) before)
      (λ g. left_gate f x image records l some (subst (λ (z : List ℕ). Agrees (range 64 1 ∷ []) z image) is g)) either)
