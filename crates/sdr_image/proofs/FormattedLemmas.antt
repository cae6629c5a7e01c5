-- The heap that a formatted disk gives.
use Rattle.std.proofs.Common.{◌≡◌, ℕ, ◌+◌, ◌*◌, ◌≤◌, inl, inr, List, [], ◌∷◌, ◌++◌, length, get_or}
use Rattle.std.proofs.Common.{sym, ◌∙◌, ap, subst, arith, Some}
use Rattle.std.specs.Prelude.{replicate}
use Rattle.std.proofs.lemmas.Slice.Eq.{bytes_eq-Decides}
use Rattle.byteorder.specs.Numbers.{big_number-reads_back}
use Rattle.sdr_base.specs.FreshHeap.{fresh_heap}
use Rattle.sdr_base.specs.Parts.{overwrite, part}
use Rattle.sdr_base.proofs.FreshHeapLemmas.{length-fresh_heap}
use Rattle.sdr_base.proofs.PartsLemmas.{length-overwrite, get_or-overwrite_inside, get_or-overwrite_outside}
use Rattle.sdr_base.proofs.PartsLemmas.{overwrite-apart, part-overwrite}
use Rattle.sdr_log.specs.Frame.{IsInLimits, disk_bytes, heap_place, frame_in, frame_of, head_of, four, first_number}
use Rattle.sdr_log.specs.Log.{heap_of, put_back_of}
use Rattle.sdr_log.specs.declared.frame.Frame.{Frame}
use Rattle.sdr_log.proofs.FrameLemmas.{frame_of_head, length-head_of}
use Rattle.sdr_log.proofs.LogLemmas.{put_back_of-closed}
use Rattle.sdr_image.specs.Format.{formatted}

-- the lengths that stand in the head of some regions are theirs
frame_in-head_of : (f : Frame) → IsInLimits f → frame_in (head_of f) ≡ f
unfolding head_of four first_number
frame_in-head_of f limits i = record {
  log_lines = big_number-reads_back 4 f.log_lines (four f.heap_lines ++ replicate 44 0) (omega (arith, limits.most_log)) i;
  heap_lines = big_number-reads_back 4 f.heap_lines (replicate 44 0) (omega (arith, limits.most_heap)) i;
}

-- the head of some regions tells of them
pub frame_of-head_of : (f : Frame) → IsInLimits f → frame_of (head_of f) ≡ Some f
frame_of-head_of f limits =
    let is = frame_in-head_of f limits in
    frame_of_head (head_of f) (subst IsInLimits (sym is) limits)
    ((bytes_eq-Decides (head_of (frame_in (head_of f))) (head_of f)).1 (ap head_of is))
    ∙ ap Some is

-- A disk of these bytes, formatted with these regions.
module _ (f : Frame) (x : List ℕ) (limits : IsInLimits f) (le : disk_bytes f ≤ length x) where
  abbrev gated : List ℕ
  gated = overwrite 64 (0 ∷ []) x

  abbrev filled : List ℕ
  filled = overwrite (heap_place f) (fresh_heap f.heap_lines) gated

  length-gated : length gated ≡ length x
  length-gated = length-overwrite 64 (0 ∷ []) x (omega (arith, limits.least_log, le))

  heap_inside : heap_place f + length (fresh_heap f.heap_lines) ≤ length gated
  heap_inside = omega (arith, length-fresh_heap f.heap_lines limits.least_heap, length-gated, le)

  length-filled : length filled ≡ length x
  length-filled = length-overwrite (heap_place f) (fresh_heap f.heap_lines) gated heap_inside ∙ length-gated

  head_inside : length (head_of f) ≤ length x
  head_inside = omega (arith, length-head_of f, le)

  pub length-formatted : length (formatted f x) ≡ length x
  unfolding formatted
  length-formatted = length-overwrite 0 (head_of f) filled (omega (arith, head_inside, length-filled)) ∙ length-filled

  head-formatted : part 0 64 (formatted f x) ≡ head_of f
  unfolding formatted
  head-formatted =
      ap (λ (n : ℕ). part 0 n (overwrite 0 (head_of f) filled)) (sym (length-head_of f))
      ∙ part-overwrite 0 (head_of f) filled (omega (arith, head_inside, length-filled))

  gate-formatted : get_or (formatted f x) 64 0 ≡ 0
  unfolding formatted
  gate-formatted =
      get_or-overwrite_outside 0 (head_of f) filled 64 (omega (arith, head_inside, length-filled))
      (inr (omega (arith, length-head_of f)))
      ∙ get_or-overwrite_outside (heap_place f) (fresh_heap f.heap_lines) gated 64 heap_inside
      (inl (omega (arith, limits.least_log)))
      ∙ get_or-overwrite_inside 64 (0 ∷ []) x 64 (omega (arith, limits.least_log, le)) (omega arith) (omega arith)

  heap_of-formatted : heap_of f (formatted f x) ≡ fresh_heap f.heap_lines
  unfolding formatted heap_of
  heap_of-formatted =
      let long = length-overwrite 0 (head_of f) gated (omega (arith, head_inside, length-gated)) in
      let other = overwrite (heap_place f) (fresh_heap f.heap_lines) (overwrite 0 (head_of f) gated) in
      ap (λ (l : List ℕ). part (heap_place f) (64 * f.heap_lines) l)
      (sym (overwrite-apart 0 (heap_place f) (head_of f) (fresh_heap f.heap_lines) gated
      (omega (arith, length-head_of f)) heap_inside))
      ∙ ap (λ (n : ℕ). part (heap_place f) n other) (sym (length-fresh_heap f.heap_lines limits.least_heap))
      ∙ part-overwrite (heap_place f) (fresh_heap f.heap_lines) (overwrite 0 (head_of f) gated)
      (omega (arith, heap_inside, long))

  -- the heap that it gives is the fresh one
  pub put_back_of-formatted : put_back_of (formatted f x) ≡ Some (fresh_heap f.heap_lines)
  put_back_of-formatted =
      put_back_of-closed f (formatted f x) (ap frame_of head-formatted ∙ frame_of-head_of f limits)
      (omega (arith, limits.least_log)) (omega (arith, length-formatted, le)) gate-formatted
      ∙ ap Some heap_of-formatted
