-- Bytes of a disk outside ranges, over several calls.
use Rattle.std.proofs.Common.{◌≤◌, ◌<◌, ◌⊎◌, inl, inr, ℕ, ◌+◌, ◌*◌, List, [], ◌∷◌, arith, ⊎_elim}
use Rattle.sdr_disk.specs.Ranges.{Agrees, range}
use Rattle.sdr_disk.proofs.RangesLemmas.{Agrees-more}
use Rattle.sdr_log.specs.Calls.{KeepsOutside, regions_of}
use Rattle.sdr_log.specs.Frame.{disk_bytes, heap_place}
use Rattle.sdr_log.specs.declared.frame.Frame.{Frame}

-- a range inside both regions
pub agrees_inside : (f : Frame) (place count : ℕ) (x y : List ℕ) → 64 ≤ place → place + count ≤ disk_bytes f
    → Agrees (range place count ∷ []) x y → KeepsOutside f x y
agrees_inside f place count x y ge le agrees =
    Agrees-more (range place count ∷ []) (regions_of f ∷ []) x y (λ i o. (beside i o.0, tt)) agrees
  where
    beside : (i : ℕ) → (i < 64) ⊎ (64 + 64 * (f.log_lines + f.heap_lines) ≤ i) → (i < place) ⊎ (place + count ≤ i)
    beside i o = ⊎_elim (λ lt. inl (omega arith)) (λ past. inr (omega arith)) o

-- so a line of the heap region
pub agrees_line : (f : Frame) (line : ℕ) (x y : List ℕ) → line < f.heap_lines
    → Agrees (range (heap_place f + 64 * line) 64 ∷ []) x y → KeepsOutside f x y
agrees_line f line x y below agrees =
    agrees_inside f (heap_place f + 64 * line) 64 x y (omega arith) (omega (arith, below)) agrees
