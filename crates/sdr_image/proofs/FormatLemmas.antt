-- A disk that was formatted, step by step.
use Rattle.std.proofs.Common.{◌≡◌, ℕ, ◌+◌, ◌-◌, ◌*◌, ◌≤◌, List, [], ◌∷◌, ◌++◌, length, sym, ◌∙◌}
use Rattle.std.proofs.Common.{ap, arith}
use Rattle.std.specs.Prelude.{replicate}
use Rattle.sdr_base.specs.FreshHeap.{fresh_control, fresh_heap}
use Rattle.sdr_base.specs.Parts.{overwrite}
use Rattle.sdr_base.proofs.FreshHeapLemmas.{length-fresh_control, fresh_heap-zeros, length-fresh_heap}
use Rattle.sdr_base.proofs.PartsLemmas.{length-overwrite, overwrite-behind, overwrite-again, overwrite-apart}
use Rattle.sdr_log.specs.Frame.{heap_place, head_of, disk_bytes, IsInLimits}
use Rattle.sdr_log.specs.declared.frame.Frame.{Frame}
use Rattle.sdr_log.proofs.FrameLemmas.{length-head_of}
use Rattle.sdr_image.specs.Format.{formatted}

-- the control words, and zeros behind them
pub fresh_heap_behind : (p q : ℕ) (f : Frame) (control x : List ℕ) → p ≡ heap_place f → q ≡ heap_place f →
    control ≡ fresh_control f.heap_lines → IsInLimits f → disk_bytes f ≤ length x →
    overwrite (q + 1024) (replicate (64 * f.heap_lines - 1024) 0) (overwrite p control x)
    ≡ overwrite (heap_place f) (fresh_heap f.heap_lines) x
fresh_heap_behind p q f control x p_is q_is is limits le =
    let zeros : List ℕ = replicate (64 * f.heap_lines - 1024) 0 in
    let long = ap length is ∙ length-fresh_control f.heap_lines in
    ap (λ (k : ℕ). overwrite k zeros (overwrite p control x)) (omega (arith, q_is, p_is, long))
    ∙ overwrite-behind p control zeros x (omega (arith, long, p_is, le, limits.least_heap))
    ∙ ap (λ (k : ℕ). overwrite k (control ++ zeros) x) p_is
    ∙ ap (λ (l : List ℕ). overwrite (heap_place f) (l ++ zeros) x) is
    ∙ ap (λ (l : List ℕ). overwrite (heap_place f) l x) (sym (fresh_heap-zeros f.heap_lines limits.least_heap))

-- bytes put over as many, with others put behind in between
overwrite-first : (ys zs x a b : List ℕ) (p q : ℕ) → length ys ≡ length zs → length ys ≤ p → p + length a ≤ length x →
    length ys ≤ q → q + length b ≤ length x →
    overwrite 0 zs (overwrite q b (overwrite p a (overwrite 0 ys x))) ≡ overwrite 0 zs
    (overwrite q b (overwrite p a x))
overwrite-first ys zs x a b p q same p_behind p_inside q_behind q_inside =
    let long = length-overwrite p a x p_inside in
    ap (λ (l : List ℕ). overwrite 0 zs (overwrite q b l)) (overwrite-apart 0 p ys a x (omega arith) p_inside)
    ∙ ap (overwrite 0 zs) (overwrite-apart 0 q ys b (overwrite p a x) (omega arith) (omega (arith, long)))
    ∙ overwrite-again 0 ys zs (overwrite q b (overwrite p a x))
    (omega (arith, long, length-overwrite q b (overwrite p a x) (omega (arith, long)))) (sym same)

-- the head written over the zeros that stood in its place
pub formatted_over : (f : Frame) (zeros x : List ℕ) → length zeros ≡ 64 → IsInLimits f → disk_bytes f ≤ length x →
    overwrite 0 (head_of f) (overwrite (heap_place f) (fresh_heap f.heap_lines)
    (overwrite 64 (0 ∷ []) (overwrite 0 zeros x)))
    ≡ formatted f x
unfolding formatted
formatted_over f zeros x long limits le =
    let fresh = length-fresh_heap f.heap_lines limits.least_heap in
    overwrite-first zeros (head_of f) x (0 ∷ []) (fresh_heap f.heap_lines) 64 (heap_place f)
    (long ∙ sym (length-head_of f)) (omega (arith, long)) (omega (arith, limits.least_log, le))
    (omega (arith, long)) (omega (arith, fresh, le))
