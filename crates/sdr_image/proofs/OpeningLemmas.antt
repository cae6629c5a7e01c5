-- A disk that is read for the first time.
use Rattle.std.proofs.Common.{◌≡◌, ℕ, ◌*◌, List, ◌++◌, length, take, drop, ◌∙◌}
use Rattle.sdr_base.specs.Parts.{part}
use Rattle.sdr_log.specs.Frame.{heap_place}
use Rattle.sdr_log.specs.Log.{heap_of}
use Rattle.sdr_log.specs.declared.frame.Frame.{Frame}
use Rattle.sdr_image.proofs.VecLemmas.{items_anew}

-- the heap region, read into a vector
pub heap_of-read : (f : Frame) (place len : ℕ) (new old x region : List ℕ) → place ≡ heap_place f →
    len ≡ 64 * f.heap_lines →
    length new ≡ len → new ≡ part place (length new) x → region ≡ take len (new ++ drop (length new) old) →
    region ≡ heap_of f x
unfolding heap_of
heap_of-read f place len new old x region place_is len_is long read is =
    is ∙ items_anew len new old long ∙ read ∙ (λ i. part (place_is i) ((long ∙ len_is) i) x)
