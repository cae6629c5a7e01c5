use Rattle.std.proofs.Common.{ℕ, List, length, Contains}
use Rattle.sdr_log.specs.Calls.{AreBelow, HoldLines}
use Rattle.sdr_log.specs.Log.{heap_of}
use Rattle.sdr_log.specs.declared.frame.Frame.{Frame}
use Rattle.sdr_image.specs.Lines.{IsLineOf}
use Rattle.sdr_image.proofs.closing.keep_all.Given as goal

abbrev pub invariant-loop-first : goal.invariant-loop-first
invariant-loop-first l = (f : Frame) (x : List ℕ) → HoldLines (heap_of f x) l.fn.lines → AreBelow f.heap_lines l.fn.lines →
    ((e : ℕ × List ℕ) → Contains l.fn.cache e → IsLineOf f x e) →
    HoldLines (heap_of f x) l.rest × AreBelow f.heap_lines l.rest ×
    ((e : ℕ × List ℕ) → Contains l.cache e → IsLineOf f x e)

abbrev pub decreases-loop-first : goal.decreases-loop-first
decreases-loop-first l = length l.rest
