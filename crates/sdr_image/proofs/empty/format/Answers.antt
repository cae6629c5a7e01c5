use Rattle.std.proofs.Common.{◌∙◌, [], ◌∷◌, List, ℕ, ap, arith, refl}
use Rattle.std.specs.Prelude.{replicate}
use Rattle.sdr_base.specs.FreshHeap.{fresh_heap}
use Rattle.sdr_base.specs.Parts.{overwrite}
use Rattle.sdr_log.specs.Frame.{head_of, heap_place}
use Rattle.sdr_image.proofs.FormatLemmas.{formatted_over}
use Rattle.sdr_image.proofs.empty.format.Goals as goal

pub returns-clause-formatted : goal.returns-clause-formatted
returns-clause-formatted g c =
    let f = c.args.frame in
    c.in_ok-write_head.ensures.written
    ∙ ap (overwrite 0 (head_of f)) (c.in_ok-write_regions.ensures.written
    ∙ ap (λ (x : List ℕ). overwrite (heap_place f) (fresh_heap f.heap_lines) (overwrite 64 (0 ∷ []) x))
    c.in_ok-erase_head.ensures.written)
    ∙ formatted_over f (replicate 64 0) _ refl c.requires
    (omega (arith, c.disk_bytes-need.ensures, c.len-have.ensures, c.if-have-need.false))
