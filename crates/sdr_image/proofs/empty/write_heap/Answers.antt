use Rattle.std.proofs.Common.{◌∙◌, ◌+◌, ◌-◌, ◌*◌, ap}
use Rattle.std.specs.Prelude.{replicate}
use Rattle.sdr_base.specs.Parts.{overwrite}
use Rattle.sdr_image.proofs.FormatLemmas.{fresh_heap_behind}
use Rattle.sdr_image.proofs.empty.write_heap.Goals as goal

pub returns-clause-written : goal.returns-clause-written
returns-clause-written g c =
    let f = c.args.frame.now in
    c.in_ok-write_zeros.ensures.written
    ∙ ap (overwrite (c.heap_place-2.result + 1024) (replicate (64 * f.heap_lines - 1024) 0)) c.in_ok-write_at.ensures.written
    ∙ fresh_heap_behind c.heap_place.result c.heap_place-2.result f c.fresh_control.result _
    c.heap_place.ensures c.heap_place-2.ensures c.fresh_control.ensures c.requires.limits c.requires.inside
