use Rattle.std.proofs.Common.{◌∙◌, arith}
use Rattle.sdr_image.proofs.OpeningLemmas.{heap_of-read}
use Rattle.sdr_image.proofs.peeking.heap_region.Goals as goal

pub returns-clause-heap : goal.returns-clause-heap
returns-clause-heap g c =
    heap_of-read c.args.frame.now c.heap_place.result c.in_ok-bytes.bytes.len c.read_at.new.into c.in_ok-bytes.bytes.items _ c.of.result
    c.heap_place.ensures
    (omega (arith, c.in_ok-bytes.ensures.len)) (c.read_at.auto.into ∙ c.deref_mut.ensures.len)
    c.in_ok-read_at.ensures.given c.of.ensures
