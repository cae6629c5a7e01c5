use Rattle.std.proofs.Common.{List, ℕ, subst, sym}
use Rattle.sdr_disk.specs.MemoryDisk.{bytes_now}
use Rattle.sdr_log.specs.Logged.{GivesHeap}
use Rattle.sdr_image.proofs.peeking.put_back_copy.Goals as goal

pub returns-in-Ok-heap_region-clause-heap : goal.returns-in-Ok-heap_region-clause-heap
returns-in-Ok-heap_region-clause-heap c =
    subst (λ (heap : List ℕ). GivesHeap heap (bytes_now c.args.copy.now)) (sym c.in-Ok-heap_region.ensures.heap)
    c.in-Ok.ensures.back.gives
