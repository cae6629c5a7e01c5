-- The pools stay, and the block has the bytes.
use Rattle.std.proofs.Common.{refl}
use Rattle.std.proofs.lemmas.Result.{on_ok_weaker}
use Rattle.sdr_heap.proofs.HeldLemmas.{Settled-from, moved_kept}
use Rattle.sdr_heap.proofs.HeldWorksLemmas.{full_stays, held_lines, held_unmoved, held_works}
use Rattle.sdr_heap.proofs.objects.HeapObjects.put.Goals as goal

pub returns-clause-refused : goal.returns-clause-refused
returns-clause-refused g c =
    full_stays c.put.result (held_unmoved g.C.Cells.bytes _ _ c.put.new.c c.self.view_is) c.put.ensures.refused

pub returns-clause-works : goal.returns-clause-works
returns-clause-works g c =
    held_works g.C.Cells.bytes g.C.Cells.transaction g.C.Cells.quiet g.met.C.Cells.quiet_trans
    _ _ _ _ c.put.result c.self.view_is refl c.requires.kept
    (Settled-from _ c.put.result
    (on_ok_weaker c.put.result (λ writes. moved_kept _ _ _ _ c.put.ensures.size writes.kept) c.put.ensures.written)
    c.put.ensures.refused)
    c.put.ensures.room c.put.ensures.cause c.put.ensures.quiet

pub returns-clause-lines : goal.returns-clause-lines
returns-clause-lines g c =
    held_lines g.C.Cells.bytes g.C.Cells.transaction g.C.Cells.quiet g.met.C.Cells.quiet_trans
    _ _ _ c.put.new.c c.put.result c.self.view_is c.put.ensures.lines
