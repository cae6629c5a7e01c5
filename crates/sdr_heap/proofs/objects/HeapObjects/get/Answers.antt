-- The bytes stay.
use Rattle.sdr_heap.proofs.HeldWorksLemmas.{held_looks}
use Rattle.sdr_heap.proofs.objects.HeapObjects.get.Goals as goal

pub returns-clause-looks : goal.returns-clause-looks
returns-clause-looks g c =
    held_looks g.C.Cells.bytes g.C.Cells.transaction g.C.Cells.quiet g.met.C.Cells.quiet_trans
    _ _ c.get.new.c c.get.result c.self.view_is c.requires.kept c.get.ensures.same c.get.ensures.room
    c.get.ensures.cause c.get.ensures.quiet
