-- The bytes stay.
use Rattle.sdr_heap.proofs.HeldWorksLemmas.{held_looks}
use Rattle.sdr_heap.proofs.objects.HeapObjects.kind.Goals as goal

pub returns-clause-looks : goal.returns-clause-looks
returns-clause-looks g c =
    held_looks g.C.Cells.bytes g.C.Cells.transaction g.C.Cells.quiet g.met.C.Cells.quiet_trans
    _ _ c.kind_of.new.c c.kind_of.result c.self.view_is c.requires.kept c.kind_of.ensures.same c.kind_of.ensures.room
    c.kind_of.ensures.cause c.kind_of.ensures.quiet
