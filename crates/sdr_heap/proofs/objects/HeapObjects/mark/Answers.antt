-- The address is that of a word.
use Rattle.std.proofs.Common.{ap, ◌∙◌}
use Rattle.sdr_heap.specs.Noted.{marked_in}
use Rattle.sdr_heap.proofs.HeldLemmas.{mark_inside}
use Rattle.sdr_heap.proofs.HeldWorksLemmas.{marked_leads, marked_quiet}
use Rattle.sdr_heap.proofs.SeenLemmas.{heap_mark}
use Rattle.sdr_heap.proofs.MarkLemmas.{marked-set}
use Rattle.sdr_heap.proofs.objects.HeapObjects.mark.Goals as goal

pub mark-requires : goal.mark-requires
mark-requires g c =
    let m = mark_inside g.C.Cells.bytes _ _ c.args.addr c.self.view_is c.requires.kept c.requires.used
    c.self.invariant.words in
    record { inside = m.inside }

pub returns-clause-marked : goal.returns-clause-marked
returns-clause-marked g c =
    let m = mark_inside g.C.Cells.bytes _ _ c.args.addr c.self.view_is c.requires.kept c.requires.used
    c.self.invariant.words in
    heap_mark g.C.Cells.bytes _ _ c.mark.new.self c.args.addr c.self.view_is
    (ap marked_in c.mark.ensures ∙ marked-set c.self.inside.marks c.args.addr m.whole m.inside)

pub returns-clause-moved : goal.returns-clause-moved
returns-clause-moved g c =
    marked_leads g.C.Cells.bytes g.C.Cells.transaction g.C.Cells.quiet g.met.C.Cells.quiet_trans
    _ _ c.mark.new.self c.self.view_is

pub returns-clause-quiet : goal.returns-clause-quiet
returns-clause-quiet g c =
    marked_quiet g.C.Cells.bytes g.C.Cells.transaction g.C.Cells.quiet g.met.C.Cells.quiet_trans
    g.met.C.Cells.quiet_refl _ _ c.mark.new.self c.self.view_is
