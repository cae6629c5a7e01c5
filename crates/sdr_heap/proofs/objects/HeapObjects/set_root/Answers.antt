-- The pools and the blocks stay, and the word is another.
use Rattle.std.proofs.Common.{refl, arith}
use Rattle.std.proofs.lemmas.Result.{on_ok_weaker}
use Rattle.sdr_heap.proofs.HeldLemmas.{Settled-from, kept_inside, moved_kept}
use Rattle.sdr_heap.proofs.HeldWorksLemmas.{full_stays, held_lines, held_unmoved, held_works}
use Rattle.sdr_heap.proofs.SeenLemmas.{heap_root}
use Rattle.sdr_heap.proofs.RootLemmas.{root_put}
use Rattle.sdr_heap.proofs.objects.HeapObjects.set_root.Goals as goal

pub returns-clause-written : goal.returns-clause-written
returns-clause-written g c =
    on_ok_weaker c.write_number.result (λ is.
    heap_root g.C.Cells.bytes _ _ c.write_number.new.c c.args.word c.args.value c.self.view_is
    (root_put _ _ c.args.word c.args.value c.requires.least c.requires.most (omega arith)
    (kept_inside g.C.Cells.bytes _ _ c.self.view_is c.requires.kept) is))
    c.write_number.ensures.written

pub returns-clause-refused : goal.returns-clause-refused
returns-clause-refused g c =
    full_stays c.write_number.result (held_unmoved g.C.Cells.bytes _ _ c.write_number.new.c c.self.view_is)
    c.write_number.ensures.refused

pub returns-clause-works : goal.returns-clause-works
returns-clause-works g c =
    held_works g.C.Cells.bytes g.C.Cells.transaction g.C.Cells.quiet g.met.C.Cells.quiet_trans
    _ _ _ _ c.write_number.result c.self.view_is refl c.requires.kept
    (Settled-from _ c.write_number.result
    (on_ok_weaker c.write_number.result
    (λ is. moved_kept _ _ _ _ c.write_number.ensures.size
    (root_put _ _ c.args.word c.args.value c.requires.least c.requires.most (omega arith)
    (kept_inside g.C.Cells.bytes _ _ c.self.view_is c.requires.kept) is).keeps)
    c.write_number.ensures.written)
    c.write_number.ensures.refused)
    (c.write_number.ensures.line (omega arith)) c.write_number.ensures.cause c.write_number.ensures.quiet

pub returns-clause-lines : goal.returns-clause-lines
returns-clause-lines g c =
    held_lines g.C.Cells.bytes g.C.Cells.transaction g.C.Cells.quiet g.met.C.Cells.quiet_trans
    _ _ _ c.write_number.new.c c.write_number.result c.self.view_is c.write_number.ensures.lines
