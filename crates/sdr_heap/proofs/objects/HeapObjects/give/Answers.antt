-- The block is back, and that is a move.
use Rattle.std.proofs.Common.{List, refl, sym, subst, arith}
use Rattle.std.proofs.lemmas.Result.{err_from_is_err_and}
use Rattle.sdr_base.specs.KeptHeap.{KeepsRegion}
use Rattle.sdr_base.specs.Moves.{Moves}
use Rattle.sdr_base.specs.declared.moves.Move.{Move}
use Rattle.sdr_base.proofs.TransactionLemmas.{touches_more}
use Rattle.sdr_heap.specs.Noted.{moves_in}
use Rattle.sdr_heap.proofs.HeldLemmas.{full_unmoved, moved_gave, stopped}
use Rattle.sdr_heap.proofs.HeldWorksLemmas.{held_unmoved, held_works}
use Rattle.sdr_heap.proofs.objects.HeapObjects.give.Goals as goal

pub returns-in_err-give_back-clause-refused : goal.returns-in_err-give_back-clause-refused
returns-in_err-give_back-clause-refused g c =
    let p = err_from_is_err_and c.from_residual.result c.from_residual.ensures.1 in
    rw (p.1, p.2)
    (full_unmoved _ (held_unmoved g.C.Cells.bytes _ _ c.give_back.new.c c.self.view_is)
    c.in_err-give_back.ensures.refused)

pub returns-in_err-give_back-clause-works : goal.returns-in_err-give_back-clause-works
returns-in_err-give_back-clause-works g c =
    let p = err_from_is_err_and c.from_residual.result c.from_residual.ensures.1 in
    rw (p.1, p.2)
    (held_works g.C.Cells.bytes g.C.Cells.transaction g.C.Cells.quiet g.met.C.Cells.quiet_trans
    _ _ _ _ _ c.self.view_is refl c.requires.kept (stopped _ _ c.in_err-give_back.ensures.refused)
    (touches_more c.in_err-give_back.ensures.room (omega arith)) c.in_err-give_back.ensures.cause
    c.in_err-give_back.ensures.quiet)

pub returns-clause-works : goal.returns-clause-works
returns-clause-works g c =
    let n = c.self.inside.size in
    let old = moves_in c.self.inside.moves.places.items c.self.inside.moves.used in
    held_works g.C.Cells.bytes g.C.Cells.transaction g.C.Cells.quiet g.met.C.Cells.quiet_trans
    _ _ _ _ _ c.self.view_is refl c.requires.kept
    (subst (λ (moves : List Move). Moves (KeepsRegion n (g.C.Cells.bytes c.self.inside.cells))
    (KeepsRegion n (g.C.Cells.bytes c.give_back.new.c)) old moves) (sym c.push.ensures.noted)
    (moved_gave n _ _ c.args.addr old c.in_ok-give_back.ensures.size c.in_ok-give_back.ensures.given))
    (touches_more c.in_ok-give_back.ensures.room (omega arith)) c.in_ok-give_back.ensures.cause
    c.in_ok-give_back.ensures.quiet
