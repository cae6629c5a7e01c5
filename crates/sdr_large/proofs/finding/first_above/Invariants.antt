-- Only reading so far; the lists that were looked at are empty.
use Rattle.sdr_large.proofs.ReadingLemmas.{ReadsOnly}
use Rattle.sdr_large.proofs.AboveLemmas.{IsAbove}
use Rattle.sdr_large.proofs.finding.first_above.Given as goal

abbrev pub invariant-loop-higher : goal.invariant-loop-higher
invariant-loop-higher g l =
    ReadsOnly (g.C.Cells.bytes l.fn.c) (g.C.Cells.bytes l.c) (g.C.Cells.transaction l.fn.c) (g.C.Cells.transaction l.c)
    × IsAbove l.order l.higher (g.C.Cells.bytes l.fn.c)
    × g.C.Cells.quiet l.fn.c l.c
