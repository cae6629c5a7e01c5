-- Only reading so far; the way has come to a block of the list.
use Rattle.std.proofs.Common.{◌≡◌, ◌/◌, length}
use Rattle.sdr_large.proofs.ReadingLemmas.{ReadsOnly}
use Rattle.sdr_large.proofs.WalkLemmas.{IsWalk}
use Rattle.sdr_large.proofs.finding.first_with.Given as goal

abbrev pub invariant-loop : goal.invariant-loop
invariant-loop g l =
    ReadsOnly (g.C.Cells.bytes l.fn.c) (g.C.Cells.bytes l.c) (g.C.Cells.transaction l.fn.c) (g.C.Cells.transaction l.c)
    × IsWalk l.order l.words l.addr l.counter (g.C.Cells.bytes l.fn.c)
    × g.C.Cells.quiet l.fn.c l.c
    × (l.end ≡ length (g.C.Cells.bytes l.fn.c) / 40)
