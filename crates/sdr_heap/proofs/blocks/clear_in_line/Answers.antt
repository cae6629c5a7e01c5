-- The zeros lie in one line.
use Rattle.std.proofs.Common.{arith}
use Rattle.sdr_heap.proofs.ClearLemmas.{zeros_put, zeros_touch}
use Rattle.sdr_heap.proofs.blocks.clear_in_line.Goals as goal

pub returns-clause-cleared : goal.returns-clause-cleared
returns-clause-cleared g c =
    zeros_put 64 c.args.place c.args.count _ _ c.write.result (omega (arith, c.requires.line)) c.write.ensures.written

pub returns-clause-room : goal.returns-clause-room
returns-clause-room g c =
    zeros_touch 64 c.args.place c.args.count _ _ c.write.result c.requires.some c.requires.line
    (omega (arith, c.requires.line)) c.write.ensures.room
