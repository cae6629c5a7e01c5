use Rattle.std.proofs.Common.{length}
use Rattle.sdr_log.proofs.ReadingLemmas.{ReadSoFar}
use Rattle.sdr_log.proofs.reading.read_batches.Given as goal

abbrev pub invariant-loop-rest : goal.invariant-loop-rest
invariant-loop-rest l = ReadSoFar l.lines l.log l.found l.rest

abbrev pub decreases-loop-rest : goal.decreases-loop-rest
decreases-loop-rest l = length l.rest
