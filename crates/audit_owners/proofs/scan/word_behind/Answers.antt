use Rattle.std.proofs.Common.{arith}
use Rattle.audit_owners.proofs.ScanLemmas.{none_in_byte}
use Rattle.audit_owners.proofs.scan.word_behind.Goals as goal

pub returns-then-heap-word-eq0-clause-clear : goal.returns-then-heap-word-eq0-clause-clear
returns-then-heap-word-eq0-clause-clear c off other onward less =
    none_in_byte c.args.heap.now c.args.word other c.if-heap-word-eq0.true (omega (arith, onward, less))
