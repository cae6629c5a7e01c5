use Rattle.std.proofs.Common.{◌≡◌}
use Rattle.test_board.proofs.threads.write_often.Given as goal

abbrev pub invariant-loop-place : goal.invariant-loop-place
invariant-loop-place g l = (l.writer.board ≡ l.board) × (l.writer.entries ≡ l.journal)
