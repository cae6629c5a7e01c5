use Rattle.std.proofs.Common.{◌≡◌}
use Rattle.test_board.proofs.threads.read_often.Given as goal

abbrev pub invariant-loop : goal.invariant-loop
invariant-loop g l = l.pass.board ≡ l.board
