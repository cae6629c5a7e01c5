use Rattle.std.proofs.Common.{vec_len}
use Rattle.test_turn.proofs.threads.+fn-serve_all-join+arg3+serve_all.Given as goal

abbrev pub decreases-join+arg3 : goal.decreases-join+arg3
decreases-join+arg3 g l = vec_len l.seats

abbrev pub decreases-serve_all : goal.decreases-serve_all
decreases-serve_all g l = vec_len l.seats
