use Rattle.sdr_turn.specs.Seats.{IsIdleSeat}
use Rattle.test_turn.proofs.threads.serve_often.Given as goal

abbrev pub invariant-loop : goal.invariant-loop
invariant-loop g l = IsIdleSeat l.turn.id l.seat
