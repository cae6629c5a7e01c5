use Rattle.std.proofs.Common.{◌≡◌, drop}
use Rattle.sdr_model.specs.Queue.{front_waiting}
use Rattle.mem_parts.proofs.queue.front_waiting.Given as goal

abbrev pub invariant-loop-ticket : goal.invariant-loop-ticket
invariant-loop-ticket l = front_waiting (drop l.ticket-index l.tickets) ≡ front_waiting l.tickets
