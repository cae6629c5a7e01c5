use Rattle.std.proofs.Common.{◌≡◌, take}
use Rattle.sdr_model.specs.Charges.{left_in}
use Rattle.mem_parts.specs.Capped.{capped_by}
use Rattle.mem_parts.proofs.queue.left.Given as goal

abbrev pub invariant-loop-ticket : goal.invariant-loop-ticket
invariant-loop-ticket l = l.left ≡ capped_by (λ space. left_in space (take l.ticket-index l.tickets))
