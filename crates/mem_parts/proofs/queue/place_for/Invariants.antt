use Rattle.std.proofs.Common.{◌≡◌, ◌+◌, drop}
use Rattle.std.specs.List.{prefix_len}
use Rattle.sdr_model.specs.Queue.{stands_before}
use Rattle.mem_parts.proofs.queue.place_for.Given as goal

abbrev pub invariant-loop-place : goal.invariant-loop-place
invariant-loop-place l =
    l.place + prefix_len (λ t. stands_before t l.new) (drop l.place l.tickets) ≡ prefix_len (λ t. stands_before t l.new) l.tickets
