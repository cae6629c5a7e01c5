use Rattle.std.proofs.Common.{◌≡◌, ◌++◌, take, drop, length}
use Rattle.mem_parts.specs.Rooms.{served_in}
use Rattle.mem_parts.proofs.queue.serve.Given as goal

abbrev pub invariant-loop-place : goal.invariant-loop-place
invariant-loop-place l = record {
  served : take l.place l.tickets ++ served_in l.room (drop l.place l.tickets) ≡ served_in l.initial.room l.initial.tickets;
  whole : length l.tickets ≡ length l.initial.tickets;
}
