use Rattle.std.proofs.Common.{◌≤◌}
use Rattle.sdr_media.proofs.folder.fill.Given as goal

abbrev pub invariant-loop : goal.invariant-loop
invariant-loop g l = l.count ≤ l.room
