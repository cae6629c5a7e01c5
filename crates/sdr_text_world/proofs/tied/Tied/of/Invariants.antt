use Rattle.std.proofs.Common.{length}
use Rattle.std.specs.FinMap as map
use Rattle.sdr_text_world.proofs.TiedLemmas.{ToldUpTo}
use Rattle.sdr_text_world.proofs.tied.Tied.of.Given as goal

abbrev pub invariant-loop-addr : goal.invariant-loop-addr
invariant-loop-addr l = record { told : ToldUpTo (map.entries l.world.things) l.tied l.rest }

abbrev pub decreases-loop-addr : goal.decreases-loop-addr
decreases-loop-addr l = length l.rest
