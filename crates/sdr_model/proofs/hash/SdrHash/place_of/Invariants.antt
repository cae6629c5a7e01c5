use Rattle.std.proofs.Common.{◌≡◌, ◌<◌, ℕ, false, get_or}
use Rattle.sdr_model.specs.HashSteps.{has_key}
use Rattle.sdr_model.specs.declared.things.HashEntry.{HashEntry}
use Rattle.sdr_model.proofs.hash.SdrHash.place_of.Given as goal

abbrev pub invariant-loop-place : goal.invariant-loop-place
invariant-loop-place l = (k : ℕ) (d : HashEntry) → k < l.place → has_key l.key (get_or l.self.entries k d) ≡ false
