use Rattle.std.proofs.Common.{◌≡◌, ◌+◌, ℕ, length}
use Rattle.sdr_model.specs.Zco.{naming}
use Rattle.sdr_text_world.specs.Tied.{counted_at}
use Rattle.sdr_text_world.proofs.tied.count_extents.Given as goal

abbrev pub invariant-loop-extent : goal.invariant-loop-extent
invariant-loop-extent l = record {
  counted : (at : ℕ) → counted_at l.counts at + naming at l.rest ≡ counted_at l.fn.counts at + naming at l.fn.extents;
}

abbrev pub decreases-loop-extent : goal.decreases-loop-extent
decreases-loop-extent l = length l.rest
