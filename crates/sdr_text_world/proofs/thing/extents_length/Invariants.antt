use Rattle.std.proofs.Common.{◌≡◌, ◌+◌, length}
use Rattle.sdr_model.specs.Zco.{extents_length}
use Rattle.sdr_text_world.proofs.thing.extents_length.Given as goal

abbrev pub invariant-loop-extent : goal.invariant-loop-extent
invariant-loop-extent l = record { sum : l.bytes + extents_length l.rest ≡ extents_length l.fn.extents }

abbrev pub decreases-loop-extent : goal.decreases-loop-extent
decreases-loop-extent l = length l.rest
