use Rattle.std.proofs.Common.{◌≡◌, length}
use Rattle.sdr_words.specs.Fields.{fields_of}
use Rattle.sdr_words.proofs.fields.past_spaces.Given as goal

abbrev pub invariant-loop-rest : goal.invariant-loop-rest
invariant-loop-rest l = record { fields : fields_of l.rest ≡ fields_of l.line }

abbrev pub decreases-loop-rest : goal.decreases-loop-rest
decreases-loop-rest l = length l.rest
