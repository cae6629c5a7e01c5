use Rattle.std.proofs.Common.{◌≡◌, length}
use Rattle.sdr_words.specs.Bindings.{given_of, with_args}
use Rattle.sdr_words.proofs.bindings.Bindings.given.Given as goal

abbrev pub invariant-loop-arg : goal.invariant-loop-arg
invariant-loop-arg l = record { given : with_args l.self l.daemon l.given l.rest ≡ given_of l.self l.daemon l.args }

abbrev pub decreases-loop-arg : goal.decreases-loop-arg
decreases-loop-arg l = length l.rest
