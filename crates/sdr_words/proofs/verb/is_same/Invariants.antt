use Rattle.std.proofs.Common.{◌≡◌, length, nat_eq}
use Rattle.std.specs.Cmp.Lexicographic.{pointwise}
use Rattle.sdr_words.proofs.verb.is_same.Given as goal

abbrev pub invariant-loop-front : goal.invariant-loop-front
invariant-loop-front l = pointwise nat_eq l.front l.behind ≡ pointwise nat_eq l.one l.other

abbrev pub decreases-loop-front : goal.decreases-loop-front
decreases-loop-front l = length l.front
