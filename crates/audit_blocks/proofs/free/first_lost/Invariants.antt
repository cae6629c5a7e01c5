-- With no word before this one begins a free block that is left.
use Rattle.std.proofs.Common.{◌≡◌, ◌<◌, ℕ, false}
use Rattle.audit_blocks.specs.Listed.{is_lost}
use Rattle.audit_blocks.proofs.free.first_lost.Given as goal

abbrev pub invariant-loop-word : goal.invariant-loop-word
invariant-loop-word l = (other : ℕ) → other < l.word → is_lost l.spots other ≡ false
