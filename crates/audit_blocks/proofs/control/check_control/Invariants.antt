-- The control words before this one are right.
use Rattle.std.proofs.Common.{◌≡◌, ◌<◌, ℕ, true}
use Rattle.audit_blocks.specs.Control.{control_word, may_be}
use Rattle.audit_blocks.proofs.control.check_control.Given as goal

abbrev pub invariant-loop-word : goal.invariant-loop-word
invariant-loop-word l = (other : ℕ) → other < l.word → may_be l.heap other (control_word l.heap other) ≡ true
