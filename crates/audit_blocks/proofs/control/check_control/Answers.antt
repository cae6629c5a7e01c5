use Rattle.std.proofs.Common.{◌≡◌, ◌∙◌, ℕ, true, ap, below_more, sym}
use Rattle.audit_blocks.specs.Control.{control_word, may_be}
use Rattle.audit_blocks.proofs.control.check_control.Goals as goal

pub loop-word-preserved : goal.loop-word-preserved
loop-word-preserved c =
    let bytes = c.args.heap.now in
    below_more (λ (other : ℕ). may_be bytes other (control_word bytes other) ≡ true) c.loop-word.word c.loop-word.invariant
    (ap (may_be bytes c.loop-word.word) (sym c.control_word.ensures) ∙ sym c.may_be.ensures ∙ c.if-not-may_be.false)
