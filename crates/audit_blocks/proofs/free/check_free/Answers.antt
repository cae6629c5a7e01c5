use Rattle.std.proofs.Common.{◌≡◌, ◌∙◌, ◌+◌, ◌*◌, ℕ, refl, sym, ap, subst, inr}
use Rattle.sdr_base.specs.declared.control.TheConstants.{LOW}
use Rattle.audit_blocks.proofs.ReachedLemmas.{all_listed, first_is_lost}
use Rattle.audit_blocks.specs.Control.{control_word}
use Rattle.audit_blocks.specs.Free.{IsWrongFree}
use Rattle.audit_blocks.specs.Listed.{frame_at}
use Rattle.audit_blocks.specs.declared.control.Edges.{Edges}
use Rattle.audit_blocks.proofs.free.check_free.Goals as goal

pub returns-in-None-clause-right : goal.returns-in-None-clause-right
returns-in-None-clause-right c small large are =
    let left = c.in_ok-walk_lists.ensures.left in
    all_listed c.args.heap.now left.told left.reached c.requires.surveyed.edged.right left.long left.found left.walked c.walk_lists.new.spots left.left_is
    small large are (c.in-None.ensures.none refl)

pub returns-in-Some-clause-damaged : goal.returns-in-Some-clause-damaged
returns-in-Some-clause-damaged c =
    let bytes = c.args.heap.now in
    let left = c.in_ok-walk_lists.ensures.left in
    let frame : c.frame_at.result ≡ frame_at (8 * c.in-Some.word) (control_word bytes LOW) =
    c.frame_at.ensures ∙ ap (λ (e : Edges). frame_at (8 * c.in-Some.word) e.low) c.requires.surveyed.edged.between in (
      refl,
      λ small large are.
          subst (λ (n : ℕ). IsWrongFree bytes small large (8 * c.in-Some.word + n)) (sym frame)
          (inr (first_is_lost bytes left.told left.reached c.requires.surveyed.edged.right left.long left.found left.walked c.walk_lists.new.spots left.left_is
          small large are c.in-Some.word c.in-Some.ensures.some)),
    )
