use Rattle.std.proofs.Common.{◌≡◌, ◌∷◌, [], ◌++◌, ap, ◌∙◌, arith, length}
use Rattle.std.specs.Vec.Iter.{into_iter_items}
use Rattle.sdr_load.proofs.StatementLemmas.{numbered_more}
use Rattle.sdr_model.specs.declared.script.ScriptStep.{ScriptStep}
use Rattle.sdr_load.proofs.steps.numbered.Goals as goal

pub loop-statement-preserved : goal.loop-statement-preserved
loop-statement-preserved c =
    let done = c.loop-statement.steps.items in
    let line = c.loop-statement.line in
    let was = c.loop-statement.invariant in
    let x = c.in-Some.statement in
    let rest = into_iter_items c.next.new.self in
    let steps : into_iter_items c.loop-statement.statement-iterator ≡ x ∷ rest = c.in-Some.ensures.steps.0 in
    let longer = ap length steps in
    let put = c.in_ok-push.ensures.items ∙ ap (λ (s : ScriptStep). done ++ s ∷ []) c.into_step.ensures in
    record {
      rest = omega (arith, was.rest, c.in-Some.ensures.steps.1, longer);
      room = omega (arith, was.room, longer);
      put = numbered_more done c.push.new.self.items line x rest _ steps put ∙ was.put;
    }
