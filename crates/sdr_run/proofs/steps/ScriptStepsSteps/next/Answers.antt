use Rattle.std.proofs.Common.{◌∙◌, List, ap}
use Rattle.std.specs.List.{slice_get}
use Rattle.std.specs.Option.{option_copied}
use Rattle.sdr_model.specs.declared.script.ScriptStep.{ScriptStep}
use Rattle.sdr_run.proofs.StepsLemmas.{none_left, starts_with}
use Rattle.sdr_run.proofs.steps.ScriptStepsSteps.next.Goals as goal

pub returns-clause-none : goal.returns-clause-none
returns-clause-none c =
    none_left _ c.args.self.now c.first.result (c.first.ensures.value ∙ ap (λ (steps : List ScriptStep). slice_get steps 0) c.self.view_is)

pub returns-clause-some : goal.returns-clause-some
returns-clause-some c =
    starts_with c.args.self.now (option_copied c.first.result) (c.first.ensures.value ∙ ap (λ (steps : List ScriptStep). slice_get steps 0) c.self.view_is)
