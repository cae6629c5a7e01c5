use Rattle.std.proofs.Common.{ap, arith, length}
use Rattle.sdr_run.proofs.steps.ScriptStepsSteps.pass.Goals as goal

pub returns-in-Some : goal.returns-in-Some
returns-in-Some c = λ step rest is. cc (c.in-Some.ensures.cases.0, is, c.self.view_is)

pub returns-in-None : goal.returns-in-None
returns-in-None c =
    λ step rest is. let one = ap length is in let same = ap length c.self.view_is in absurd (omega (arith, one, same, c.in-None.ensures.cases))
