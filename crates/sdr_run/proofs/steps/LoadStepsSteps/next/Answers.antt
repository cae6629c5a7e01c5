use Rattle.std.specs.Option.{option_copied}
use Rattle.sdr_run.proofs.StepsLemmas.{starts_then}
use Rattle.sdr_run.proofs.steps.LoadStepsSteps.next.Goals as goal

pub returns-clause-some : goal.returns-clause-some
returns-clause-some c = starts_then c.args.self.now (option_copied c.next.result) c.next.ensures.some
