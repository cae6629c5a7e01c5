use Rattle.std.proofs.lemmas.Result.{IfOk-weaker}
use Rattle.sdr_core.proofs.CoreRunLemmas.{next_of}
use Rattle.sdr_core.proofs.core_runs.CoreRuns.event.Goals as goal

pub returns-clause-makes : goal.returns-clause-makes
returns-clause-makes g c =
    IfOk-weaker c.event.result _ _
    (λ came makes. next_of g.T.HasGround c.args.daemon c.args.line c.args.event.now came c.args.self.now c.event.new.self makes c.requires.lasts)
    c.event.ensures.makes
