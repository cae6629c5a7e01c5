use Rattle.sdr_core.proofs.CoreRunLemmas.{leads_of}
use Rattle.sdr_core.proofs.core_run.Core.leave_all.Goals as goal

pub returns : goal.returns
returns g c = record { left = leads_of g.T.HasGround _ c.args.self.now c.leave_all.new.run c.leave_all.ensures.left }
