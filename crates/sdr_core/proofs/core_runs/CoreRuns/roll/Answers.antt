use Rattle.std.proofs.Common.{refl}
use Rattle.sdr_core.specs.CoreKept.{core_at}
use Rattle.sdr_core.proofs.core_runs.CoreRuns.roll.Goals as goal

pub returns-clause-come : goal.returns-clause-come
returns-clause-come g c =
    let stands = c.roll.ensures.stands in
    record {
      core = core_at c.args.self.now stands.for;
      here = record { for = stands.for; stood = stands.stood; is = refl };
    }
