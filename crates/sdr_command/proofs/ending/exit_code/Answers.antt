use Rattle.std.proofs.Common.{ℕ, subst, sym}
use Rattle.sdr_command.proofs.ending.exit_code.Goals as goal

pub returns : goal.returns
returns g c = rw c.from.ensures c.run.ensures
