use Rattle.law_steps.proofs.DecidedLemmas.{dry_decides, dry_decides_but_bytes}
use Rattle.law_steps.proofs.decided.dry_decides.Goals as goal

pub returns-clause-same : goal.returns-clause-same
returns-clause-same c = dry_decides

pub returns-clause-but_bytes : goal.returns-clause-but_bytes
returns-clause-but_bytes c = dry_decides_but_bytes
