use Rattle.law_steps.proofs.SourceLaws.{sources_kept}
use Rattle.law_steps.proofs.sources.sources_kept.Goals as goal

pub returns : goal.returns
returns c = sources_kept
