use Rattle.law_steps.proofs.StepLemmas.{reading_shows}
use Rattle.law_steps.proofs.reading.reading_shows.Goals as goal

pub returns : goal.returns
returns c = reading_shows
