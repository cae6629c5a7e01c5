use Rattle.sdr_words.proofs.ReadSteps.{line_is}
use Rattle.sdr_words.proofs.canonical.lines_give_steps.Goals as goal

pub returns : goal.returns
returns c = line_is
