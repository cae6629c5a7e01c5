use Rattle.sdr_words.proofs.CanonicalLine.{line_again}
use Rattle.sdr_words.proofs.canonical.canonical_lines_are_read.Goals as goal

pub returns : goal.returns
returns c = line_again
