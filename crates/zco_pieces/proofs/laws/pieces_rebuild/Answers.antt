-- Each law is a lemma.
use Rattle.zco_pieces.proofs.CutLawLemmas.{cut_covers, cut_fits}
use Rattle.zco_pieces.proofs.RunLemmas.{run_missing, run_text}
use Rattle.zco_pieces.proofs.laws.pieces_rebuild.Goals as goal

pub returns-clause-missing : goal.returns-clause-missing
returns-clause-missing c = λ clone_at held total added r e. run_missing clone_at held total added r e

pub returns-clause-text : goal.returns-clause-text
returns-clause-text c = λ clone_at held text added r fit e none. run_text clone_at held text added r fit e none

pub returns-clause-fits : goal.returns-clause-fits
returns-clause-fits c = λ held row clone most k piece f h i at total. cut_fits held row clone most k piece f h i at total

pub returns-clause-covers : goal.returns-clause-covers
returns-clause-covers c = λ total most place some below. cut_covers total most place some below
