use Rattle.sdr_stands.proofs.ExampleLemmas.{bundle_blocks, bundle_words}
use Rattle.sdr_stands.proofs.example.bundle_is_kept_so.Goals as goal

pub returns-clause-blocks : goal.returns-clause-blocks
returns-clause-blocks c = bundle_blocks

pub returns-clause-words : goal.returns-clause-words
returns-clause-words c = bundle_words
