-- A text with missing bytes isn't finished.
use Rattle.test_pieces.proofs.piece_tests.finish_early.Goals as goal

pub finish-requires-clause-clones : goal.finish-requires-clause-clones
finish-requires-clause-clones g c = λ none. absurd (c.requires.missing none)
