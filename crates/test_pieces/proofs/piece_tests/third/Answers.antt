-- The object is there.
use Rattle.std.proofs.Common.{[], arith}
use Rattle.test_pieces.proofs.piece_tests.third.Goals as goal

pub cut-requires-clause-object : goal.cut-requires-clause-object
cut-requires-clause-object g c =
    c.texts_keep.ensures.to_cut [] _ [] [] 1 100 4 2 _ c.in_ok-object.ensures.text (omega arith)
