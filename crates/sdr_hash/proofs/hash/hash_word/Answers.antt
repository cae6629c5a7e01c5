-- The word is in the hash's block.
use Rattle.std.proofs.Common.{◌+◌, ◌*◌, arith}
use Rattle.sdr_hash.proofs.KeptLemmas.{hash_reaches}
use Rattle.sdr_hash.proofs.hash.hash_word.Goals as goal

pub word-requires-clause-inside : goal.word-requires-clause-inside
word-requires-clause-inside g c =
    let field = c.requires.field in
    rw c.expect_kind.ensures.looks.same
    (hash_reaches (c.requires.hash c.in_ok-expect_kind.ensures.found).keeps (8 * c.args.field + 8) (omega (arith, field)))
