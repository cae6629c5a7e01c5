-- The source word of the raw object says whether a source names it.
use Rattle.std.proofs.Common.{refl}
use Rattle.zco_ref.proofs.KeptLemmas.{raw_reaches}
use Rattle.zco_ref.proofs.NamedLemmas.{has_unnamed, in_use, naming_few, raw_whole}
use Rattle.zco_ref.proofs.naming.expect_unnamed.Goals as goal

pub word-requires-clause-inside : goal.word-requires-clause-inside
word-requires-clause-inside g c =
    rw c.expect_kind.ensures.looks.same (raw_reaches (c.requires.raw c.in_ok-bytes.ensures.found).keeps)

pub overflow_sub-result : goal.overflow_sub-result
overflow_sub-result g c =
    raw_whole (c.requires.raw c.in_ok-bytes.ensures.found) c.in_ok-bytes.ensures.length

pub returns-then-named_by-eq0-clause-found : goal.returns-then-named_by-eq0-clause-found
returns-then-named_by-eq0-clause-found g c =
    has_unnamed c.in_ok-bytes.bytes c.in_ok-bytes.ensures.found c.in_ok-bytes.ensures.length
    (rw c.expect_kind.ensures.looks.same at c.in_ok-named_by.ensures.given) c.if-named_by-eq0.true

pub uses_of-requires-clause-source : goal.uses_of-requires-clause-source
uses_of-requires-clause-source g c =
    rw (c.word.ensures.looks.same, c.expect_kind.ensures.looks.same)
    (naming_few (c.requires.raw c.in_ok-bytes.ensures.found)
    (rw c.expect_kind.ensures.looks.same at c.in_ok-named_by.ensures.given) c.if-named_by-eq0.false)

pub returns-clause-refused : goal.returns-clause-refused
returns-clause-refused g c = (
  refl,
  in_use c.in_ok-bytes.ensures.found (rw c.expect_kind.ensures.looks.same at c.in_ok-named_by.ensures.given)
      c.if-named_by-eq0.false
      (rw (c.word.ensures.looks.same, c.expect_kind.ensures.looks.same) at c.in_ok-count.ensures.given),
)
