-- The bytes of the three chains are added.
use Rattle.std.proofs.Common.{arith}
use Rattle.zco_obj.proofs.KeptLemmas.{object_reaches}
use Rattle.zco_obj.proofs.PartsLemmas.{extents_from, headers_from, length_told, trailers_from}
use Rattle.zco_obj.proofs.summing.length.Goals as goal

pub word-requires-clause-inside : goal.word-requires-clause-inside
word-requires-clause-inside g c =
    rw c.expect_kind.ensures.looks.same (object_reaches (c.requires.object c.in_ok-expect_kind.ensures.found).keeps 32 (omega arith))

pub word-requires-2-clause-inside : goal.word-requires-2-clause-inside
word-requires-2-clause-inside g c =
    rw (c.word.ensures.looks.same, c.expect_kind.ensures.looks.same)
    (object_reaches (c.requires.object c.in_ok-expect_kind.ensures.found).keeps 16 (omega arith))

pub word-requires-3-clause-inside : goal.word-requires-3-clause-inside
word-requires-3-clause-inside g c =
    rw (c.word-2.ensures.looks.same, c.word.ensures.looks.same, c.expect_kind.ensures.looks.same)
    (object_reaches (c.requires.object c.in_ok-expect_kind.ensures.found).keeps 48 (omega arith))

pub capsules_length-requires-clause-chain : goal.capsules_length-requires-clause-chain
capsules_length-requires-clause-chain g c =
    let k = (c.requires.object c.in_ok-expect_kind.ensures.found).keeps in
    rw (c.word-3.ensures.looks.same, c.word-2.ensures.looks.same, c.word.ensures.looks.same, c.expect_kind.ensures.looks.same)
    (record {
      rows = _;
      is = headers_from k (rw c.expect_kind.ensures.looks.same at c.in_ok-first_header.ensures.given);
    })

pub extents_length-requires-clause-chain : goal.extents_length-requires-clause-chain
extents_length-requires-clause-chain g c =
    let k = (c.requires.object c.in_ok-expect_kind.ensures.found).keeps in
    rw (
      c.capsules_length.ensures.looks.same,
      c.word-3.ensures.looks.same,
      c.word-2.ensures.looks.same,
      c.word.ensures.looks.same,
      c.expect_kind.ensures.looks.same,
    )
    (record {
      rows = _;
      is = extents_from k (rw (c.word.ensures.looks.same, c.expect_kind.ensures.looks.same) at c.in_ok-first_extent.ensures.given);
    })

pub capsules_length-requires-2-clause-chain : goal.capsules_length-requires-2-clause-chain
capsules_length-requires-2-clause-chain g c =
    let k = (c.requires.object c.in_ok-expect_kind.ensures.found).keeps in
    rw (
      c.extents_length.ensures.looks.same,
      c.capsules_length.ensures.looks.same,
      c.word-3.ensures.looks.same,
      c.word-2.ensures.looks.same,
      c.word.ensures.looks.same,
      c.expect_kind.ensures.looks.same,
    )
    (record {
      rows = _;
      is = trailers_from k (rw (c.word-2.ensures.looks.same, c.word.ensures.looks.same, c.expect_kind.ensures.looks.same)
          at c.in_ok-first_trailer.ensures.given);
    })

pub returns-clause-told : goal.returns-clause-told
returns-clause-told g c =
    length_told c.in_ok-headers.headers c.in_ok-extents.extents c.in_ok-trailers.trailers c.in_ok-expect_kind.ensures.found
    (rw c.expect_kind.ensures.looks.same at c.in_ok-first_header.ensures.given)
    (rw (c.word.ensures.looks.same, c.expect_kind.ensures.looks.same) at c.in_ok-first_extent.ensures.given)
    (rw (c.word-2.ensures.looks.same, c.word.ensures.looks.same, c.expect_kind.ensures.looks.same)
    at c.in_ok-first_trailer.ensures.given)
    (rw (c.word-3.ensures.looks.same, c.word-2.ensures.looks.same, c.word.ensures.looks.same, c.expect_kind.ensures.looks.same)
    at c.in_ok-headers.ensures.told)
    (rw (
      c.capsules_length.ensures.looks.same,
      c.word-3.ensures.looks.same,
      c.word-2.ensures.looks.same,
      c.word.ensures.looks.same,
      c.expect_kind.ensures.looks.same,
    ) at c.in_ok-extents.ensures.told)
    (rw (
      c.extents_length.ensures.looks.same,
      c.capsules_length.ensures.looks.same,
      c.word-3.ensures.looks.same,
      c.word-2.ensures.looks.same,
      c.word.ensures.looks.same,
      c.expect_kind.ensures.looks.same,
    ) at c.in_ok-trailers.ensures.told)
