-- The bucket is searched.
use Rattle.sdr_hash.proofs.FindLemmas.{lacks, some_bucket}
use Rattle.sdr_hash.proofs.searching.locate.Goals as goal

pub search-requires-clause-bucket : goal.search-requires-clause-bucket
search-requires-clause-bucket g c =
    let f = c.in_ok-front.ensures.found in
    rw c.front_of.ensures.looks.same
    (some_bucket f (g.met.O.Objects.few c.args.o.now c.requires.kept) (g.met.O.Objects.small c.args.o.now c.requires.kept)
    (c.requires.hash f.is.kind))

pub returns-in-None-clause-refused : goal.returns-in-None-clause-refused
returns-in-None-clause-refused g c =
    let s = rw (c.front_of.ensures.looks.same, c.in-None.is) at c.in_ok-search.ensures.found in
    lacks c.in_ok-front.ensures.found (g.met.O.Objects.few c.args.o.now c.requires.kept)
    (g.met.O.Objects.small c.args.o.now c.requires.kept) s

pub returns-in-Some-clause-located : goal.returns-in-Some-clause-located
returns-in-Some-clause-located g c = record {
  fronts = c.in_ok-front.ensures.found;
  found = rw (c.front_of.ensures.looks.same, c.in-Some.is) at c.in_ok-search.ensures.found;
}
