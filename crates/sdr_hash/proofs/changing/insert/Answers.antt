-- The key is new, or it is there.
use Rattle.std.proofs.Common.{◌≡◌, ◌∙◌, rules}
use Rattle.std.proofs.lemmas.Result.{IfErr-weaker, on_ok_weaker}
use Rattle.sdr_base.proofs.WorksLemmas.{looks_then}
use Rattle.sdr_hash.specs.Calls.{FindsKey, InsertStops}
use Rattle.sdr_hash.proofs.ChangeLemmas.{insert_stops, inserts}
use Rattle.sdr_hash.proofs.FindLemmas.{finds, lacks, some_bucket, some_place}
use Rattle.sdr_hash.proofs.OutLemmas.{place_reaches}
use Rattle.sdr_hash.proofs.changing.insert.Goals as goal

pub search-requires-clause-bucket : goal.search-requires-clause-bucket
search-requires-clause-bucket g c =
    let f = c.in_ok-front.ensures.found in
    rw c.front_of.ensures.looks.same
    (some_bucket f (g.met.O.Objects.few c.args.o.now c.requires.kept) (g.met.O.Objects.small c.args.o.now c.requires.kept)
    (c.requires.hash f.is.kind))

pub add_first-requires-clause-bucket : goal.add_first-requires-clause-bucket
add_first-requires-clause-bucket g c =
    let f = c.in_ok-front.ensures.found in
    rw (c.search.ensures.looks.same, c.front_of.ensures.looks.same)
    (some_bucket f (g.met.O.Objects.few c.args.o.now c.requires.kept) (g.met.O.Objects.small c.args.o.now c.requires.kept)
    (c.requires.hash f.is.kind))

pub word-requires-clause-inside : goal.word-requires-clause-inside
word-requires-clause-inside g c =
    let f = c.in_ok-front.ensures.found in
    let s = rw (c.front_of.ensures.looks.same, c.in-Some.is) at c.in_ok-search.ensures.found in
    rw (c.search.ensures.looks.same, c.front_of.ensures.looks.same)
    (place_reaches
    (some_place f (g.met.O.Objects.few c.args.o.now c.requires.kept) (g.met.O.Objects.small c.args.o.now c.requires.kept) s
    (c.requires.hash f.is.kind)))

pub returns-in-None-clause-inserted : goal.returns-in-None-clause-inserted
returns-in-None-clause-inserted g c =
    let f = c.in_ok-front.ensures.found in
    let few = g.met.O.Objects.few c.args.o.now c.requires.kept in
    let small = g.met.O.Objects.small c.args.o.now c.requires.kept in
    let s = rw (c.front_of.ensures.looks.same, c.in-None.is) at c.in_ok-search.ensures.found in
    on_ok_weaker _
    (inserts (g.O.HasHeap.heap c.args.o.now) (g.O.HasHeap.heap c.add_first.new.o) f few small c.args.value (lacks f few small s))
    (rw (c.search.ensures.looks.same, c.front_of.ensures.looks.same) at c.add_first.ensures.added)

pub returns-in-None-clause-refused : goal.returns-in-None-clause-refused
returns-in-None-clause-refused g c =
    let f = c.in_ok-front.ensures.found in
    let few = g.met.O.Objects.few c.args.o.now c.requires.kept in
    let small = g.met.O.Objects.small c.args.o.now c.requires.kept in
    let s = rw (c.front_of.ensures.looks.same, c.in-None.is) at c.in_ok-search.ensures.found in
    IfErr-weaker _ _ (InsertStops c.args.hash c.args.key.now (g.O.HasHeap.heap c.args.o.now) (g.O.HasHeap.heap c.add_first.new.o))
    (λ stop u. insert_stops (g.O.HasHeap.heap c.args.o.now) (g.O.HasHeap.heap c.add_first.new.o) stop (lacks f few small s) u)
    (rw (c.search.ensures.looks.same, c.front_of.ensures.looks.same) at c.add_first.ensures.refused)

pub returns-in-None-clause-works : goal.returns-in-None-clause-works
returns-in-None-clause-works g c =
    looks_then c.in_ok-front.ensures.looks (looks_then c.in_ok-search.ensures.looks c.add_first.ensures.works)

pub returns-in_ok-value-in-Some-clause-refused : goal.returns-in_ok-value-in-Some-clause-refused
returns-in_ok-value-in-Some-clause-refused g c =
    let f = c.in_ok-front.ensures.found in
    let few = g.met.O.Objects.few c.args.o.now c.requires.kept in
    let small = g.met.O.Objects.small c.args.o.now c.requires.kept in
    let s = rw (c.front_of.ensures.looks.same, c.in-Some.is) at c.in_ok-search.ensures.found in
    let old = g.O.HasHeap.heap c.args.o.now in
    let taken : FindsKey old.blocks c.args.hash c.args.key.now c.in_ok-value-in-Some.value =
    finds f few small s (rw (c.search.ensures.looks.same, c.front_of.ensures.looks.same) at c.in_ok-value-in-Some.ensures.given) in
    let same : g.O.HasHeap.heap c.word.new.o ≡ old =
    c.word.ensures.looks.same ∙ c.search.ensures.looks.same ∙ c.front_of.ensures.looks.same in
    search rules
