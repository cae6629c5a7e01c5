-- The buckets go one by one, and then the hash.
use Rattle.std.proofs.Common.{refl, arith, rules}
use Rattle.std.proofs.lemmas.Result.{IfErr-weaker, on_ok_weaker}
use Rattle.sdr_base.proofs.WorksLemmas.{looks_looks, looks_works, works_more, works_ok, works_then}
use Rattle.sdr_hash.specs.Destroying.{DestroyStops}
use Rattle.sdr_hash.proofs.DestroyLemmas.{begun, destroys, entries_in_is, hash_left, left_less, onward, some_opened, spare_left, stopped_after, stopped_within}
use Rattle.sdr_hash.proofs.KeptLemmas.{buckets_is, hash_reaches}
use Rattle.sdr_hash.proofs.destroying.destroy.Goals as goal

pub word-requires-clause-inside : goal.word-requires-clause-inside
word-requires-clause-inside g c =
    rw c.hash_word.ensures.looks.same (hash_reaches (c.requires.hash c.in_ok-buckets.ensures.found).keeps 24 (omega arith))

pub overflow_add-front : goal.overflow_add-front
overflow_add-front g c =
    let k = (c.requires.hash c.in_ok-buckets.ensures.found).keeps in
    let n = buckets_is k c.in_ok-buckets.ensures.given in
    let few = k.fits.shape.count.few in omega (arith, n, few)

pub loop-bucket-init : goal.loop-bucket-init
loop-bucket-init g c =
    let old = g.O.HasHeap.heap c.args.o.now in
    let count = rw c.hash_word.ensures.looks.same at c.in_ok-left.ensures.given in
    let e = entries_in_is old.blocks c.args.hash c.in_ok-left.left c.in_ok-buckets.ensures.found count in
    record {
      gives =
          rw (c.word.ensures.looks.same, c.hash_word.ensures.looks.same)
          (begun old c.args.hash _ c.in_ok-left.left c.in_ok-buckets.buckets (g.met.O.Objects.few c.args.o.now c.requires.kept)
          (g.met.O.Objects.small c.args.o.now c.requires.kept) count c.in_ok-buckets.ensures.given);
      less = omega (arith, e);
      works = works_ok
          (works_more (looks_works (looks_looks c.in_ok-buckets.ensures.looks c.in_ok-left.ensures.looks)) (omega arith));
    }

pub give_bucket-requires-clause-kept : goal.give_bucket-requires-clause-kept
give_bucket-requires-clause-kept g c = c.loop-bucket.invariant.works.kept

pub give_bucket-requires-clause-spare : goal.give_bucket-requires-clause-spare
give_bucket-requires-clause-spare g c =
    let old = g.O.HasHeap.heap c.args.o.now in
    let count = rw c.hash_word.ensures.looks.same at c.in_ok-left.ensures.given in
    let e = entries_in_is old.blocks c.args.hash c.in_ok-left.left c.in_ok-buckets.ensures.found count in
    let enough = c.requires.spare in
    let room = spare_left old c.args.hash _ c.in_ok-left.left c.in_ok-buckets.buckets
    (g.met.O.Objects.few c.args.o.now c.requires.kept)
    (g.met.O.Objects.small c.args.o.now c.requires.kept) count c.in_ok-buckets.ensures.given
    (c.requires.hash c.in_ok-buckets.ensures.found)
    c.loop-bucket.invariant.gives (omega (arith, e, enough)) in omega (arith, room)

pub give_bucket-requires-clause-bucket : goal.give_bucket-requires-clause-bucket
give_bucket-requires-clause-bucket g c =
    let old = g.O.HasHeap.heap c.args.o.now in
    let count = rw c.hash_word.ensures.looks.same at c.in_ok-left.ensures.given in
    some_opened old c.args.hash _ c.in_ok-left.left c.in_ok-buckets.buckets (g.met.O.Objects.few c.args.o.now c.requires.kept)
    (g.met.O.Objects.small c.args.o.now c.requires.kept) count c.in_ok-buckets.ensures.given
    c.loop-bucket.invariant.gives _ (omega arith) refl refl (c.requires.hash c.in_ok-buckets.ensures.found)

pub returns-in_err-left-2-clause-refused : goal.returns-in_err-left-2-clause-refused
returns-in_err-left-2-clause-refused g c =
    let old = g.O.HasHeap.heap c.args.o.now in
    let count = rw c.hash_word.ensures.looks.same at c.in_ok-left.ensures.given in
    let s : DestroyStops c.args.hash old (g.O.HasHeap.heap c.give_bucket.new.o) c.in_err-left-2.field-0.0 =
    stopped_within old c.args.hash _ c.in_ok-left.left c.in_ok-buckets.buckets (g.met.O.Objects.few c.args.o.now c.requires.kept)
    (g.met.O.Objects.small c.args.o.now c.requires.kept) count c.in_ok-buckets.ensures.given
    c.loop-bucket.invariant.gives _ (omega arith) refl refl (g.O.HasHeap.heap c.give_bucket.new.o) _ c.in_ok-buckets.ensures.found
    c.in_err-left-2.ensures.refused in search rules

pub loop-bucket-preserved : goal.loop-bucket-preserved
loop-bucket-preserved g c =
    let old = g.O.HasHeap.heap c.args.o.now in
    let count = rw c.hash_word.ensures.looks.same at c.in_ok-left.ensures.given in
    let few = g.met.O.Objects.few c.args.o.now c.requires.kept in
    let small = g.met.O.Objects.small c.args.o.now c.requires.kept in
    let fewer =
    left_less old c.args.hash _ c.in_ok-left.left c.in_ok-buckets.buckets few small count c.in_ok-buckets.ensures.given
    c.loop-bucket.invariant.gives _ (omega arith) refl refl
    (c.requires.hash c.in_ok-buckets.ensures.found) c.in_ok-left-2.ensures.given in
    let less = c.loop-bucket.invariant.less in
    record {
      gives =
          onward old c.args.hash _ c.in_ok-left.left c.in_ok-buckets.buckets few small count c.in_ok-buckets.ensures.given
          c.loop-bucket.invariant.gives _ (omega arith) refl refl c.in_ok-left-2.ensures.given;
      less = omega (arith, fewer, less);
      works = works_ok
          (works_more (works_then c.loop-bucket.invariant.works c.in_ok-left-2.ensures.works) (omega (arith, fewer, less)));
    }

pub give-requires-clause-kept : goal.give-requires-clause-kept
give-requires-clause-kept g c = c.loop-bucket.invariant.works.kept

pub give-requires-clause-spare : goal.give-requires-clause-spare
give-requires-clause-spare g c =
    let old = g.O.HasHeap.heap c.args.o.now in
    let count = rw c.hash_word.ensures.looks.same at c.in_ok-left.ensures.given in
    let e = entries_in_is old.blocks c.args.hash c.in_ok-left.left c.in_ok-buckets.ensures.found count in
    let enough = c.requires.spare in
    let room = spare_left old c.args.hash _ c.in_ok-left.left c.in_ok-buckets.buckets
    (g.met.O.Objects.few c.args.o.now c.requires.kept)
    (g.met.O.Objects.small c.args.o.now c.requires.kept) count c.in_ok-buckets.ensures.given
    (c.requires.hash c.in_ok-buckets.ensures.found)
    c.loop-bucket.invariant.gives (omega (arith, e, enough)) in omega (arith, room)

pub give-requires-clause-used : goal.give-requires-clause-used
give-requires-clause-used g c =
    let old = g.O.HasHeap.heap c.args.o.now in
    let count = rw c.hash_word.ensures.looks.same at c.in_ok-left.ensures.given in
    hash_left old c.args.hash _ c.in_ok-left.left c.in_ok-buckets.buckets (g.met.O.Objects.few c.args.o.now c.requires.kept)
    (g.met.O.Objects.small c.args.o.now c.requires.kept) count c.in_ok-buckets.ensures.given
    c.loop-bucket.invariant.gives (c.requires.hash c.in_ok-buckets.ensures.found)

pub returns-clause-destroyed : goal.returns-clause-destroyed
returns-clause-destroyed g c =
    let old = g.O.HasHeap.heap c.args.o.now in
    let count = rw c.hash_word.ensures.looks.same at c.in_ok-left.ensures.given in
    on_ok_weaker _
    (λ w. destroys old c.args.hash _ c.in_ok-left.left c.in_ok-buckets.buckets (g.met.O.Objects.few c.args.o.now c.requires.kept)
    (g.met.O.Objects.small c.args.o.now c.requires.kept) count c.in_ok-buckets.ensures.given
    c.loop-bucket.invariant.gives (omega arith)
    (g.O.HasHeap.heap c.give.new.self) c.in_ok-buckets.ensures.found w)
    c.give.ensures.given

pub returns-clause-refused : goal.returns-clause-refused
returns-clause-refused g c =
    let old = g.O.HasHeap.heap c.args.o.now in
    let count = rw c.hash_word.ensures.looks.same at c.in_ok-left.ensures.given in
    IfErr-weaker _ _ (DestroyStops c.args.hash old (g.O.HasHeap.heap c.give.new.self))
    (λ stop u. stopped_after old c.args.hash _ c.in_ok-left.left c.in_ok-buckets.buckets
    (g.met.O.Objects.few c.args.o.now c.requires.kept)
    (g.met.O.Objects.small c.args.o.now c.requires.kept) count c.in_ok-buckets.ensures.given
    c.loop-bucket.invariant.gives (omega arith)
    (g.O.HasHeap.heap c.give.new.self) stop c.in_ok-buckets.ensures.found u)
    c.give.ensures.refused
