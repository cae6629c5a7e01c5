-- The entry's block is taken, linked, and counted.
use Rattle.std.proofs.Common.{◌*◌, ◌+◌, arith, refl, rules, length, ap}
use Rattle.std.proofs.lemmas.Result.{IfErr-weaker, on_ok_weaker}
use Rattle.sdr_base.specs.Making.{besides}
use Rattle.sdr_base.specs.Objects.{OnlyShort}
use Rattle.sdr_base.proofs.HeapLemmas.{short_after}
use Rattle.sdr_hash.proofs.AddLemmas.{adds_first, count_fits, took_entry}
use Rattle.sdr_hash.proofs.OutLemmas.{hash_there}
use Rattle.sdr_hash.proofs.ReachLemmas.{taken_reaches, put_into}
use Rattle.sdr_hash.proofs.WalkLemmas.{front_reaches}
use Rattle.sdr_hash.proofs.changing.add_first.Goals as goal

pub word-requires-clause-inside : goal.word-requires-clause-inside
word-requires-clause-inside g c = front_reaches c.requires.bucket.keeps c.args.front.field c.requires.bucket.keeps.opened.inside

pub word-requires-2-clause-inside : goal.word-requires-2-clause-inside
word-requires-2-clause-inside g c = rw c.word.ensures.looks.same (hash_there c.requires.bucket.keeps)

pub take_entry-requires-clause-short : goal.take_entry-requires-clause-short
take_entry-requires-clause-short g c = c.requires.bucket.keeps.opened.short

pub set_word-requires-clause-inside : goal.set_word-requires-clause-inside
set_word-requires-clause-inside g c =
    let t = rw (c.word-2.ensures.looks.same, c.word.ensures.looks.same) at c.in_ok-added.ensures.taken in
    taken_reaches c.args.front.addr (8 * c.args.front.field + 8) t
    (front_reaches c.requires.bucket.keeps c.args.front.field c.requires.bucket.keeps.opened.inside)

pub overflow_add-count : goal.overflow_add-count
overflow_add-count g c =
    let n = count_fits c.in_ok-count.count c.requires.bucket
    (rw c.word.ensures.looks.same at c.in_ok-count.ensures.given) in omega (arith, n)

pub set_word-requires-2-clause-inside : goal.set_word-requires-2-clause-inside
set_word-requires-2-clause-inside g c =
    let t = rw (c.word-2.ensures.looks.same, c.word.ensures.looks.same) at c.in_ok-added.ensures.taken in
    put_into _ _ _ _ _ c.args.front.addr 24 c.in_ok-set_word.ensures.written
    (taken_reaches c.args.front.addr 24 t (hash_there c.requires.bucket.keeps))

pub returns-clause-added : goal.returns-clause-added
returns-clause-added g c =
    let n = rw c.word.ensures.looks.same at c.in_ok-count.ensures.given in
    let t = rw (c.word-2.ensures.looks.same, c.word.ensures.looks.same) at c.in_ok-added.ensures.taken in
    on_ok_weaker _
    (λ w. adds_first c.args.front c.in_ok-next.next c.args.value c.in_ok-added.added c.in_ok-count.count c.args.key.now
    c.in_ok-next.ensures.given n t
    c.in_ok-set_word.ensures.written _ (g.O.HasHeap.heap c.set_word-2.new.o) refl w)
    c.set_word-2.ensures.written

pub returns-in_err-set_word-clause-refused : goal.returns-in_err-set_word-clause-refused
returns-in_err-set_word-clause-refused g c =
    let t = rw (c.word-2.ensures.looks.same, c.word.ensures.looks.same) at c.in_ok-added.ensures.taken in
    let s : OnlyShort (16 + length c.args.key.now) (g.O.HasHeap.heap c.args.o.now)
    (g.O.HasHeap.heap c.set_word.new.o) c.in_err-set_word.field-0.0 =
    short_after (g.O.HasHeap.heap c.take_entry.new.o) (g.O.HasHeap.heap c.set_word.new.o) _ (took_entry _ _ c.args.key.now t) refl
    c.in_err-set_word.ensures.refused in search rules

pub returns-clause-refused : goal.returns-clause-refused
returns-clause-refused g c =
    let t = rw (c.word-2.ensures.looks.same, c.word.ensures.looks.same) at c.in_ok-added.ensures.taken in
    IfErr-weaker _ _
    (OnlyShort (16 + length c.args.key.now) (g.O.HasHeap.heap c.args.o.now) (g.O.HasHeap.heap c.set_word-2.new.o))
    (λ stop u. short_after (g.O.HasHeap.heap c.set_word.new.o) (g.O.HasHeap.heap c.set_word-2.new.o) stop
    (took_entry _ _ c.args.key.now t)
    (ap besides c.in_ok-set_word.ensures.written) u)
    c.set_word-2.ensures.refused
