-- The entry is linked past, and goes.
use Rattle.std.proofs.Common.{arith, refl}
use Rattle.std.proofs.lemmas.Result.{on_ok_weaker}
use Rattle.sdr_base.proofs.WritingLemmas.{reaches_less}
use Rattle.sdr_hash.proofs.OutLemmas.{count_some, hash_there, link_small, link_there, place_reaches, takes_out}
use Rattle.sdr_hash.proofs.ReachLemmas.{put_into}
use Rattle.sdr_hash.proofs.changing.take_out.Goals as goal

pub word-requires-clause-inside : goal.word-requires-clause-inside
word-requires-clause-inside g c = reaches_less _ 16 _ (place_reaches c.requires.place) (omega arith)

pub word-requires-2-clause-inside : goal.word-requires-2-clause-inside
word-requires-2-clause-inside g c =
    rw c.word.ensures.looks.same (hash_there c.requires.place.keeps)

pub set_word-requires-clause-small : goal.set_word-requires-clause-small
set_word-requires-clause-small g c = link_small c.requires.place

pub set_word-requires-clause-inside : goal.set_word-requires-clause-inside
set_word-requires-clause-inside g c =
    let n = rw c.word.ensures.looks.same at c.in_ok-count.ensures.given in
    rw (c.word-2.ensures.looks.same, c.word.ensures.looks.same)
    (link_there c.args.front c.args.place _ _ (g.O.HasHeap.heap c.args.o.now) c.in_ok-next.ensures.given n c.requires.place)

pub overflow_sub-count : goal.overflow_sub-count
overflow_sub-count g c = count_some _ c.requires.place (rw c.word.ensures.looks.same at c.in_ok-count.ensures.given)

pub set_word-requires-2-clause-inside : goal.set_word-requires-2-clause-inside
set_word-requires-2-clause-inside g c =
    let l = rw (c.word-2.ensures.looks.same, c.word.ensures.looks.same) at c.in_ok-set_word.ensures.written in
    put_into _ _ _ _ _ c.args.front.addr 24 l (hash_there c.requires.place.keeps)

pub give-requires-clause-used : goal.give-requires-clause-used
give-requires-clause-used g c =
    let l = rw (c.word-2.ensures.looks.same, c.word.ensures.looks.same) at c.in_ok-set_word.ensures.written in
    put_into _ _ _ _ _ c.args.place.addr 0 c.in_ok-set_word-2.ensures.written
    (put_into _ _ _ _ _ c.args.place.addr 0 l (reaches_less _ 16 0 (place_reaches c.requires.place) (omega arith)))

pub returns-clause-taken : goal.returns-clause-taken
returns-clause-taken g c =
    let n = rw c.word.ensures.looks.same at c.in_ok-count.ensures.given in
    let l = rw (c.word-2.ensures.looks.same, c.word.ensures.looks.same) at c.in_ok-set_word.ensures.written in
    on_ok_weaker _
    (λ w. takes_out c.args.front c.args.place _ _
    (g.O.HasHeap.heap c.args.o.now) c.in_ok-next.ensures.given n l _ refl c.in_ok-set_word-2.ensures.written
    (g.O.HasHeap.heap c.give.new.self) w)
    c.give.ensures.given
