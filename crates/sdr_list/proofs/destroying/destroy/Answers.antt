-- The elements go, and then the list.
use Rattle.std.proofs.Common.{arith, rules}
use Rattle.std.proofs.lemmas.Result.{IfErr-weaker, on_ok_weaker}
use Rattle.sdr_base.proofs.WritingLemmas.{reaches_less}
use Rattle.sdr_list.specs.Destroying.{DestroyStops}
use Rattle.sdr_list.proofs.DestroyLemmas.{destroys, elements_is, list_left, some_chain, spare_one, stopped_after, stopped_within}
use Rattle.sdr_list.proofs.KeptLemmas.{list_reaches}
use Rattle.sdr_list.proofs.destroying.destroy.Goals as goal

pub word-requires-clause-inside : goal.word-requires-clause-inside
word-requires-clause-inside g c =
    rw c.list_word.ensures.looks.same
    (reaches_less _ 32 _ (list_reaches (c.requires.list c.in_ok-length.ensures.found).keeps) (omega arith))

pub give_chain-requires-clause-spare : goal.give_chain-requires-clause-spare
give_chain-requires-clause-spare g c =
    let h = c.in_ok-length.ensures.given in
    let n = elements_is (g.O.HasHeap.heap c.args.o.now).blocks c.args.list c.in_ok-length.length c.in_ok-length.ensures.found h in
    let enough = c.requires.spare in
    rw (c.word.ensures.looks.same, c.list_word.ensures.looks.same) (omega (arith, n, enough))

pub give_chain-requires-clause-chain : goal.give_chain-requires-clause-chain
give_chain-requires-clause-chain g c =
    let h = c.in_ok-length.ensures.given in
    let f = rw c.list_word.ensures.looks.same at c.in_ok-first.ensures.given in
    rw (c.word.ensures.looks.same, c.list_word.ensures.looks.same)
    (some_chain h f (c.requires.list c.in_ok-length.ensures.found))

pub give-requires-clause-spare : goal.give-requires-clause-spare
give-requires-clause-spare g c =
    let h = c.in_ok-length.ensures.given in
    let f = rw c.list_word.ensures.looks.same at c.in_ok-first.ensures.given in
    spare_one c.in_ok-length.ensures.found h f (c.requires.list c.in_ok-length.ensures.found)
    (rw (c.word.ensures.looks.same, c.list_word.ensures.looks.same)
    at c.in_ok-give_chain.ensures.given) c.requires.spare

pub give-requires-clause-used : goal.give-requires-clause-used
give-requires-clause-used g c =
    let h = c.in_ok-length.ensures.given in
    let f = rw c.list_word.ensures.looks.same at c.in_ok-first.ensures.given in
    list_left h f (c.requires.list c.in_ok-length.ensures.found)
    (rw (c.word.ensures.looks.same, c.list_word.ensures.looks.same)
    at c.in_ok-give_chain.ensures.given)

pub returns-clause-destroyed : goal.returns-clause-destroyed
returns-clause-destroyed g c =
    let h = c.in_ok-length.ensures.given in
    let f = rw c.list_word.ensures.looks.same at c.in_ok-first.ensures.given in
    let gives = rw (c.word.ensures.looks.same, c.list_word.ensures.looks.same)
    at c.in_ok-give_chain.ensures.given in
    on_ok_weaker _ (λ w. destroys (g.O.HasHeap.heap c.give.new.self) c.in_ok-length.ensures.found h f gives w)
    c.give.ensures.given

pub returns-in_err-give_chain-clause-refused : goal.returns-in_err-give_chain-clause-refused
returns-in_err-give_chain-clause-refused g c =
    let h = c.in_ok-length.ensures.given in
    let f = rw c.list_word.ensures.looks.same at c.in_ok-first.ensures.given in
    let s : DestroyStops c.args.list (g.O.HasHeap.heap c.args.o.now) (g.O.HasHeap.heap c.give_chain.new.o)
    c.in_err-give_chain.field-0.0 =
    stopped_within c.args.list c.in_ok-first.first c.in_ok-length.length (g.O.HasHeap.heap c.args.o.now) (g.O.HasHeap.heap c.give_chain.new.o)
    _ c.in_ok-length.ensures.found h f
    (rw (c.word.ensures.looks.same, c.list_word.ensures.looks.same)
    at c.in_err-give_chain.ensures.refused) in search rules

pub returns-clause-refused : goal.returns-clause-refused
returns-clause-refused g c =
    let h = c.in_ok-length.ensures.given in
    let f = rw c.list_word.ensures.looks.same at c.in_ok-first.ensures.given in
    let gives = rw (c.word.ensures.looks.same, c.list_word.ensures.looks.same)
    at c.in_ok-give_chain.ensures.given in
    IfErr-weaker _ _ (DestroyStops c.args.list (g.O.HasHeap.heap c.args.o.now) (g.O.HasHeap.heap c.give.new.self))
    (λ stop u. stopped_after c.args.list (g.O.HasHeap.heap c.give.new.self) stop c.in_ok-length.ensures.found h f gives u)
    c.give.ensures.refused
