-- Three words are set.
use Rattle.std.proofs.Common.{arith}
use Rattle.std.proofs.lemmas.Result.{on_ok_weaker}
use Rattle.sdr_base.proofs.WritingLemmas.{reaches_less}
use Rattle.zco_strip.proofs.LinkLemmas.{sets_ends}
use Rattle.zco_obj.proofs.ExtentLemmas.{word_reaches}
use Rattle.zco_strip.proofs.linking.set_ends.Goals as goal

pub set_word-requires-2-clause-inside : goal.set_word-requires-2-clause-inside
set_word-requires-2-clause-inside g c =
    let r = reaches_less _ 72 16 c.requires.object (omega arith) in
    reaches_less _ 72 24
    (word_reaches (g.O.HasHeap.heap c.args.o.now) (g.O.HasHeap.heap c.set_word.new.o) c.args.object c.args.object 1 c.args.first 72
    c.in_ok-set_word.ensures.written r c.requires.object) (omega arith)

pub set_word-requires-3-clause-inside : goal.set_word-requires-3-clause-inside
set_word-requires-3-clause-inside g c =
    let one = g.O.HasHeap.heap c.set_word.new.o in
    let r = reaches_less _ 72 16 c.requires.object (omega arith) in
    let first =
    word_reaches (g.O.HasHeap.heap c.args.o.now) one c.args.object c.args.object 1 c.args.first 72 c.in_ok-set_word.ensures.written
    r c.requires.object in
    reaches_less _ 72 64
    (word_reaches one (g.O.HasHeap.heap c.set_word-2.new.o) c.args.object c.args.object 2 c.args.last 72
    c.in_ok-set_word-2.ensures.written (reaches_less _ 72 24 first (omega arith)) first) (omega arith)

pub returns-clause-set : goal.returns-clause-set
returns-clause-set g c =
    on_ok_weaker _
    (λ w. sets_ends c.args.object c.args.first c.args.last c.in_ok-set_word.ensures.written c.in_ok-set_word-2.ensures.written w)
    c.set_word-3.ensures.written
