-- The last one's word is set, and then the link to it.
use Rattle.std.proofs.Common.{arith}
use Rattle.std.proofs.lemmas.Result.{on_ok_weaker}
use Rattle.sdr_base.proofs.WritingLemmas.{reaches_less}
use Rattle.zco_obj.proofs.ExtentLemmas.{links_first_extent, links_next_extent, word_reaches}
use Rattle.zco_obj.proofs.extent.link_extent.Goals as goal

pub set_word-requires-then-last-eq0-clause-inside : goal.set_word-requires-then-last-eq0-clause-inside
set_word-requires-then-last-eq0-clause-inside g c =
    let r = reaches_less _ 72 24 c.requires.object (omega arith) in
    reaches_less _ 72 16
    (word_reaches (g.O.HasHeap.heap c.args.o.now) (g.O.HasHeap.heap c.set_word.new.o) c.args.object c.args.object 2 c.args.added 72
    c.in_ok-set_word.ensures.written r c.requires.object) (omega arith)

pub set_word-requires-else-last-eq0-clause-inside : goal.set_word-requires-else-last-eq0-clause-inside
set_word-requires-else-last-eq0-clause-inside g c =
    let r = reaches_less _ 72 24 c.requires.object (omega arith) in
    word_reaches (g.O.HasHeap.heap c.args.o.now) (g.O.HasHeap.heap c.set_word.new.o) c.args.object c.args.last 2 c.args.added 32
    c.in_ok-set_word.ensures.written r (c.requires.last c.if-last-eq0.false)

pub returns-then-last-eq0-clause-linked : goal.returns-then-last-eq0-clause-linked
returns-then-last-eq0-clause-linked g c =
    on_ok_weaker _
    (λ w. links_first_extent c.args.object c.args.last c.args.added c.if-last-eq0.true c.in_ok-set_word.ensures.written w)
    c.set_word-then-last-eq0.ensures.written

pub returns-else-last-eq0-clause-linked : goal.returns-else-last-eq0-clause-linked
returns-else-last-eq0-clause-linked g c =
    on_ok_weaker _
    (λ w. links_next_extent c.args.object c.args.last c.args.added c.if-last-eq0.false c.in_ok-set_word.ensures.written w)
    c.set_word-else-last-eq0.ensures.written
