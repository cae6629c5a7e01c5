-- Both words are set.
use Rattle.std.proofs.Common.{arith}
use Rattle.std.proofs.lemmas.Result.{on_ok_weaker}
use Rattle.sdr_base.proofs.WritingLemmas.{reaches_less}
use Rattle.zco_strip.proofs.LinkLemmas.{cuts_extent}
use Rattle.zco_obj.proofs.ExtentLemmas.{word_reaches}
use Rattle.zco_strip.proofs.linking.cut_extent.Goals as goal

pub set_word-requires-2-clause-inside : goal.set_word-requires-2-clause-inside
set_word-requires-2-clause-inside g c =
    let r = reaches_less _ 32 16 c.requires.extent (omega arith) in
    reaches_less _ 32 24
    (word_reaches (g.O.HasHeap.heap c.args.o.now) (g.O.HasHeap.heap c.set_word.new.o) c.args.extent c.args.extent 1 c.args.offset 32
    c.in_ok-set_word.ensures.written r c.requires.extent) (omega arith)

pub returns-clause-cut : goal.returns-clause-cut
returns-clause-cut g c =
    on_ok_weaker _
    (λ w. cuts_extent c.args.extent c.args.offset c.args.length c.in_ok-set_word.ensures.written w)
    c.set_word-2.ensures.written
