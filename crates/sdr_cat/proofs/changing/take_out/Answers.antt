-- The entry is linked past, and goes.
use Rattle.std.proofs.Common.{arith}
use Rattle.std.proofs.lemmas.Result.{on_ok_weaker}
use Rattle.sdr_base.proofs.WritingLemmas.{reaches_less}
use Rattle.sdr_cat.proofs.FindLemmas.{entry_reaches}
use Rattle.sdr_cat.proofs.OutLemmas.{first_entry, previous_reaches, still, takes_out}
use Rattle.sdr_cat.proofs.changing.take_out.Goals as goal

pub word-requires-clause-inside : goal.word-requires-clause-inside
word-requires-clause-inside g c = reaches_less _ 56 _ (entry_reaches (first_entry c.requires.first)) (omega arith)

pub link_next-requires-clause-prev : goal.link_next-requires-clause-prev
link_next-requires-clause-prev g c = rw c.word.ensures.looks.same (previous_reaches c.requires.first)

pub give-requires-clause-used : goal.give-requires-clause-used
give-requires-clause-used g c =
    let l = rw c.word.ensures.looks.same at c.in_ok-link_next.ensures.linked in
    still c.in_ok-next.ensures.given l c.in_ok-link_last.ensures.linked c.requires.first

pub returns-clause-taken : goal.returns-clause-taken
returns-clause-taken g c =
    let l = rw c.word.ensures.looks.same at c.in_ok-link_next.ensures.linked in
    on_ok_weaker _ (λ w. takes_out c.in_ok-next.ensures.given l c.in_ok-link_last.ensures.linked (g.O.HasHeap.heap c.give.new.self) w) c.give.ensures.given
