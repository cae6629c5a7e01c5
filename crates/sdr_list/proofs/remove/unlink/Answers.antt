-- Each step has its place, and together they are the deletion.
use Rattle.std.proofs.Common.{◌-◌, arith}
use Rattle.std.proofs.lemmas.Result.{on_ok_weaker}
use Rattle.sdr_base.proofs.WritingLemmas.{reaches_less}
use Rattle.sdr_list.proofs.DeleteLemmas.{around, counted_down, counts_one, element_used, linked_past, next_at, linked_past_back, unlinked}
use Rattle.sdr_list.proofs.GapLemmas.{before_reaches, behind_reaches, opened_reaches}
use Rattle.sdr_list.proofs.KeptLemmas.{list_reaches}
use Rattle.sdr_list.proofs.remove.unlink.Goals as goal

pub word-requires-clause-inside : goal.word-requires-clause-inside
word-requires-clause-inside g c =
    let p = c.requires.between.is in
    rw p.in_list (reaches_less _ 32 _ (list_reaches p.is.keeps) (omega arith))

pub link_next-requires-clause-list : goal.link_next-requires-clause-list
link_next-requires-clause-list g c =
    let p = c.requires.between.is in rw (c.word.ensures.looks.same, p.in_list) (list_reaches p.is.keeps)

pub link_next-requires-clause-prev : goal.link_next-requires-clause-prev
link_next-requires-clause-prev g c =
    let p = c.requires.between.is in
    rw c.word.ensures.looks.same (before_reaches (around p.is.keeps.rest p.is p.is.keeps.stands).opened p.at_prev)

pub link_prev-requires-clause-list : goal.link_prev-requires-clause-list
link_prev-requires-clause-list g c =
    let p = c.requires.between.is in
    rw p.in_list (opened_reaches (linked_past p.in_list p.at_prev
    (rw c.word.ensures.looks.same at c.in_ok-link_next.ensures.linked) (around p.is.keeps.rest p.is p.is.keeps.stands)).opened)

pub link_prev-requires-clause-next : goal.link_prev-requires-clause-next
link_prev-requires-clause-next g c =
    let p = c.requires.between.is in
    behind_reaches (linked_past p.in_list p.at_prev
    (rw c.word.ensures.looks.same at c.in_ok-link_next.ensures.linked) (around p.is.keeps.rest p.is p.is.keeps.stands)).opened
    (next_at p)

pub overflow_sub-length : goal.overflow_sub-length
overflow_sub-length g c = counts_one c.in_ok-length.ensures.given c.requires.between.is

pub set_word-requires-clause-inside : goal.set_word-requires-clause-inside
set_word-requires-clause-inside g c =
    let p = c.requires.between.is in
    rw p.in_list (reaches_less _ 32 _ (opened_reaches (linked_past_back p.in_list p.at_next c.in_ok-link_prev.ensures.linked
    (linked_past p.in_list p.at_prev (rw c.word.ensures.looks.same at c.in_ok-link_next.ensures.linked)
    (around p.is.keeps.rest p.is p.is.keeps.stands))).opened) (omega arith))

pub give-requires-clause-used : goal.give-requires-clause-used
give-requires-clause-used g c =
    let p = c.requires.between.is in
    element_used (counted_down (g.O.HasHeap.heap c.link_prev.new.o) (g.O.HasHeap.heap c.set_word.new.o) (c.in_ok-length.length - 1) p.in_list
    c.in_ok-set_word.ensures.written
    (linked_past_back p.in_list p.at_next c.in_ok-link_prev.ensures.linked
    (linked_past p.in_list p.at_prev (rw c.word.ensures.looks.same at c.in_ok-link_next.ensures.linked)
    (around p.is.keeps.rest p.is p.is.keeps.stands))))

pub returns-clause-unlinked : goal.returns-clause-unlinked
returns-clause-unlinked g c =
    on_ok_weaker _
    (λ w. unlinked (g.O.HasHeap.heap c.args.o.now) (g.O.HasHeap.heap c.link_prev.new.o) (g.O.HasHeap.heap c.set_word.new.o)
    (g.O.HasHeap.heap c.give.new.self) c.in_ok-length.length c.in_ok-length.ensures.given
    (rw c.word.ensures.looks.same at c.in_ok-link_next.ensures.linked) c.in_ok-link_prev.ensures.linked
    c.in_ok-set_word.ensures.written w) c.give.ensures.given
