-- Each step has its place, and together they are the insertion.
use Rattle.std.proofs.Common.{arith, rules, refl, ap, ◌∙◌}
use Rattle.sdr_base.specs.Making.{besides}
use Rattle.sdr_base.specs.Objects.{OnlyShort}
use Rattle.sdr_base.proofs.HeapLemmas.{short_after}
use Rattle.sdr_base.proofs.WritingLemmas.{reaches_less}
use Rattle.sdr_list.proofs.GapLemmas.{before_reaches, behind_reaches, opened_reaches}
use Rattle.sdr_list.proofs.InsertLemmas.{at_place, came_there, four_made, inserted, linked_there, linked_back}
use Rattle.sdr_list.proofs.KeptLemmas.{length_is, list_reaches}
use Rattle.sdr_list.proofs.insert.insert_between.Goals as goal

pub word-requires-clause-inside : goal.word-requires-clause-inside
word-requires-clause-inside g c = reaches_less _ 32 _ (list_reaches c.requires.place.is.keeps) (omega arith)

pub link_next-requires-clause-list : goal.link_next-requires-clause-list
link_next-requires-clause-list g c =
    let p = c.requires.place in
    opened_reaches (came_there c.args.datum (rw c.word.ensures.looks.same at c.in_ok-added.ensures.taken)
    (at_place p.row p.place p.is.keeps.rest p.is.keeps.stands)).opened

pub link_next-requires-clause-prev : goal.link_next-requires-clause-prev
link_next-requires-clause-prev g c =
    let p = c.requires.place in
    before_reaches (came_there c.args.datum (rw c.word.ensures.looks.same at c.in_ok-added.ensures.taken)
    (at_place p.row p.place p.is.keeps.rest p.is.keeps.stands)).opened p.is.at_prev

pub link_prev-requires-clause-list : goal.link_prev-requires-clause-list
link_prev-requires-clause-list g c =
    let p = c.requires.place in
    opened_reaches (linked_there p.is.at_prev c.in_ok-link_next.ensures.linked
    (came_there c.args.datum (rw c.word.ensures.looks.same at c.in_ok-added.ensures.taken)
    (at_place p.row p.place p.is.keeps.rest p.is.keeps.stands))).opened

pub link_prev-requires-clause-next : goal.link_prev-requires-clause-next
link_prev-requires-clause-next g c =
    let p = c.requires.place in
    behind_reaches (linked_there p.is.at_prev c.in_ok-link_next.ensures.linked
    (came_there c.args.datum (rw c.word.ensures.looks.same at c.in_ok-added.ensures.taken)
    (at_place p.row p.place p.is.keeps.rest p.is.keeps.stands))).opened p.is.at_next

pub overflow_add-length : goal.overflow_add-length
overflow_add-length g c =
    let n = length_is c.in_ok-length.ensures.given c.requires.place.is.keeps in
    let f = c.requires.place.is.keeps.few in omega (arith, n, f)

pub set_word-requires-clause-inside : goal.set_word-requires-clause-inside
set_word-requires-clause-inside g c =
    let p = c.requires.place in
    reaches_less _ 32 _ (opened_reaches (linked_back p.is.at_next c.in_ok-link_prev.ensures.linked
    (linked_there p.is.at_prev c.in_ok-link_next.ensures.linked
    (came_there c.args.datum (rw c.word.ensures.looks.same at c.in_ok-added.ensures.taken)
    (at_place p.row p.place p.is.keeps.rest p.is.keeps.stands)))).opened) (omega arith)

pub returns-clause-inserted : goal.returns-clause-inserted
returns-clause-inserted g c = record {
  adds = λ row place p.
      inserted c.args.datum c.in_ok-length.length c.in_ok-length.ensures.given
      (rw c.word.ensures.looks.same at c.in_ok-added.ensures.taken) c.in_ok-link_next.ensures.linked
      c.in_ok-link_prev.ensures.linked c.in_ok-set_word.ensures.written row place p;
}

pub returns-clause-made : goal.returns-clause-made
returns-clause-made g c =
    let m = (four_made c.args.list c.args.prev c.args.next c.args.datum
    (rw c.word.ensures.looks.same at c.in_ok-added.ensures.taken)).made in
    record {
      all = ap besides c.in_ok-set_word.ensures.written ∙ c.in_ok-link_prev.ensures.same ∙ c.in_ok-link_next.ensures.same ∙ m.all;
    }

pub returns-in_err-link_next-clause-refused : goal.returns-in_err-link_next-clause-refused
returns-in_err-link_next-clause-refused g c =
    let m = (four_made c.args.list c.args.prev c.args.next c.args.datum
    (rw c.word.ensures.looks.same at c.in_ok-added.ensures.taken)).made in
    let s : OnlyShort 32 (g.O.HasHeap.heap c.args.o.now) (g.O.HasHeap.heap c.link_next.new.o) c.in_err-link_next.field-0.0 =
    short_after (g.O.HasHeap.heap c.take_words.new.o) _ _ m refl c.in_err-link_next.ensures.refused in search rules

pub returns-in_err-link_prev-clause-refused : goal.returns-in_err-link_prev-clause-refused
returns-in_err-link_prev-clause-refused g c =
    let m = (four_made c.args.list c.args.prev c.args.next c.args.datum
    (rw c.word.ensures.looks.same at c.in_ok-added.ensures.taken)).made in
    let s : OnlyShort 32 (g.O.HasHeap.heap c.args.o.now) (g.O.HasHeap.heap c.link_prev.new.o) c.in_err-link_prev.field-0.0 =
    short_after (g.O.HasHeap.heap c.link_next.new.o) _ _ m c.in_ok-link_next.ensures.same c.in_err-link_prev.ensures.refused in search rules

pub returns-in_err-set_word-clause-refused : goal.returns-in_err-set_word-clause-refused
returns-in_err-set_word-clause-refused g c =
    let m = (four_made c.args.list c.args.prev c.args.next c.args.datum
    (rw c.word.ensures.looks.same at c.in_ok-added.ensures.taken)).made in
    let s : OnlyShort 32 (g.O.HasHeap.heap c.args.o.now) (g.O.HasHeap.heap c.set_word.new.o) c.in_err-set_word.field-0.0 =
    short_after (g.O.HasHeap.heap c.link_prev.new.o) _ _ m (c.in_ok-link_prev.ensures.same ∙ c.in_ok-link_next.ensures.same)
    c.in_err-set_word.ensures.refused in search rules
