-- Two words of the item are set, and then the line's number.
use Rattle.std.proofs.Common.{◌∙◌, ap, arith}
use Rattle.std.proofs.lemmas.Result.{IfErr-weaker, err_from_is_err_and, on_ok_weaker}
use Rattle.sdr_base.specs.Making.{besides}
use Rattle.sdr_base.specs.Objects.{OnlyUnmoved}
use Rattle.sdr_base.proofs.HeapLemmas.{heap_blocks}
use Rattle.sdr_base.proofs.WritingLemmas.{reaches_less}
use Rattle.bp_queue.proofs.PutLemmas.{first_reaches, listed_reaches, noted_line, notes}
use Rattle.bp_queue.proofs.StopLemmas.{change_unmoved, unmoved_since}
use Rattle.bp_queue.proofs.putting.note_elements.Goals as goal

pub set_word-requires-clause-inside : goal.set_word-requires-clause-inside
set_word-requires-clause-inside g c = reaches_less _ 56 _ (listed_reaches c.requires.item.keeps) (omega arith)

pub set_word-requires-2-clause-inside : goal.set_word-requires-2-clause-inside
set_word-requires-2-clause-inside g c =
    reaches_less _ 56 _ (first_reaches c.requires.item.keeps (heap_blocks c.in_ok-set_word.ensures.written)) (omega arith)

pub returns-in_err-set_word-2-clause-refused : goal.returns-in_err-set_word-2-clause-refused
returns-in_err-set_word-2-clause-refused g c =
    let p = err_from_is_err_and c.from_residual-in_err-set_word-2.result c.from_residual-in_err-set_word-2.ensures.1 in
    rw (p.1, p.2) (unmoved_since _ _ _ _ (ap besides c.in_ok-set_word.ensures.written) c.in_err-set_word-2.ensures.refused)

pub set_user_data-requires-clause-list : goal.set_user_data-requires-clause-list
set_user_data-requires-clause-list g c = λ kind. record {
  row = _;
  keeps =
      noted_line c.requires.item.keeps (heap_blocks c.in_ok-set_word.ensures.written) (heap_blocks c.in_ok-set_word-2.ensures.written)
      (g.met.O.Objects.few c.args.o.now c.requires.kept) (g.met.O.Objects.small c.args.o.now c.requires.kept);
}

pub returns-clause-noted : goal.returns-clause-noted
returns-clause-noted g c =
    on_ok_weaker _
    (λ s. notes {q = c.args.q.now} {w = c.args.wanted} {item = c.args.item} {at = c.args.at}
    (g.met.O.Objects.few c.args.o.now c.requires.kept) (g.met.O.Objects.small c.args.o.now c.requires.kept)
    c.in_ok-set_word.ensures.written c.in_ok-set_word-2.ensures.written s)
    c.set_user_data.ensures.set

pub returns-clause-refused : goal.returns-clause-refused
returns-clause-refused g c =
    let k =
    noted_line c.requires.item.keeps (heap_blocks c.in_ok-set_word.ensures.written) (heap_blocks c.in_ok-set_word-2.ensures.written)
    (g.met.O.Objects.few c.args.o.now c.requires.kept) (g.met.O.Objects.small c.args.o.now c.requires.kept) in
    let old = g.O.HasHeap.heap c.args.o.now in
    let new = g.O.HasHeap.heap c.set_user_data.new.o in
    IfErr-weaker _ _ (OnlyUnmoved old new)
    (λ stop u. unmoved_since old (g.O.HasHeap.heap c.set_word-2.new.o) new stop
    (ap besides c.in_ok-set_word-2.ensures.written ∙ ap besides c.in_ok-set_word.ensures.written) (change_unmoved _ _ k stop u))
    c.set_user_data.ensures.refused
