-- Its elements are deleted, and then it goes.
use Rattle.std.proofs.Common.{◌∷◌, [], arith, sym, subst}
use Rattle.std.proofs.lemmas.Result.{err_from_is_err_and}
use Rattle.sdr_base.proofs.GaveLemmas.{gave_spare, made_then}
use Rattle.sdr_base.proofs.WritingLemmas.{reaches_less}
use Rattle.sdr_base.specs.declared.moves.Move.TheVariants.{Gave}
use Rattle.sdr_list.specs.Kept.{SomeSpot}
use Rattle.bp_queue.proofs.RemoveLemmas.{in_class_is, in_class_spot, item_reaches, line_there, removes, used_still}
use Rattle.bp_queue.proofs.RemoveStopLemmas.{class_stops, give_stops, line_stops}
use Rattle.bp_queue.proofs.item.remove_item.Goals as goal

pub word-requires-clause-inside : goal.word-requires-clause-inside
word-requires-clause-inside g c = reaches_less _ 56 _ (item_reaches c.requires.item.stands) (omega arith)

pub word-requires-2-clause-inside : goal.word-requires-2-clause-inside
word-requires-2-clause-inside g c =
    rw c.word.ensures.looks.same (reaches_less _ 56 _ (item_reaches c.requires.item.stands) (omega arith))

pub word-requires-3-clause-inside : goal.word-requires-3-clause-inside
word-requires-3-clause-inside g c =
    rw (c.word-2.ensures.looks.same, c.word.ensures.looks.same)
    (reaches_less _ 56 _ (item_reaches c.requires.item.stands) (omega arith))

pub delete-requires-clause-element : goal.delete-requires-clause-element
delete-requires-clause-element g c =
    let at = rw c.word.ensures.looks.same at c.in_ok-in_class.ensures.given in
    rw (c.word-3.ensures.looks.same, c.word-2.ensures.looks.same, c.word.ensures.looks.same)
    (λ kind. subst (SomeSpot (g.O.HasHeap.heap c.args.o.now).blocks) (sym (in_class_is c.requires.item.stands at)) (in_class_spot c.requires.item.stands))

pub delete-requires-2-clause-element : goal.delete-requires-2-clause-element
delete-requires-2-clause-element g c =
    let at = rw c.word.ensures.looks.same at c.in_ok-in_class.ensures.given in
    let to = rw (c.word-2.ensures.looks.same, c.word.ensures.looks.same) at c.in_ok-in_line.ensures.given in
    let d = rw (c.word-3.ensures.looks.same, c.word-2.ensures.looks.same, c.word.ensures.looks.same) at c.in_ok-delete.ensures.deleted in
    λ kind. line_there c.args.item (g.O.HasHeap.heap c.args.o.now) c.in_ok-in_class.in_class c.in_ok-in_line.in_line at to d c.requires.item

pub delete-requires-2-clause-spare : goal.delete-requires-2-clause-spare
delete-requires-2-clause-spare g c =
    let d = rw (c.word-3.ensures.looks.same, c.word-2.ensures.looks.same, c.word.ensures.looks.same) at c.in_ok-delete.ensures.deleted in
    let n = gave_spare (c.in_ok-in_class.in_class ∷ []) d.made in
    let r = c.requires.spare in
    omega (arith, n, r)

pub give-requires-clause-spare : goal.give-requires-clause-spare
give-requires-clause-spare g c =
    let d = rw (c.word-3.ensures.looks.same, c.word-2.ensures.looks.same, c.word.ensures.looks.same) at c.in_ok-delete.ensures.deleted in
    let e = c.in_ok-delete-2.ensures.deleted in
    let n = gave_spare (c.in_ok-in_class.in_class ∷ c.in_ok-in_line.in_line ∷ [])
    (made_then (Gave c.in_ok-in_class.in_class ∷ []) (Gave c.in_ok-in_line.in_line ∷ []) d.made e.made) in
    let r = c.requires.spare in
    omega (arith, n, r)

pub give-requires-clause-used : goal.give-requires-clause-used
give-requires-clause-used g c =
    let at = rw c.word.ensures.looks.same at c.in_ok-in_class.ensures.given in
    let to = rw (c.word-2.ensures.looks.same, c.word.ensures.looks.same) at c.in_ok-in_line.ensures.given in
    let d = rw (c.word-3.ensures.looks.same, c.word-2.ensures.looks.same, c.word.ensures.looks.same) at c.in_ok-delete.ensures.deleted in
    used_still c.args.item (g.O.HasHeap.heap c.args.o.now) c.in_ok-in_class.in_class c.in_ok-in_line.in_line at to d c.in_ok-delete-2.ensures.deleted c.requires.item

pub returns-in_err-delete-clause-refused : goal.returns-in_err-delete-clause-refused
returns-in_err-delete-clause-refused g c =
    let p = err_from_is_err_and c.from_residual-in_err-delete.result c.from_residual-in_err-delete.ensures.1 in
    let at = rw c.word.ensures.looks.same at c.in_ok-in_class.ensures.given in
    let to = rw (c.word-2.ensures.looks.same, c.word.ensures.looks.same) at c.in_ok-in_line.ensures.given in
    rw (p.1, p.2)
    (class_stops c.args.item (g.O.HasHeap.heap c.args.o.now) c.in_ok-in_class.in_class c.in_ok-in_line.in_line at to c.requires.item _ _
    (rw (c.word-3.ensures.looks.same, c.word-2.ensures.looks.same, c.word.ensures.looks.same) at c.in_err-delete.ensures.refused))

pub returns-in_err-delete-2-clause-refused : goal.returns-in_err-delete-2-clause-refused
returns-in_err-delete-2-clause-refused g c =
    let p = err_from_is_err_and c.from_residual-in_err-delete-2.result c.from_residual-in_err-delete-2.ensures.1 in
    let at = rw c.word.ensures.looks.same at c.in_ok-in_class.ensures.given in
    let to = rw (c.word-2.ensures.looks.same, c.word.ensures.looks.same) at c.in_ok-in_line.ensures.given in
    let d = rw (c.word-3.ensures.looks.same, c.word-2.ensures.looks.same, c.word.ensures.looks.same) at c.in_ok-delete.ensures.deleted in
    rw (p.1, p.2) (line_stops c.args.item (g.O.HasHeap.heap c.args.o.now) c.in_ok-in_class.in_class c.in_ok-in_line.in_line at to c.requires.item d _ _ c.in_err-delete-2.ensures.refused)

pub returns-in_err-give-clause-refused : goal.returns-in_err-give-clause-refused
returns-in_err-give-clause-refused g c =
    let p = err_from_is_err_and c.from_residual-in_err-give.result c.from_residual-in_err-give.ensures.1 in
    let at = rw c.word.ensures.looks.same at c.in_ok-in_class.ensures.given in
    let to = rw (c.word-2.ensures.looks.same, c.word.ensures.looks.same) at c.in_ok-in_line.ensures.given in
    let d = rw (c.word-3.ensures.looks.same, c.word-2.ensures.looks.same, c.word.ensures.looks.same) at c.in_ok-delete.ensures.deleted in
    rw (p.1, p.2) (give_stops c.args.item (g.O.HasHeap.heap c.args.o.now) c.in_ok-in_class.in_class c.in_ok-in_line.in_line at to d c.in_ok-delete-2.ensures.deleted _ _ c.in_err-give.ensures.refused)

pub returns-clause-removed : goal.returns-clause-removed
returns-clause-removed g c =
    let at = rw c.word.ensures.looks.same at c.in_ok-in_class.ensures.given in
    let to = rw (c.word-2.ensures.looks.same, c.word.ensures.looks.same) at c.in_ok-in_line.ensures.given in
    let d = rw (c.word-3.ensures.looks.same, c.word-2.ensures.looks.same, c.word.ensures.looks.same) at c.in_ok-delete.ensures.deleted in
    removes c.args.item (g.O.HasHeap.heap c.args.o.now) c.in_ok-in_class.in_class c.in_ok-in_line.in_line at to d c.in_ok-delete-2.ensures.deleted c.in_ok-object.ensures.given c.in_ok-give.ensures.given
