-- It is put into the list of its class, and then into the line.
use Rattle.std.proofs.Common.{[], ◌∷◌}
use Rattle.std.proofs.lemmas.Result.{err_from_is_err_and}
use Rattle.bp_queue.proofs.LackLemmas.{first_lacks, then_lacks}
use Rattle.bp_queue.proofs.PutLemmas.{enlists, line_list_still}
use Rattle.bp_queue.proofs.QueueLemmas.{class_list}
use Rattle.bp_queue.proofs.StopLemmas.{insert_short}
use Rattle.bp_queue.proofs.putting.enlist.Goals as goal

pub insert_ordered-requires-clause-list : goal.insert_ordered-requires-clause-list
insert_ordered-requires-clause-list g c =
    rw c.list_of.ensures (λ kind. record { row = _; keeps = class_list c.requires.item.keeps.keeps c.args.wanted.class })

pub returns-in_err-in_class-clause-refused : goal.returns-in_err-in_class-clause-refused
returns-in_err-in_class-clause-refused g c =
    let p = err_from_is_err_and c.from_residual.result c.from_residual.ensures.1 in
    rw (p.1, p.2)
    (first_lacks 32 (32 ∷ []) _ _ _
    (insert_short _ _ (class_list c.requires.item.keeps.keeps c.args.wanted.class) _ (rw c.list_of.ensures at c.in_err-in_class.ensures.refused)))

pub insert_ordered-requires-2-clause-list : goal.insert_ordered-requires-2-clause-list
insert_ordered-requires-2-clause-list g c =
    λ kind. line_list_still (g.G.Collate.order c.args.by.now.ordinal.by) c.args.by.now.falls
    (rw c.list_of.ensures at c.in_ok-in_class.ensures.inserted) c.requires.item

pub returns-in_err-in_line-clause-refused : goal.returns-in_err-in_line-clause-refused
returns-in_err-in_line-clause-refused g c =
    let p = err_from_is_err_and c.from_residual-in_err-in_line.result c.from_residual-in_err-in_line.ensures.1 in
    let i = rw c.list_of.ensures at c.in_ok-in_class.ensures.inserted in
    let k = line_list_still (g.G.Collate.order c.args.by.now.ordinal.by) c.args.by.now.falls i c.requires.item in
    rw (p.1, p.2)
    (then_lacks (32 ∷ []) _ _ i.made (first_lacks 32 [] _ _ _ (insert_short _ _ k.keeps _ c.in_err-in_line.ensures.refused)))

pub returns-clause-listed : goal.returns-clause-listed
returns-clause-listed g c =
    enlists (g.G.Collate.order c.args.by.now.ordinal.by) c.args.by.now.falls
    (rw c.list_of.ensures at c.in_ok-in_class.ensures.inserted)
    (g.F.Collate.order c.args.by.now.deadline.by) c.args.by.now.rises c.requires.item c.in_ok-in_line.ensures.inserted
