-- The list of the class says it.
use Rattle.std.proofs.Common.{length, ◌∙◌}
use Rattle.std.proofs.lemmas.List.{length-map}
use Rattle.std.proofs.lemmas.Result.{IfErr-weaker, IfOk-weaker}
use Rattle.bp_queue.specs.Calls.{Tells}
use Rattle.bp_queue.specs.Kept.{class_element, waiting_of}
use Rattle.bp_queue.specs.States.{class_of}
use Rattle.bp_queue.proofs.QueueLemmas.{class_list, class_only}
use Rattle.bp_queue.proofs.queues.length.Goals as goal

pub length-requires-clause-list : goal.length-requires-clause-list
length-requires-clause-list g c =
    rw c.list_of.ensures (λ kind. record { row = _; keeps = class_list c.requires.queues.keeps c.args.class })

pub returns-clause-told : goal.returns-clause-told
returns-clause-told g c =
    let blocks = (g.O.HasHeap.heap c.args.o.now).blocks in
    IfOk-weaker _ _ (Tells c.args.q.now (λ rows. length (class_of waiting_of c.args.class rows)) blocks)
    (λ value t. record {
      tells = λ next rows rest k.
          t.tells _ (class_list k c.args.class) ∙ length-map (class_of waiting_of c.args.class rows) class_element;
    })
    (rw c.list_of.ensures at c.length.ensures.given)

pub returns-clause-refused : goal.returns-clause-refused
returns-clause-refused g c =
    IfErr-weaker _ _ _ (λ stop m. class_only c.requires.queues.keeps c.args.class stop (rw c.list_of.ensures at m)) c.length.ensures.refused
