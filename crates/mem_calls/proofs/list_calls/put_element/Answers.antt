use Rattle.std.proofs.Common.{ap, map, sym, ◌∙◌}
use Rattle.std.specs.FinMap.{get}
use Rattle.sdr_model.specs.Dry.{next_addr}
use Rattle.sdr_model.specs.Things.{block_for_element, inner_blocks}
use Rattle.mem_store.proofs.OwnersLemmas.{MayPut-inserted}
use Rattle.mem_calls.proofs.list_calls.put_element.Goals as goal

pub put-requires-clause-may_put : goal.put-requires-clause-may_put
put-requires-clause-may_put c =
    MayPut-inserted block_for_element c.in-List.row.elements c.args.place c.args.element
    c.take.new.self c.count_blocks.new.self c.args.list
    c.in_ok-row.field-0 _ (ap inner_blocks c.in-List.is) c.in_ok-row.ensures.may_put
    (ap (λ w. w.taken) c.count_blocks.ensures.counted) c.count_blocks.ensures.owners
    (c.requires.next ∙ ap (λ w. next_addr w.taken) (sym (c.in_ok-row.ensures.again c.in_ok-row.field-0)))
    (ap (λ owners. get owners c.args.element.block) c.take.ensures.owners ∙ c.requires.noted)
    (ap (map block_for_element) c.in-Ok.ensures.ok)
