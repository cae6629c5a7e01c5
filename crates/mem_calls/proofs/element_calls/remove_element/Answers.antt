use Rattle.std.proofs.Common.{ap, map}
use Rattle.sdr_model.specs.Things.{block_for_element, inner_blocks}
use Rattle.mem_store.proofs.OwnersLemmas.{OwnsInside-removed}
use Rattle.mem_calls.proofs.element_calls.remove_element.Goals as goal

pub put-requires-clause-may_put : goal.put-requires-clause-may_put
put-requires-clause-may_put c =
    OwnsInside-removed _ _ _ block_for_element c.in-List.row.elements c.args.place c.in_ok-row.field-0 _
    (ap inner_blocks c.in-List.is) c.in_ok-row.ensures.may_put (ap (map block_for_element) c.remove.ensures)
