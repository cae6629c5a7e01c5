use Rattle.std.proofs.Common.{ap, map, sym, subst₂}
use Rattle.sdr_model.specs.Dry.{next_addr}
use Rattle.mem_store.specs.Owners.{IsOwned}
use Rattle.sdr_model.specs.Things.{block_for_element, inner_blocks}
use Rattle.mem_store.proofs.OwnersLemmas.{OwnsInside-set}
use Rattle.mem_calls.proofs.element_calls.set_element.Goals as goal

pub put-requires-clause-may_put : goal.put-requires-clause-may_put
put-requires-clause-may_put c =
    let taken = ap (λ w. w.taken) (sym (c.in_ok-row.ensures.again c.in_ok-row.field-0)) in
    OwnsInside-set _ _ _ block_for_element c.in-List.row.elements c.args.place c.in_ok-row.field-0 _
    (ap inner_blocks c.in-List.is) c.in_ok-row.ensures.may_put c.args.element
    (subst₂ (λ owners taken. IsOwned owners (next_addr taken) c.args.list c.args.element.block)
    (sym c.take.ensures.owners) taken c.requires.may_have)
    (ap (map block_for_element) c.set.ensures)
