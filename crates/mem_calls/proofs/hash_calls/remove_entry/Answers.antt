use Rattle.std.proofs.Common.{ap, map}
use Rattle.sdr_model.specs.Things.{entry_block, inner_blocks}
use Rattle.mem_store.proofs.OwnersLemmas.{OwnsInside-removed}
use Rattle.mem_calls.proofs.hash_calls.remove_entry.Goals as goal

pub put-requires-clause-may_put : goal.put-requires-clause-may_put
put-requires-clause-may_put c =
    OwnsInside-removed _ _ _ entry_block c.in-Hash.hash.entries c.args.place c.in_ok-hash.field-0 _
    (ap inner_blocks c.in-Hash.is) c.in_ok-hash.ensures.may_put
    (ap (λ hash. map entry_block hash.entries) c.remove.ensures)
