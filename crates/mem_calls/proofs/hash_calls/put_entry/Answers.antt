use Rattle.std.proofs.Common.{ap, map, sym, ◌∙◌}
use Rattle.std.specs.FinMap.{get}
use Rattle.sdr_model.specs.Dry.{next_addr}
use Rattle.sdr_model.specs.HashSteps.{bucket_place}
use Rattle.sdr_model.specs.Things.{entry_block, inner_blocks}
use Rattle.mem_store.proofs.OwnersLemmas.{MayPut-inserted}
use Rattle.mem_calls.proofs.hash_calls.put_entry.Goals as goal

pub put-requires-clause-may_put : goal.put-requires-clause-may_put
put-requires-clause-may_put c =
    MayPut-inserted entry_block c.in-Hash.hash.entries (bucket_place c.in-Hash.hash c.args.entry.key) c.args.entry
    c.take.new.self c.count_blocks.new.self c.args.addr
    c.in_ok-hash.field-0 _ (ap inner_blocks c.in-Hash.is) c.in_ok-hash.ensures.may_put
    (ap (λ w. w.taken) c.count_blocks.ensures.counted) c.count_blocks.ensures.owners
    (c.requires.next ∙ ap (λ w. next_addr w.taken) (sym (c.in_ok-hash.ensures.again c.in_ok-hash.field-0)))
    (ap (λ owners. get owners c.args.entry.block) c.take.ensures.owners ∙ c.requires.noted)
    (ap (λ hash. map entry_block hash.entries) c.in-Ok.ensures.inserted)
