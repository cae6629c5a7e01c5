use Rattle.std.proofs.Common.{subst, sym}
use Rattle.sdr_model.specs.declared.things.Thing.TheVariants as things
use Rattle.mem_store.specs.Owners.{MayPut}
use Rattle.mem_zco_calls.proofs.PartCallLemmas.{owned-without_header}
use Rattle.mem_zco_calls.proofs.part_calls.discard_first_header.Goals as goal

pub put_and_serve-requires-clause-may_put : goal.put_and_serve-requires-clause-may_put
put_and_serve-requires-clause-may_put c =
    let z = c.in-Object.object in
    subst (λ headers. MayPut c.take.new.self c.args.addr (things.Object (record z { headers = headers }))) (sym c.remove.ensures)
    (owned-without_header _ _ c.args.addr z (subst (MayPut c.take.new.self c.args.addr) c.in-Object.is c.in_ok-object.ensures.may_put))
