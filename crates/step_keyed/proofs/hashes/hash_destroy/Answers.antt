use Rattle.std.proofs.Common.{arith, rules, Err}
use Rattle.step_things.proofs.CallLemmas.{comes_answered, comes_stopped}
use Rattle.step_keyed.proofs.HashChanging.{destroyed, undestroyed}
use Rattle.step_keyed.proofs.HashLemmas.{room_for_hash}
use Rattle.step_things.proofs.ListLemmas.{IsSmall}
use Rattle.step_things.specs.Answering.{ComesInEach}
use Rattle.sdr_hash.specs.Destroying.{DestroyStops}
use Rattle.sdr_model.specs.declared.answer.Reply.TheVariants as replies
use Rattle.sdr_model.specs.declared.call.Call.TheVariants as calls
use Rattle.step_keyed.proofs.hashes.hash_destroy.Goals as goal

pub destroy-requires-clause-spare : goal.destroy-requires-clause-spare
destroy-requires-clause-spare g c =
    let old = g.O.HasHeap.heap c.args.o.now in
    let small : IsSmall old = record
    { few = g.met.O.Objects.few c.args.o.now c.requires.kept; small = g.met.O.Objects.small c.args.o.now c.requires.kept } in
    let few = room_for_hash old c.args.hash small c.requires.hash in
    omega (arith, few, c.requires.spare)

pub returns-in_err-destroy-clause-comes : goal.returns-in_err-destroy-clause-comes
returns-in_err-destroy-clause-comes g c =
    let old = g.O.HasHeap.heap c.args.o.now in
    let new = g.O.HasHeap.heap c.destroy.new.o in
    let page = c.args.page.now in
    let fact : ComesInEach (calls.HashDestroy c.args.hash) old new page page (Err c.in_err-destroy.field-0.0) =
    comes_stopped (calls.HashDestroy c.args.hash) old new page c.in_err-destroy.field-0.0
    (DestroyStops c.args.hash old new) c.in_err-destroy.ensures.refused
    (λ w refusal stands served m. undestroyed old new w c.requires.unmoved stands served c.args.hash page refusal m) in
    search rules

pub returns-clause-comes : goal.returns-clause-comes
returns-clause-comes g c =
    let old = g.O.HasHeap.heap c.args.o.now in
    let new = g.O.HasHeap.heap c.destroy.new.o in
    comes_answered (calls.HashDestroy c.args.hash) old new c.args.page.now c.clear.new.self
    (replies.Done) c.clear.ensures
    (λ w stands served. destroyed old new w c.requires.unmoved stands served c.args.hash c.in_ok-destroy.ensures.destroyed)
