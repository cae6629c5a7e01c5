use Rattle.std.proofs.Common.{rules, Err}
use Rattle.step_things.proofs.CallLemmas.{comes_answered, comes_stopped}
use Rattle.step_keyed.proofs.HashMaking.{hash_made, hash_unmade}
use Rattle.step_things.specs.Answering.{ComesInEach}
use Rattle.sdr_hash.specs.Calls.{CreateStops}
use Rattle.sdr_model.specs.declared.answer.Reply.TheVariants as replies
use Rattle.sdr_model.specs.declared.call.Call.TheVariants as calls
use Rattle.step_keyed.proofs.hashes.hash.Goals as goal

pub returns-in_err-addr-clause-comes : goal.returns-in_err-addr-clause-comes
returns-in_err-addr-clause-comes g c =
    let old = g.O.HasHeap.heap c.args.o.now in
    let new = g.O.HasHeap.heap c.create.new.o in
    let page = c.args.page.now in
    let fact : ComesInEach (calls.Hash c.args.key_length c.args.buckets) old new page page
    (Err c.in_err-addr.field-0.0) =
    comes_stopped (calls.Hash c.args.key_length c.args.buckets) old new page c.in_err-addr.field-0.0
    (CreateStops c.args.key_length c.args.buckets old new) c.in_err-addr.ensures.refused
    (λ w refusal stands served m. hash_unmade old new w c.requires.unmoved stands served c.args.key_length c.args.buckets page refusal m) in
    search rules

pub returns-clause-comes : goal.returns-clause-comes
returns-clause-comes g c =
    let old = g.O.HasHeap.heap c.args.o.now in
    let new = g.O.HasHeap.heap c.create.new.o in
    comes_answered (calls.Hash c.args.key_length c.args.buckets) old new c.args.page.now c.clear.new.self
    (replies.At c.in_ok-addr.addr) c.clear.ensures
    (λ w stands served. hash_made old new w c.requires.unmoved stands served c.args.key_length c.args.buckets c.in_ok-addr.addr c.in_ok-addr.ensures.made)
