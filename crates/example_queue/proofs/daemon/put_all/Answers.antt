-- Each put hands on what the next one needs.
use Rattle.std.proofs.Common.{[], ◌∷◌}
use Rattle.bp_queue.specs.declared.class.Class.TheVariants as classes
use Rattle.bp_queue.specs.States.{Waiting}
use Rattle.example_queue.proofs.daemon.put_all.Goals as goal

pub put-requires-2-clause-queues : goal.put-requires-2-clause-queues
put-requires-2-clause-queues g c =
    let law = c.bundles_keep.ensures in
    let out = c.args.outbox.now in
    let w : Waiting = record { item = c.in_ok-put.field-0; class = classes.Bulk; ordinal = 0; deadline = 50; object = out.telemetry } in
    law.queues _ _ _ _ (law.put out.queues (out.alarm ∷ out.command ∷ []) [] 9 w _ _ c.requires.bundles c.in_ok-put.ensures.put)

pub put-requires-3-clause-queues : goal.put-requires-3-clause-queues
put-requires-3-clause-queues g c =
    let law = c.bundles_keep.ensures in
    let out = c.args.outbox.now in
    let w : Waiting = record { item = c.in_ok-put.field-0; class = classes.Bulk; ordinal = 0; deadline = 50; object = out.telemetry } in
    let v : Waiting = record { item = c.in_ok-put-2.field-0; class = classes.Urgent; ordinal = 1; deadline = 30; object = out.command } in
    let first = law.put out.queues (out.alarm ∷ out.command ∷ []) [] 9 w _ _ c.requires.bundles c.in_ok-put.ensures.put in
    law.queues _ _ _ _ (law.put out.queues (out.alarm ∷ []) [] 6 v _ _ first c.in_ok-put-2.ensures.put)

pub returns-clause-bundles : goal.returns-clause-bundles
returns-clause-bundles g c =
    let law = c.bundles_keep.ensures in
    let out = c.args.outbox.now in
    let w : Waiting = record { item = c.in_ok-put.field-0; class = classes.Bulk; ordinal = 0; deadline = 50; object = out.telemetry } in
    let v : Waiting = record { item = c.in_ok-put-2.field-0; class = classes.Urgent; ordinal = 1; deadline = 30; object = out.command } in
    let u : Waiting = record { item = c.in_ok-put-3.field-0; class = classes.Urgent; ordinal = 9; deadline = 70; object = out.alarm } in
    let first = law.put out.queues (out.alarm ∷ out.command ∷ []) [] 9 w _ _ c.requires.bundles c.in_ok-put.ensures.put in
    let second = law.put out.queues (out.alarm ∷ []) [] 6 v _ _ first c.in_ok-put-2.ensures.put in
    law.put out.queues [] [] 3 u _ _ second c.in_ok-put-3.ensures.put
