use Rattle.std.proofs.Common.{◌≡◌, ◌++◌, [], ap}
use Rattle.std.proofs.KnownBytes.{Appends-trans}
use Rattle.std.specs.FinMap as map
use Rattle.sdr_buffer.proofs.WaitingLemmas.{grows_more, part_passed, passed_err, passed_ok}
use Rattle.sdr_buffer.specs.Waiting.{Waiting}
use Rattle.sdr_text.proofs.TextLemmas.{on_err, part_front, part_later}
use Rattle.sdr_text_world.specs.ThingText.{things_text}
use Rattle.sdr_text_world.specs.WorldText.{queues_text}
use Rattle.sdr_text_world.proofs.world.write_gathered.Goals as goal

pub returns-in_err-put_queues-clause-err : goal.returns-in_err-put_queues-clause-err
returns-in_err-put_queues-clause-err g c =
    let queues = queues_text c.args.world.now in
    let things = things_text c.args.world.now (map.entries c.args.world.now.things) in
    let none : c.new-waiting.result.bytes ≡ [] = ap (λ (w : Waiting). w.bytes) c.new-waiting.ensures in
    on_err _ (part_passed _ _ _ _ (queues ++ things) none c.put_queues.ensures.grows (part_front _ _ queues things c.in_err-put_queues.ensures.err))

pub returns-in_err-put_things-clause-err : goal.returns-in_err-put_things-clause-err
returns-in_err-put_things-clause-err g c =
    let queues = queues_text c.args.world.now in
    let things = things_text c.args.world.now (map.entries c.args.world.now.things) in
    let none : c.new-waiting.result.bytes ≡ [] = ap (λ (w : Waiting). w.bytes) c.new-waiting.ensures in
    on_err _
    (part_passed _ _ _ _ (queues ++ things) none (grows_more _ _ _ c.put_queues.ensures.grows c.put_things.ensures.grows)
    (part_later _ _ _ queues things c.in_ok-put_queues.ensures.ok c.in_err-put_things.ensures.err))

pub returns-clause-ok : goal.returns-clause-ok
returns-clause-ok g c =
    let queues = queues_text c.args.world.now in
    let things = things_text c.args.world.now (map.entries c.args.world.now.things) in
    let none : c.new-waiting.result.bytes ≡ [] = ap (λ (w : Waiting). w.bytes) c.new-waiting.ensures in
    passed_ok c.pass_on.result _ _ _ _ _ _ (queues ++ things) none (Appends-trans _ _ _ queues things c.in_ok-put_queues.ensures.ok c.in_ok-put_things.ensures.ok)
    c.pass_on.ensures.same c.pass_on.ensures.empty

pub returns-clause-err : goal.returns-clause-err
returns-clause-err g c =
    let queues = queues_text c.args.world.now in
    let things = things_text c.args.world.now (map.entries c.args.world.now.things) in
    let none : c.new-waiting.result.bytes ≡ [] = ap (λ (w : Waiting). w.bytes) c.new-waiting.ensures in
    passed_err c.pass_on.result _ _ _ _ _ _ (queues ++ things) none (Appends-trans _ _ _ queues things c.in_ok-put_queues.ensures.ok c.in_ok-put_things.ensures.ok)
    c.pass_on.ensures.same (grows_more _ _ _ c.put_queues.ensures.grows c.put_things.ensures.grows) c.pass_on.ensures.err
