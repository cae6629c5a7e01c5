use Rattle.std.proofs.Common.{◌≡◌, ◌++◌, List, OnErr, OnOk, ap, append_assoc, subst, sym, ℕ}
use Rattle.std.proofs.KnownBytes.{Appends-trans}
use Rattle.std.specs.FinMap as map
use Rattle.std.specs.Io.KnownBytes.{Appends}
use Rattle.sdr_base.specs.Written.{AppendsPart}
use Rattle.sdr_text.proofs.TextLemmas.{on_err, part_front, part_later}
use Rattle.sdr_text.proofs.PartLemmas.{part_behind, whole_behind}
use Rattle.sdr_text_world.specs.ThingText.{things_text}
use Rattle.sdr_text_world.specs.WorldText.{blocks_line, front_text, queues_text}
use Rattle.sdr_text_world.proofs.world.write_counted.Goals as goal

-- a world's text, of which the two middle pieces are one
pieces : (front queues things blocks : List ℕ) → (front ++ (queues ++ things)) ++ blocks ≡ front ++ queues ++ things ++ blocks
pieces front queues things blocks = ap (λ l. l ++ blocks) (sym (append_assoc front queues things))

pub returns-in_err-write_front-clause-err : goal.returns-in_err-write_front-clause-err
returns-in_err-write_front-clause-err g c =
    let front = front_text c.args.world.now c.args.census.now in
    let queues = queues_text c.args.world.now in
    let things = things_text c.args.world.now (map.entries c.args.world.now.things) in
    on_err _
    (part_front _ _ (front ++ queues ++ things) (blocks_line c.args.census.now)
    (part_front _ _ (front ++ queues) things (part_front _ _ front queues c.in_err-write_front.ensures.err)))

pub returns-in_err-write_gathered-clause-err : goal.returns-in_err-write_gathered-clause-err
returns-in_err-write_gathered-clause-err g c =
    let front = front_text c.args.world.now c.args.census.now in
    let queues = queues_text c.args.world.now in
    let things = things_text c.args.world.now (map.entries c.args.world.now.things) in
    let blocks = blocks_line c.args.census.now in
    on_err _
    (subst (λ (text : List ℕ). AppendsPart (g.K.Sink.taken c.args.out.now) (g.K.Sink.taken c.write_gathered.new.out) text) (pieces front queues things blocks)
    (part_front _ _ (front ++ (queues ++ things)) blocks
    (part_later _ _ _ front (queues ++ things) c.in_ok-write_front.ensures.ok c.in_err-write_gathered.ensures.err)))

pub returns-clause-ok : goal.returns-clause-ok
returns-clause-ok g c =
    let front = front_text c.args.world.now c.args.census.now in
    let queues = queues_text c.args.world.now in
    let things = things_text c.args.world.now (map.entries c.args.world.now.things) in
    let blocks = blocks_line c.args.census.now in
    subst (λ (text : List ℕ). OnOk c.write_blocks.result (Appends (g.K.Sink.taken c.args.out.now) (g.K.Sink.taken c.write_blocks.new.out) text)) (pieces front queues things blocks)
    (whole_behind c.write_blocks.result _ _ _ (front ++ (queues ++ things)) blocks
    (Appends-trans _ _ _ front (queues ++ things) c.in_ok-write_front.ensures.ok c.in_ok-write_gathered.ensures.ok) c.write_blocks.ensures.ok)

pub returns-clause-err : goal.returns-clause-err
returns-clause-err g c =
    let front = front_text c.args.world.now c.args.census.now in
    let queues = queues_text c.args.world.now in
    let things = things_text c.args.world.now (map.entries c.args.world.now.things) in
    let blocks = blocks_line c.args.census.now in
    subst (λ (text : List ℕ). OnErr c.write_blocks.result (AppendsPart (g.K.Sink.taken c.args.out.now) (g.K.Sink.taken c.write_blocks.new.out) text)) (pieces front queues things blocks)
    (part_behind c.write_blocks.result _ _ _ (front ++ (queues ++ things)) blocks
    (Appends-trans _ _ _ front (queues ++ things) c.in_ok-write_front.ensures.ok c.in_ok-write_gathered.ensures.ok) c.write_blocks.ensures.err)
