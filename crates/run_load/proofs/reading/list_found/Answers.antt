use Rattle.std.proofs.Common.{◌∙◌, sym, ap}
use Rattle.std.specs.Option.{option_map}
use Rattle.std.specs.Prelude.{length}
use Rattle.run_load.proofs.AskingLemmas.{asks_then, fails_then, on_err, shows_twice}
use Rattle.run_load.proofs.FoundLemmas.{list_read, list_there, no_list, no_object}
use Rattle.run_load.specs.Listed.{list_at}
use Rattle.sdr_model.specs.World.{World}
use Rattle.sdr_model.specs.declared.things.SdrList.{SdrList}
use Rattle.run_load.proofs.reading.list_found.Goals as goal

pub returns-in_default-clause-list : goal.returns-in_default-clause-list
returns-in_default-clause-list g c v at = no_object v.now.world (sym (c.in_ok-list.ensures.found v at) ∙ c.in_default.is)

pub returns-in_default-2-clause-list : goal.returns-in_default-2-clause-list
returns-in_default-2-clause-list g c v at =
    let s = c.in_ok-list.ensures.asks.each v at in
    no_list v.now.world s.for.now.world c.in-Some.list (sym (c.in_ok-list.ensures.found v at) ∙ c.in-Some.is) s.tells.now
    (sym (c.in_ok-elements.ensures.counted s.for s.holds) ∙ c.in_default-2.is)

pub returns-in_default-2-clause-asks : goal.returns-in_default-2-clause-asks
returns-in_default-2-clause-asks g c =
    asks_then c.args.base.now c.find.new.base c.count.new.base c.in_ok-list.ensures.asks c.in_ok-elements.ensures.asks

pub returns-in_err-elements-clause-fails : goal.returns-in_err-elements-clause-fails
returns-in_err-elements-clause-fails g c =
    on_err c.from_residual-in_err-elements.result
    (fails_then c.args.base.now c.find.new.base c.count.new.base c.in_ok-list.ensures.asks c.in_err-elements.ensures.fails)

pub returns-in_err-bytes-clause-fails : goal.returns-in_err-bytes-clause-fails
returns-in_err-bytes-clause-fails g c =
    on_err c.from_residual-in_err-bytes.result
    (fails_then c.args.base.now c.count.new.base c.bytes_named.new.base
    (asks_then c.args.base.now c.find.new.base c.count.new.base c.in_ok-list.ensures.asks c.in_ok-elements.ensures.asks) c.in_err-bytes.ensures.fails)

pub returns-clause-list : goal.returns-clause-list
returns-clause-list g c v at =
    let s = c.in_ok-list.ensures.asks.each v at in
    let t = c.in_ok-elements.ensures.asks.each s.for s.holds in
    let has = list_there t.for.now.world c.in-Some.list c.in-Some-2.elements
    (ap (λ (w : World). option_map (λ (row : SdrList). length row.elements) (list_at w c.in-Some.list)) t.tells.now
    ∙ sym (c.in_ok-elements.ensures.counted s.for s.holds) ∙ c.in-Some-2.is) in
    list_read v.now.world t.for.now.world c.in-Some.list c.in-Some-2.elements c.in_ok-bytes.bytes (sym (c.in_ok-list.ensures.found v at) ∙ c.in-Some.is)
    (shows_twice v.now.world s.for.now.world t.for.now.world s.tells.now t.tells.now) has (c.in_ok-bytes.ensures.bytes t.for t.holds has)

pub returns-clause-asks : goal.returns-clause-asks
returns-clause-asks g c =
    asks_then c.args.base.now c.find.new.base c.bytes_named.new.base c.in_ok-list.ensures.asks
    (asks_then c.find.new.base c.count.new.base c.bytes_named.new.base c.in_ok-elements.ensures.asks c.in_ok-bytes.ensures.asks)
