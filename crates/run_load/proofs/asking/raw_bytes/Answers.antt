use Rattle.std.proofs.Common.{◌∙◌, sym, arith}
use Rattle.run_load.proofs.AskingLemmas.{asks_then, fails_then}
use Rattle.run_load.proofs.ReadingLemmas.{no_raw, raw_is_short, raw_measured}
use Rattle.sdr_machine.proofs.LockLemmas.{if_ok}
use Rattle.sdr_run.proofs.SettledLemmas.{on_err_more, on_ok_more}
use Rattle.run_load.proofs.asking.raw_bytes.Goals as goal

pub returns-then-raw-clause-bytes : goal.returns-then-raw-clause-bytes
returns-then-raw-clause-bytes g c =
    if_ok c.raw_length.result _ _ (λ told long v at.
    let s = c.in_ok-raw.ensures.asks.each v at in
    raw_measured v.now.world s.for.now.world c.args.addr told s.tells.now (sym (c.in_ok-raw.ensures.raw v at) ∙ c.if-raw.true)
    (λ bytes raw. long s.for bytes s.holds raw)) c.raw_length.ensures.long

pub returns-then-raw-clause-few : goal.returns-then-raw-clause-few
returns-then-raw-clause-few g c =
    let some = c.requires.ready.stands in
    let v = some.for in
    let s = c.in_ok-raw.ensures.asks.each v some.holds in
    if_ok c.raw_length.result _ _ (λ told long.
    let is = raw_measured v.now.world s.for.now.world c.args.addr told s.tells.now (sym (c.in_ok-raw.ensures.raw v some.holds) ∙ c.if-raw.true)
    (λ bytes raw. long s.for bytes s.holds raw) in
    omega (arith, is, raw_is_short v.now.world c.args.addr some.holds.stood.whole.valid)) c.raw_length.ensures.long

pub returns-then-raw-clause-asks : goal.returns-then-raw-clause-asks
returns-then-raw-clause-asks g c =
    on_ok_more c.raw_length.result _ _ (asks_then c.args.base.now c.is_raw.new.base c.raw_length.new.base c.in_ok-raw.ensures.asks) c.raw_length.ensures.asks

pub returns-then-raw-clause-fails : goal.returns-then-raw-clause-fails
returns-then-raw-clause-fails g c =
    on_err_more c.raw_length.result _ _ (fails_then c.args.base.now c.is_raw.new.base c.raw_length.new.base c.in_ok-raw.ensures.asks) c.raw_length.ensures.fails

pub returns-else-raw-clause-bytes : goal.returns-else-raw-clause-bytes
returns-else-raw-clause-bytes g c v at = sym (no_raw v.now.world c.args.addr (sym (c.in_ok-raw.ensures.raw v at) ∙ c.if-raw.false))
