use Rattle.std.proofs.Common.{arith}
use Rattle.run_load.proofs.AskingLemmas.{asks_then, fails_then, on_err}
use Rattle.run_load.proofs.ReadingLemmas.{reads_all, reads_first, reads_next}
use Rattle.run_load.proofs.reading.bytes_named.Goals as goal

pub loop-init : goal.loop-init
loop-init g c =
    reads_first c.args.list c.args.elements c.args.base.now c.first.new.base c.in_ok-element.element c.in_ok-element.ensures.asks
    c.in_ok-element.ensures.first

pub loop-preserved : goal.loop-preserved
loop-preserved g c =
    reads_next c.args.list c.args.elements c.args.base.now c.loop.base c.loop.counter c.loop.element c.loop.bytes c.loop.invariant (omega arith)
    c.datum.new.base c.raw_bytes.new.base c.next.new.base c.in_ok-named.named c.in_ok-more.more c.in_ok-element-2.element
    c.in_ok-named.ensures.datum c.in_ok-named.ensures.asks c.in_ok-more.ensures.bytes c.in_ok-more.ensures.few c.in_ok-more.ensures.asks
    c.in_ok-element-2.ensures.next c.in_ok-element-2.ensures.asks

pub overflow_add-bytes : goal.overflow_add-bytes
overflow_add-bytes g c = omega (arith, c.loop.invariant.few, c.in_ok-more.ensures.few, c.requires.few)

pub returns-in_err-named-clause-fails : goal.returns-in_err-named-clause-fails
returns-in_err-named-clause-fails g c =
    on_err c.from_residual-in_err-named.result
    (fails_then c.args.base.now c.loop.base c.datum.new.base c.loop.invariant.asks c.in_err-named.ensures.fails)

pub returns-in_err-more-clause-fails : goal.returns-in_err-more-clause-fails
returns-in_err-more-clause-fails g c =
    on_err c.from_residual-in_err-more.result
    (fails_then c.args.base.now c.datum.new.base c.raw_bytes.new.base
    (asks_then c.args.base.now c.loop.base c.datum.new.base c.loop.invariant.asks c.in_ok-named.ensures.asks) c.in_err-more.ensures.fails)

pub returns-in_err-element-2-clause-fails : goal.returns-in_err-element-2-clause-fails
returns-in_err-element-2-clause-fails g c =
    on_err c.from_residual-in_err-element-2.result
    (fails_then c.args.base.now c.raw_bytes.new.base c.next.new.base
    (asks_then c.args.base.now c.datum.new.base c.raw_bytes.new.base
    (asks_then c.args.base.now c.loop.base c.datum.new.base c.loop.invariant.asks c.in_ok-named.ensures.asks) c.in_ok-more.ensures.asks)
    c.in_err-element-2.ensures.fails)

pub returns-clause-bytes : goal.returns-clause-bytes
returns-clause-bytes g c v at has =
    reads_all c.args.list c.args.elements c.loop.counter c.loop.element c.loop.bytes c.args.base.now c.loop.base c.loop.invariant (omega arith) v at has

pub returns-clause-asks : goal.returns-clause-asks
returns-clause-asks g c = c.loop.invariant.asks
