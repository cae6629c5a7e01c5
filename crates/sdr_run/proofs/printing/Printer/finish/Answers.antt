use Rattle.std.proofs.Common.{append-nil, subst}
use Rattle.sdr_buffer.proofs.WaitingLemmas.{grows_more}
use Rattle.sdr_run.proofs.PlayingLemmas.{printed_out}
use Rattle.sdr_run.specs.Playing.{IsPrinted, output}
use Rattle.sdr_run.specs.Printing.{behind}
use Rattle.sdr_run.proofs.printing.Printer.finish.Goals as goal

pub returns-clause-prints : goal.returns-clause-prints
returns-clause-prints g c = λ first text grows below printed.
    let now = output g.K.Sink.taken g.K.Sink.faults c.pass_on.new.out in
    printed_out c.pass_on.new.self.going first now c.pass_on.new.self.waiting.bytes text c.pass_on.ensures.empty (grows_more _ _ _ grows c.pass_on.ensures.grows)
    (subst (IsPrinted c.pass_on.new.self.going first (behind now c.pass_on.new.self)) (append-nil text) (c.pass_on.ensures.prints first text below printed))
