use Rattle.std.proofs.Common.{sym, subst}
use Rattle.sdr_forms.specs.Answers.{Wrote, seen}
use Rattle.sdr_forms.specs.Shutting.{line_shut}
use Rattle.sdr_station.specs.declared.error.OpenError.{OpenError}
use Rattle.sdr_forms.proofs.shutting.tell_shut.Goals as goal

pub returns-in-NotFormatted-clause-written : goal.returns-in-NotFormatted-clause-written
returns-in-NotFormatted-clause-written g c =
    subst (λ (why : OpenError). Wrote (seen g.K.Sink.taken g.K.Sink.faults c.args.output.now)
    (seen g.K.Sink.taken g.K.Sink.faults c.last_line.new.output) (line_shut why)) (sym c.in-NotFormatted.is) c.last_line.ensures.written

pub returns-in-DiskFault-clause-written : goal.returns-in-DiskFault-clause-written
returns-in-DiskFault-clause-written g c =
    subst (λ (why : OpenError). Wrote (seen g.K.Sink.taken g.K.Sink.faults c.args.output.now)
    (seen g.K.Sink.taken g.K.Sink.faults c.last_line-in-DiskFault.new.output) (line_shut why)) (sym c.in-DiskFault.is) c.last_line-in-DiskFault.ensures.written
