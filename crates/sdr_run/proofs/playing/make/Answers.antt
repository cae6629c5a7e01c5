use Rattle.std.proofs.Common.{inr}
use Rattle.std.proofs.lemmas.Result.{err_from_is_err_and}
use Rattle.sdr_run.proofs.PlayingLemmas.{answered_by, made_by_event}
use Rattle.sdr_run.specs.Playing.{PrintsMore, output}
use Rattle.sdr_run.specs.Printing.{behind}
use Rattle.sdr_run.specs.declared.printing.Printer.{Printer}
use Rattle.sdr_run.proofs.playing.make.Goals as goal

pub returns-clause-makes : goal.returns-clause-makes
returns-clause-makes g c =
    let seen = λ (out : g.row.K.Denot) (printer : Printer). behind (output g.K.Sink.taken g.K.Sink.faults out) printer in
    made_by_event g.R.HasRun c.args.bindings.now c.args.step.now _ c.in_ok-came.came c.args.run.now c.answer.new.run c.bind.new.self
    (PrintsMore c.args.printer.now.going c.answer.new.printer.going (seen c.args.out.now c.args.printer.now) (seen c.answer.new.out c.answer.new.printer)) c.in_ok-event.ensures
    c.in_ok-came.ensures.makes c.in_ok-came.ensures.prints c.in_ok-bind.ensures.ok

pub returns-in_err-bind-clause-err : goal.returns-in_err-bind-clause-err
returns-in_err-bind-clause-err g c =
    let seen = λ (out : g.row.K.Denot) (printer : Printer). behind (output g.K.Sink.taken g.K.Sink.faults out) printer in
    let answered = answered_by g.R.HasRun c.args.bindings.now c.args.step.now _ c.in_ok-came.came c.args.run.now c.answer.new.run
    (PrintsMore c.args.printer.now.going c.answer.new.printer.going (seen c.args.out.now c.args.printer.now) (seen c.answer.new.out c.answer.new.printer)) c.in_ok-event.ensures
    c.in_ok-came.ensures.makes c.in_ok-came.ensures.prints in
    let p = err_from_is_err_and c.from_residual-in_err-bind.result c.from_residual-in_err-bind.ensures.1 in
    rw (p.1) (inr answered)
