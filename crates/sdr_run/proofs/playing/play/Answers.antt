use Rattle.std.proofs.Common.{arith, subst}
use Rattle.sdr_core.specs.Going.{GoesUnasked}
use Rattle.sdr_machine.specs.Leaving.{AllLeave}
use Rattle.sdr_model.specs.declared.event.Leave.{Leave}
use Rattle.sdr_run.proofs.PlayingLemmas.{began_empty, plays_all, ran_printed}
use Rattle.sdr_run.specs.Playing.{IsPrinted, output}
use Rattle.sdr_run.specs.Printing.{behind}
use Rattle.sdr_run.proofs.playing.play.Goals as goal

pub leave_all-requires-clause-drawn : goal.leave_all-requires-clause-drawn
leave_all-requires-clause-drawn g c = omega (arith, c.requires.drawn, c.play_on-starved.ensures.drawn, c.roll.ensures.few)

pub returns-clause-plays : goal.returns-clause-plays
returns-clause-plays g c =
    let now = c.play_on-starved.new.run in
    let starved = c.play_on-starved.result in
    let seen = λ (out : g.row.K.Denot). output g.K.Sink.taken g.K.Sink.faults out in
    let first = seen c.args.out.now in
    let mid = behind (seen c.play_on-starved.new.out) c.play_on-starved.new.printer in
    let last = seen c.finish-printing.new.out in
    plays_all g.R.HasRun c.args.run.now now c.leave_all.new.run (g.S.Steps.left c.args.steps.now) starved c.finish-printing.result first last
    (ran_printed g.R.HasRun c.args.run.now (g.S.Steps.left c.args.steps.now) now starved
    (IsPrinted c.play_on-starved.new.printer.going (behind first c.new-printer.result) mid) (IsPrinted c.finish-printing.result first last)
    (λ text printed. c.finish-printing.ensures.prints first text c.play_on-starved.ensures.grows c.play_on-starved.ensures.later
    (began_empty c.play_on-starved.new.printer.going first mid c.new-printer.result.waiting.bytes text c.new-printer.ensures.empty printed))
    c.play_on-starved.ensures.ran)
    (subst (λ (leave : Leave). GoesUnasked g.R.HasRun (AllLeave (g.R.HasRun.told now) leave) now c.leave_all.new.run) c.leave_of.ensures c.leave_all.ensures.left)
