use Rattle.std.proofs.Common.{◌∙◌, ap, arith, not, sym, subst}
use Rattle.sdr_core.specs.CoreKept.{LoggedLock}
use Rattle.sdr_core.specs.Leaving.{LastsOn}
use Rattle.sdr_machine.specs.Crash.{is_sound}
use Rattle.sdr_run.proofs.RecordingLemmas.{plays_out}
use Rattle.sdr_run.specs.Playing.{output}
use Rattle.sdr_run.proofs.recording.play_recorded.Goals as goal

pub play-starved-requires-clause-drawn : goal.play-starved-requires-clause-drawn
play-starved-requires-clause-drawn g c =
    omega (arith, ap (λ (k : LoggedLock g.row.T.Denot). k.lock.roll.drawn) c.in-Ok.ensures.made, c.requires.steps)

pub play-starved-requires-clause-lasts : goal.play-starved-requires-clause-lasts
play-starved-requires-clause-lasts g c =
    subst (λ (x : g.row.T.Denot). LastsOn g.T.HasGround x) (sym (ap (λ (k : LoggedLock g.row.T.Denot). k.lock.base) c.in-Ok.ensures.made)) c.requires.lasts

pub returns-clause-ran : goal.returns-clause-ran
returns-clause-ran g c =
    plays_out g.T.HasGround g.J.Origin.begins c.args.base (g.S.Steps.left c.args.steps.now) c.args.daemons.now c.in-Ok.core c.play-starved.new.run c.play-starved.result
    (output g.K.Sink.taken g.K.Sink.faults c.args.out.now) (output g.K.Sink.taken g.K.Sink.faults c.play-starved.new.out) c.finish-journal.result.0 c.finish-journal.result.1
    (not c.is_sound-failed.result) c.requires.named c.requires.begins c.in-Ok.ensures.made c.play-starved.ensures.plays c.finish-journal.ensures.journal c.finish-journal.ensures.base
    c.finish-journal.ensures.run
    (c.finish-journal.ensures.ended c.play-starved.ensures.none) (ap not (c.is_sound-failed.ensures ∙ ap is_sound c.as_slice.ensures))
