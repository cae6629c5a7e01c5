use Rattle.std.proofs.Common.{List, subst}
use Rattle.sdr_model.specs.declared.script.ScriptStep.{ScriptStep}
use Rattle.sdr_run.specs.Playing.{ReplaysSteps}
use Rattle.sdr_forms.specs.Answers.{seen}
use Rattle.sdr_forms.specs.Telling.{RunsOrNot}
use Rattle.sdr_forms.proofs.InputLemmas.{none_read, script_ran}
use Rattle.sdr_forms.proofs.OnHeapLemmas.{replay_tells}
use Rattle.sdr_forms.proofs.ScriptRead.{bad_line_of, had_script, read_to_the_end}
use Rattle.sdr_forms.proofs.replaying.replay_input.Goals as goal

pub returns-in-Ok : goal.returns-in-Ok
returns-in-Ok g c =
    let e = c.read_script.ensures in
    script_ran g.D.Disk g.M.Media g.S.Source g.K.Sink ReplaysSteps replay_tells c.args.disk c.args.media c.args.input.now c.read_script.new.source
    c.args.output.now c.replay_script.new.output e.later e.reads e.each c.replay_script.ensures.later c.in-Ok.script c.replay_script.result
    (read_to_the_end _ _ _ c.in-Ok.ensures.script) (had_script _ _ _ c.in-Ok.ensures.script)
    (subst (λ (script : List ScriptStep). RunsOrNot g.D.Disk g.M.Media ReplaysSteps c.args.disk c.args.media script
    (seen g.K.Sink.taken g.K.Sink.faults c.args.output.now) (seen g.K.Sink.taken g.K.Sink.faults c.replay_script.new.output) c.replay_script.result)
    c.as_slice.ensures c.replay_script.ensures.runs)
    c.replay_script.ensures.media

pub returns-in-Err : goal.returns-in-Err
returns-in-Err g c =
    let e = c.read_script.ensures in
    none_read g.D.Disk g.M.Media g.S.Source g.K.Sink ReplaysSteps replay_tells c.args.disk c.args.media c.args.input.now c.read_script.new.source
    c.args.output.now c.tell-status.new.output e.later e.reads e.each c.tell-status.ensures.later c.in-Err.error c.tell-status.result
    c.without_journal.result c.without_journal.ensures c.tell-status.ensures.told (bad_line_of _ _ _ c.in-Err.ensures.line)
    (λ is. c.in-Err.ensures.input (cc is))
