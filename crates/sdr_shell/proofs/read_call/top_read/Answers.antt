use Rattle.std.proofs.Common.{List, Some, subst, sym}
use Rattle.sdr_forms.proofs.InputLemmas.{script_ran}
use Rattle.sdr_forms.proofs.OnHeapLemmas.{replay_tells, run_tells}
use Rattle.sdr_forms.proofs.ScriptRead.{had_script, read_to_the_end}
use Rattle.sdr_forms.specs.Answers.{seen}
use Rattle.sdr_forms.specs.Form.{form_on}
use Rattle.sdr_forms.specs.Running.{PrintsJournal}
use Rattle.sdr_forms.specs.Telling.{RunsOrNot}
use Rattle.sdr_forms.specs.declared.form.HeapForm.{HeapForm}
use Rattle.sdr_model.specs.declared.script.ScriptStep.{ScriptStep}
use Rattle.sdr_run.specs.Playing.{ReplaysSteps}
use Rattle.sdr_shell.proofs.AnsweringLemmas.{answers_replay, answers_run}
use Rattle.sdr_shell.specs.Words.{AnswersForm}
use Rattle.sdr_shell.proofs.read_call.top_read.Goals as goal

pub returns-in-Replay : goal.returns-in-Replay
returns-in-Replay g c before read =
    subst (λ (form : HeapForm). AnswersForm g.D.Disk g.M.Media g.S.Source g.K.Sink (Some (form_on form)) c.args.disk c.args.media before
    c.args.input.now c.args.output.now c.replay_script.new.output c.replay_script.result) (sym c.in-Replay.is)
    (answers_replay g.D.Disk g.M.Media g.S.Source g.K.Sink c.args.disk c.args.media before c.args.input.now c.args.output.now
    c.replay_script.new.output c.replay_script.result
    (script_ran g.D.Disk g.M.Media g.S.Source g.K.Sink ReplaysSteps replay_tells c.args.disk c.args.media before c.args.input.now
    c.args.output.now c.replay_script.new.output read.later read.reads read.each c.replay_script.ensures.later c.args.script c.replay_script.result
    (read_to_the_end _ _ _ read.reads_script) (had_script _ _ _ read.reads_script)
    (subst (λ (script : List ScriptStep). RunsOrNot g.D.Disk g.M.Media ReplaysSteps c.args.disk c.args.media script
    (seen g.K.Sink.taken g.K.Sink.faults c.args.output.now) (seen g.K.Sink.taken g.K.Sink.faults c.replay_script.new.output) c.replay_script.result)
    c.as_slice.ensures c.replay_script.ensures.runs)
    c.replay_script.ensures.media))

pub returns-in-Run : goal.returns-in-Run
returns-in-Run g c before read =
    subst (λ (form : HeapForm). AnswersForm g.D.Disk g.M.Media g.S.Source g.K.Sink (Some (form_on form)) c.args.disk c.args.media before
    c.args.input.now c.args.output.now c.run_scripts.new.output c.run_scripts.result) (sym c.in-Run.is)
    (answers_run g.D.Disk g.M.Media g.S.Source g.K.Sink c.args.disk c.args.media before c.args.input.now c.args.output.now
    c.run_scripts.new.output c.in-Run.totals c.run_scripts.result
    (script_ran g.D.Disk g.M.Media g.S.Source g.K.Sink (PrintsJournal c.in-Run.totals) (run_tells c.in-Run.totals) c.args.disk c.args.media before
    c.args.input.now c.args.output.now c.run_scripts.new.output read.later read.reads read.each c.run_scripts.ensures.later c.args.script
    c.run_scripts.result (read_to_the_end _ _ _ read.reads_script) (had_script _ _ _ read.reads_script) c.run_scripts.ensures.runs
    c.run_scripts.ensures.media))
