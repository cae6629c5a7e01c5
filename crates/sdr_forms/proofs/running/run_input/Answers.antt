use Rattle.sdr_forms.specs.Running.{PrintsJournal}
use Rattle.sdr_forms.proofs.InputLemmas.{none_read, script_ran}
use Rattle.sdr_forms.proofs.OnHeapLemmas.{run_tells}
use Rattle.sdr_forms.proofs.ScriptRead.{bad_line_of, had_script, read_to_the_end}
use Rattle.sdr_forms.proofs.running.run_input.Goals as goal

pub returns-in-Ok : goal.returns-in-Ok
returns-in-Ok g c =
    let e = c.read_script.ensures in
    script_ran g.D.Disk g.M.Media g.S.Source g.K.Sink (PrintsJournal c.args.totals) (run_tells c.args.totals) c.args.disk c.args.media c.args.input.now c.read_script.new.source
    c.args.output.now c.run_scripts.new.output e.later e.reads e.each c.run_scripts.ensures.later c.in-Ok.script c.run_scripts.result
    (read_to_the_end _ _ _ c.in-Ok.ensures.script) (had_script _ _ _ c.in-Ok.ensures.script) c.run_scripts.ensures.runs
    c.run_scripts.ensures.media

pub returns-in-Err : goal.returns-in-Err
returns-in-Err g c =
    let e = c.read_script.ensures in
    none_read g.D.Disk g.M.Media g.S.Source g.K.Sink (PrintsJournal c.args.totals) (run_tells c.args.totals) c.args.disk c.args.media c.args.input.now c.read_script.new.source
    c.args.output.now c.tell-status.new.output e.later e.reads e.each c.tell-status.ensures.later c.in-Err.error c.tell-status.result
    c.without_journal.result c.without_journal.ensures c.tell-status.ensures.told (bad_line_of _ _ _ c.in-Err.ensures.line)
    (λ is. c.in-Err.ensures.input (cc is))
