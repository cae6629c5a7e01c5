use Rattle.std.proofs.Common.{◌++◌, List, inl, inr, refl, subst}
use Rattle.std.specs.Io.KnownBytes.{Appends}
use Rattle.std.specs.Prelude.{codes}
use Rattle.sdr_base.specs.Written.{AppendsPart}
use Rattle.sdr_forms.proofs.ScriptRead.{bad_line_of, had_script, read_to_the_end}
use Rattle.sdr_forms.proofs.StillLemmas.{had_run, ran_reads, tells_refused, tells_starved}
use Rattle.sdr_model.specs.declared.script.ScriptStep.{ScriptStep}
use Rattle.sdr_core.specs.Caused.{media_change}
use Rattle.sdr_run.specs.Schedule.{RunsWhole}
use Rattle.sdr_forms.specs.Answers.{RanAsking, seen}
use Rattle.sdr_forms.specs.Still.{WritesOut}
use Rattle.sdr_forms.proofs.drying.dry_input.Goals as goal

pub returns-in-Ok-clause-done : goal.returns-in-Ok-clause-done
returns-in-Ok-clause-done g c is = record {
  read = read_to_the_end _ _ _ c.in-Ok.ensures.script;
  script = c.in-Ok.script;
  input = had_script _ _ _ c.in-Ok.ensures.script;
  run = subst (λ (steps : List ScriptStep). RunsWhole (media_change g.M.Media.told g.M.Media.faults g.M.Media.short c.args.media c.run_script.result.1)
      steps (Appends (g.K.Sink.taken c.args.output.now) (g.K.Sink.taken c.run_script.new.output))) c.as_slice.ensures (c.run_script.ensures.done is);
}

pub returns-in-Ok-clause-unread : goal.returns-in-Ok-clause-unread
returns-in-Ok-clause-unread g c none = absurd (ran_reads _ c.run_script.ensures.known none)

pub returns-in-Err-clause-starved : goal.returns-in-Err-clause-starved
returns-in-Err-clause-starved g c is = inl (refl, tells_starved c.in-Err.error _ _ _ _ _ c.tell.ensures.told is)

pub returns-in-Ok-clause-part : goal.returns-in-Ok-clause-part
returns-in-Ok-clause-part g c is =
    had_run _ _ c.in-Ok.script _ (λ rest text. AppendsPart (g.K.Sink.taken c.args.output.now) (g.K.Sink.taken c.run_script.new.output) text)
    (had_script _ _ _ c.in-Ok.ensures.script) c.as_slice.ensures (c.run_script.ensures.part is)

pub returns-in-Ok-clause-starved : goal.returns-in-Ok-clause-starved
returns-in-Ok-clause-starved g c is =
    inr (had_run _ _ c.in-Ok.script _
    (λ rest text. WritesOut (g.K.Sink.taken c.args.output.now) (g.K.Sink.taken c.run_script.new.output)
    (g.K.Sink.faults c.args.output.now) (g.K.Sink.faults c.run_script.new.output) (text ++ codes "no memory\n"))
    (had_script _ _ _ c.in-Ok.ensures.script) c.as_slice.ensures (c.run_script.ensures.starved is))

pub returns-in-Err-clause-refused : goal.returns-in-Err-clause-refused
returns-in-Err-clause-refused g c is =
    tells_refused c.in-Err.error _ _ _ _ _ _ c.tell.ensures.told is (bad_line_of _ _ _ c.in-Err.ensures.line)

pub returns-in-Ok-clause-asks : goal.returns-in-Ok-clause-asks
returns-in-Ok-clause-asks g c = inr (record {
  script = c.in-Ok.script;
  input = had_script _ _ _ c.in-Ok.ensures.script;
  ran = subst (λ (steps : List ScriptStep). RanAsking (g.M.Media.told c.args.media) steps (g.M.Media.asks c.args.media)
      (g.M.Media.asks c.run_script.result.1) (seen g.K.Sink.taken g.K.Sink.faults c.args.output.now)
      (seen g.K.Sink.taken g.K.Sink.faults c.run_script.new.output)) c.as_slice.ensures c.run_script.ensures.asks;
})

pub returns-in-Err-clause-asks : goal.returns-in-Err-clause-asks
returns-in-Err-clause-asks g c = inl refl
