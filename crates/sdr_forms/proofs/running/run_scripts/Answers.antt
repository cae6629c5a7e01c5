use Rattle.std.proofs.Common.{rules, ◌++◌, List, inl, inr, subst}
use Rattle.sdr_core.proofs.CausedLemmas.{failed_ever}
use Rattle.sdr_model.specs.declared.journal.Entry.{Entry}
use Rattle.sdr_run.specs.Playing.{IsPrinted}
use Rattle.sdr_forms.proofs.OnHeapLemmas.{ran_printed}
use Rattle.sdr_forms.specs.Answers.{output_of, seen}
use Rattle.sdr_forms.specs.Running.{line_asked}
use Rattle.sdr_text.specs.JournalText.{journal_text}
use Rattle.sdr_forms.proofs.running.run_scripts.Goals as goal

pub returns-in-Ok-clause-runs : goal.returns-in-Ok-clause-runs
returns-in-Ok-clause-runs g c =
    let old = seen g.K.Sink.taken g.K.Sink.faults c.args.output.now in
    let mid = seen g.K.Sink.taken g.K.Sink.faults c.print_run-printing.new.output in
    inr (record {
      failed = c.in-Ok.ran.failed;
      starved = c.in-Ok.ran.starved;
      printing = c.print_run-printing.result;
      mid = mid;
      ran = ran_printed g.D.Disk g.M.Media c.args.disk c.args.media c.args.script c.in-Ok.ran c.args.totals c.print_run-printing.result old mid c.in-Ok.ensures.ran
          (subst (λ (journal : List Entry). IsPrinted c.print_run-printing.result (output_of old) (output_of mid) (journal_text journal ++ line_asked c.args.totals c.in-Ok.ran.totals))
          c.as_slice.ensures c.print_run-printing.ensures.printed);
      failed_is = c.in-Ok.ensures.ran.failed;
      later = c.print_run-printing.ensures.later;
      tells = c.tell_ran-status.ensures.told;
    })

pub returns-in-Err-clause-runs : goal.returns-in-Err-clause-runs
returns-in-Err-clause-runs g c = inl (record {
  why = c.in-Err.shut.why;
  not_run = search rules;
  unread = search rules;
  none = search rules;
  status = search rules;
  written = search rules;
})

pub returns-in-Ok-clause-media : goal.returns-in-Ok-clause-media
returns-in-Ok-clause-media g c = failed_ever _ _ _ c.in-Ok.ensures.ran.on_heap.runs.caused
