use Rattle.std.proofs.Common.{rules, inl, inr}
use Rattle.sdr_core.proofs.CausedLemmas.{failed_ever}
use Rattle.sdr_forms.specs.Answers.{seen}
use Rattle.sdr_forms.proofs.replaying.replay_script.Goals as goal

pub returns-in-Ok-clause-runs : goal.returns-in-Ok-clause-runs
returns-in-Ok-clause-runs g c = inr (record {
  failed = c.in-Ok.ran.failed;
  starved = c.in-Ok.ran.starved;
  printing = c.in-Ok.ran.printing;
  mid = seen g.K.Sink.taken g.K.Sink.faults c.replay.new.out;
  ran = c.in-Ok.ensures.ran.on_heap;
  failed_is = c.in-Ok.ensures.ran.failed;
  later = c.replay.ensures.later;
  tells = c.tell_ran-status.ensures.told;
})

pub returns-in-Err-clause-runs : goal.returns-in-Err-clause-runs
returns-in-Err-clause-runs g c = inl (record {
  why = c.in-Err.shut.why;
  not_run = search rules;
  unread = search rules;
  none = search rules;
  status = search rules;
  written = search rules;
})

pub returns-in-Ok-clause-media : goal.returns-in-Ok-clause-media
returns-in-Ok-clause-media g c = failed_ever _ _ _ c.in-Ok.ensures.ran.on_heap.runs.caused
