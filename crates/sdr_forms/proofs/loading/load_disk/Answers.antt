use Rattle.std.proofs.Common.{rules}
use Rattle.sdr_core.proofs.CausedLemmas.{failed_ever}
use Rattle.sdr_forms.proofs.LoadLemmas.{answers_loaded, answers_unloaded}
use Rattle.sdr_forms.specs.Answers.{seen}
use Rattle.sdr_forms.proofs.loading.load_disk.Goals as goal

pub returns-in-Ok-clause-answers : goal.returns-in-Ok-clause-answers
returns-in-Ok-clause-answers g c =
    answers_loaded g.D.Disk g.M.Media c.args.rounds c.args.disk c.args.media c.in-Ok.loaded c.tell_load-status.result
    (seen g.K.Sink.taken g.K.Sink.faults c.args.output.now) (seen g.K.Sink.taken g.K.Sink.faults c.tell_load-status.new.output) c.in-Ok.ensures.ran
    c.tell_load-status.ensures.told

pub returns-in-Ok-clause-media : goal.returns-in-Ok-clause-media
returns-in-Ok-clause-media g c = failed_ever _ _ _ c.in-Ok.ensures.ran.on_heap.runs.0.caused

pub returns-in-Ok-clause-later : goal.returns-in-Ok-clause-later
returns-in-Ok-clause-later g c = (c.tell_load-status.ensures.later, c.in-Ok.ensures.ran.on_heap.leaves.later)

pub returns-in-Ok-clause-keeps : goal.returns-in-Ok-clause-keeps
returns-in-Ok-clause-keeps g c = c.in-Ok.ensures.ran.on_heap.leaves.keeps

pub returns-in-Err-clause-answers : goal.returns-in-Err-clause-answers
returns-in-Err-clause-answers g c =
    let r = c.without_journal.result in
    answers_unloaded g.D.Disk g.M.Media c.args.rounds c.args.disk r.disk c.args.media r.media r.journal c.in-Err.shut.why r.status
    (seen g.K.Sink.taken g.K.Sink.faults c.args.output.now) (seen g.K.Sink.taken g.K.Sink.faults c.tell_shut-status.new.output) (search rules) (search rules)
    (search rules) (search rules) (search rules)
