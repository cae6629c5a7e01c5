use Rattle.sdr_forms.specs.Answers.{seen}
use Rattle.sdr_forms.proofs.RecoverLemmas.{opened_answers, shut_answers}
use Rattle.sdr_forms.proofs.recovering.recover_disk.Goals as goal

pub returns-in-Ok-clause-answers : goal.returns-in-Ok-clause-answers
returns-in-Ok-clause-answers g c =
    let e = c.tell_recovered-status.ensures in
    opened_answers g.D.Disk c.tell_recovered-status.result c.args.disk c.into_parts-disk.result.0
    (seen g.K.Sink.taken g.K.Sink.faults c.args.output.now) (seen g.K.Sink.taken g.K.Sink.faults c.tell_recovered-status.new.output)
    c.in-Ok.ground c.restored.result c.restored.ensures c.into_parts-disk.ensures.disk c.in-Ok.ensures.opened c.in-Ok.ensures.any_moment c.in-Ok.ensures.quiet e.known e.text e.part e.output

pub returns-in-Err-clause-answers : goal.returns-in-Err-clause-answers
returns-in-Err-clause-answers g c =
    shut_answers g.D.Disk c.tell_shut-status.result c.args.disk c.in-Err.field-0.disk c.in-Err.field-0.why
    (seen g.K.Sink.taken g.K.Sink.faults c.args.output.now) (seen g.K.Sink.taken g.K.Sink.faults c.tell_shut-status.new.output)
    c.tell_shut-status.ensures.status
    (record {
      explained = c.in-Err.ensures.why;
      bytes = c.in-Err.ensures.bytes;
      outside = c.in-Err.ensures.inside;
      again = c.in-Err.ensures.again;
    }) c.in-Err.ensures.any_moment c.in-Err.ensures.quiet c.tell_shut-status.ensures.written
