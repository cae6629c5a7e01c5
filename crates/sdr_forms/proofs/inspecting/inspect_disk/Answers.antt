use Rattle.sdr_forms.proofs.InspectLemmas.{inspect_answers, shown_answers}
use Rattle.sdr_forms.specs.Answers.{seen}
use Rattle.sdr_forms.specs.Inspecting.{InspectsTo}
use Rattle.sdr_forms.proofs.inspecting.inspect_disk.Goals as goal

pub returns-in-Ok-clause-answers : goal.returns-in-Ok-clause-answers
returns-in-Ok-clause-answers g c =
    let e = c.show.ensures in
    shown_answers g.D.Disk c.show.result c.args.disk.now c.survey_disk.new.disk
    (seen g.K.Sink.taken g.K.Sink.faults c.args.output.now) (seen g.K.Sink.taken g.K.Sink.faults c.show.new.output)
    c.in-Ok.survey.world c.in-Ok.survey.census c.in-Ok.ensures.reads c.in-Ok.ensures.given e.known e.text e.part e.output e.starved

pub returns-in-Err-clause-answers : goal.returns-in-Err-clause-answers
returns-in-Err-clause-answers g c =
    let e = c.tell_shut.ensures in
    inspect_answers g.D.Disk c.tell_shut.result c.args.disk.now c.survey_disk.new.disk
    (seen g.K.Sink.taken g.K.Sink.faults c.args.output.now) (seen g.K.Sink.taken g.K.Sink.faults c.tell_shut.new.output)
    (InspectsTo.shut c.in-Err.why e.status c.in-Err.ensures.why e.written) c.in-Err.ensures.reads
