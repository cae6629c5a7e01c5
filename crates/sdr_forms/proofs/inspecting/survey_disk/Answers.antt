use Rattle.sdr_audit.specs.declared.reading.Survey.{Survey}
use Rattle.sdr_forms.proofs.InspectLemmas.{gives_told, small_told, unsound_explained}
use Rattle.sdr_forms.proofs.inspecting.survey_disk.Goals as goal

pub returns-in-Ok-read_survey-clause-given : goal.returns-in-Ok-read_survey-clause-given
returns-in-Ok-read_survey-clause-given g c =
    let e = c.in-Ok-read_survey.ensures in
    gives_told (g.D.Disk.bytes c.args.disk.now) c.in-Ok.still c.in-Ok-read_survey.survey.world c.in-Ok-read_survey.survey.census
    c.in-Ok.ensures.heap e.world e.stands e.census

pub returns-in-Ok-read_survey-clause-small : goal.returns-in-Ok-read_survey-clause-small
returns-in-Ok-read_survey-clause-small g c =
    let e = c.in-Ok-read_survey.ensures in
    small_told c.in-Ok.still c.in-Ok-read_survey.survey.world e.world e.stands e.right.bytes_are

pub returns-clause-why : goal.returns-clause-why
returns-clause-why g c =
    let e = c.in-Err-read_survey.ensures in
    unsound_explained Survey (g.D.Disk.bytes c.args.disk.now) (g.D.Disk.faults c.args.disk.now) (g.D.Disk.faults c.peek.new.disk)
    c.in-Ok.still c.in-Err-read_survey.error c.why_unsound.result c.why_unsound.ensures c.in-Ok.ensures.heap e.damaged e.none e.reads.cause
