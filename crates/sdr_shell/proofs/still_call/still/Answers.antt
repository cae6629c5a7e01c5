use Rattle.std.proofs.Common.{rules, ◌≡◌, Bool, None, Some, ap, refl}
use Rattle.sdr_shell.proofs.AnsweringLemmas.{answers_dry, answers_format, answers_inspect, answers_load, answers_recover, answers_replay, answers_usage, form_at, unrun}
use Rattle.sdr_forms.proofs.StillLemmas.{dry_completes, format_completes, not_run, spells_none}
use Rattle.sdr_forms.specs.Answers.{AnswersDry, AnswersFormat, seen}
use Rattle.sdr_forms.specs.Form.{form_of, still_form}
use Rattle.sdr_forms.specs.declared.form.Form.TheVariants.{Dry, Format, Inspect, Load, Recover, Replay, Run}
use Rattle.sdr_forms.specs.declared.status.TheConstants.{USAGE}
use Rattle.sdr_shell.proofs.still_call.still.Goals as goal

pub returns-in-Some-Dry : goal.returns-in-Some-Dry
returns-in-Some-Dry g c =
    let source = seen g.S.Source.left g.S.Source.faults c.args.input.now in
    let source' = seen g.S.Source.left g.S.Source.faults c.dry_input-status.new.input in
    let sink = seen g.K.Sink.taken g.K.Sink.faults c.args.output.now in
    let sink' = seen g.K.Sink.taken g.K.Sink.faults c.dry_input-status.new.output in
    let e = c.dry_input-status.ensures in
    let answers : AnswersDry g.M.Media c.dry_input-status.result.0 source source' c.args.media c.dry_input-status.result.1 sink sink' = record {
      known = e.known;
      done = e.done;
      asks = e.asks;
      unread = e.unread;
      input = e.input;
      input_text = e.input_text;
      output = e.output;
      part = e.part;
      refused = e.refused;
      starved = e.starved;
      exact = λ bytes told refused. (λ is. spells_none _ bytes _ told refused (e.done is).input, λ is. not_run _ bytes _ _ told refused (e.part is));
      complete = λ bytes told ok no_input no_output. dry_completes _ _ _ _ _ _ _ _ bytes e.known e.input e.output e.refused told ok no_input no_output;
    } in
    let form : form_of c.args.words.now ≡ Some Dry = search rules in
    form_at g.D.Disk g.M.Media g.S.Source g.K.Sink c.args.disk c.args.media c.args.input.now c.dry_input-status.new.input c.args.output.now
    c.dry_input-status.new.output (still_form (form_of c.args.words.now)) (Some Dry) c.without_journal.result (unrun c.dry_input-status.result.0 c.args.disk c.dry_input-status.result.1) (ap still_form form) c.without_journal.ensures
    (answers_dry g.D.Disk g.M.Media g.S.Source g.K.Sink c.args.disk c.args.media c.args.input.now c.dry_input-status.new.input c.args.output.now
    c.dry_input-status.new.output c.dry_input-status.result.0 c.dry_input-status.result.1 answers e.later e.reads e.each e.media)

pub returns-in-Some-Format : goal.returns-in-Some-Format
returns-in-Some-Format g c =
    let sink = seen g.K.Sink.taken g.K.Sink.faults c.args.output.now in
    let sink' = seen g.K.Sink.taken g.K.Sink.faults c.format_disk-status.new.output in
    let e = c.format_disk-status.ensures in
    let frame = c.in-Some-Format.frame in
    let answers : AnswersFormat g.D.Disk c.format_disk-status.result frame c.args.disk c.format_disk-status.new.disk sink sink' = record {
      known = e.known;
      formatted = e.formatted;
      text = e.text;
      output = e.output;
      part = e.part;
      small = e.small;
      small_text = e.small_text;
      fault = e.fault;
      fault_text = e.fault_text;
      complete = λ enough no_disk no_output. format_completes _ _ _ _ _ _ _ e.known e.small e.fault e.output enough no_disk no_output;
    } in
    let form : form_of c.args.words.now ≡ Some (Format frame) = cc (c.in-Some-Format.ensures.form) in
    form_at g.D.Disk g.M.Media g.S.Source g.K.Sink c.args.disk c.args.media c.args.input.now c.args.input.now c.args.output.now
    c.format_disk-status.new.output (still_form (form_of c.args.words.now)) (Some (Format frame)) c.without_journal-in-Some-Format.result
    (unrun c.format_disk-status.result c.format_disk-status.new.disk c.args.media) (ap still_form form)
    c.without_journal-in-Some-Format.ensures
    (answers_format g.D.Disk g.M.Media g.S.Source g.K.Sink c.args.disk c.args.media c.args.input.now c.args.input.now c.args.output.now
    c.format_disk-status.new.output frame c.format_disk-status.result c.format_disk-status.new.disk answers e.synced e.later e.same e.keeps)

pub returns-in-Some-Replay : goal.returns-in-Some-Replay
returns-in-Some-Replay g c =
    let form : form_of c.args.words.now ≡ Some Replay = search rules in
    form_at g.D.Disk g.M.Media g.S.Source g.K.Sink c.args.disk c.args.media c.args.input.now c.replay_input.new.input c.args.output.now
    c.replay_input.new.output (still_form (form_of c.args.words.now)) (Some Replay) c.replay_input.result c.replay_input.result (ap still_form form) refl
    (answers_replay g.D.Disk g.M.Media g.S.Source g.K.Sink c.args.disk c.args.media c.args.input.now c.replay_input.new.input c.args.output.now
    c.replay_input.new.output c.replay_input.result c.replay_input.ensures)

pub returns-in-Some-Load : goal.returns-in-Some-Load
returns-in-Some-Load g c =
    let rounds = c.in-Some-Load.rounds in
    let e = c.load_disk.ensures in
    let form : form_of c.args.words.now ≡ Some (Load rounds) = cc (c.in-Some-Load.ensures.form) in
    form_at g.D.Disk g.M.Media g.S.Source g.K.Sink c.args.disk c.args.media c.args.input.now c.args.input.now c.args.output.now
    c.load_disk.new.output (still_form (form_of c.args.words.now)) (Some (Load rounds)) c.load_disk.result c.load_disk.result (ap still_form form) refl
    (answers_load g.D.Disk g.M.Media g.S.Source g.K.Sink c.args.disk c.args.media c.args.input.now c.args.input.now c.args.output.now
    c.load_disk.new.output rounds c.load_disk.result e.answers e.media e.later e.keeps)

pub returns-in-Some-Recover : goal.returns-in-Some-Recover
returns-in-Some-Recover g c =
    let e = c.recover_disk-status.ensures in
    let form : form_of c.args.words.now ≡ Some Recover = search rules in
    form_at g.D.Disk g.M.Media g.S.Source g.K.Sink c.args.disk c.args.media c.args.input.now c.args.input.now c.args.output.now
    c.recover_disk-status.new.output (still_form (form_of c.args.words.now)) (Some Recover) c.without_journal-in-Some-Recover.result
    (unrun c.recover_disk-status.result.status c.recover_disk-status.result.disk c.args.media) (ap still_form form)
    c.without_journal-in-Some-Recover.ensures
    (answers_recover g.D.Disk g.M.Media g.S.Source g.K.Sink c.args.disk c.args.media c.args.input.now c.args.input.now c.args.output.now
    c.recover_disk-status.new.output c.recover_disk-status.result.status c.recover_disk-status.result.disk e.answers e.later e.keeps)

pub returns-in-Some-Inspect : goal.returns-in-Some-Inspect
returns-in-Some-Inspect g c =
    let e = c.inspect_disk-status.ensures in
    let form : form_of c.args.words.now ≡ Some Inspect = search rules in
    form_at g.D.Disk g.M.Media g.S.Source g.K.Sink c.args.disk c.args.media c.args.input.now c.args.input.now c.args.output.now
    c.inspect_disk-status.new.output (still_form (form_of c.args.words.now)) (Some Inspect) c.without_journal-in-Some-Inspect.result
    (unrun c.inspect_disk-status.result c.inspect_disk-status.new.disk c.args.media) (ap still_form form)
    c.without_journal-in-Some-Inspect.ensures
    (answers_inspect g.D.Disk g.M.Media g.S.Source g.K.Sink c.args.disk c.args.media c.args.input.now c.args.input.now c.args.output.now
    c.inspect_disk-status.new.output c.inspect_disk-status.result c.inspect_disk-status.new.disk e.answers e.later)

pub returns-in-Some-Run : goal.returns-in-Some-Run
returns-in-Some-Run g c =
    form_at g.D.Disk g.M.Media g.S.Source g.K.Sink c.args.disk c.args.media c.args.input.now c.args.input.now c.args.output.now
    c.no_form.new.output (still_form (form_of c.args.words.now)) None c.no_form.result (unrun USAGE c.args.disk c.args.media)
    (let known : (totals : Bool) × (form_of c.args.words.now ≡ Some (Run totals)) = search rules in ap still_form known.1) c.no_form.ensures.outcome
    (answers_usage g.D.Disk g.M.Media g.S.Source g.K.Sink c.args.disk c.args.media c.args.input.now c.args.input.now c.args.output.now
    c.no_form.new.output c.no_form.ensures.written c.no_form.ensures.later)

pub returns-in-None : goal.returns-in-None
returns-in-None g c =
    form_at g.D.Disk g.M.Media g.S.Source g.K.Sink c.args.disk c.args.media c.args.input.now c.args.input.now c.args.output.now
    c.no_form-in-None.new.output (still_form (form_of c.args.words.now)) None c.no_form-in-None.result (unrun USAGE c.args.disk c.args.media)
    (let known : form_of c.args.words.now ≡ None = search rules in ap still_form known) c.no_form-in-None.ensures.outcome
    (answers_usage g.D.Disk g.M.Media g.S.Source g.K.Sink c.args.disk c.args.media c.args.input.now c.args.input.now c.args.output.now
    c.no_form-in-None.new.output c.no_form-in-None.ensures.written c.no_form-in-None.ensures.later)
