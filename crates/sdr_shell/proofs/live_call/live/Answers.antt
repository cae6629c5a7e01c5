use Rattle.std.proofs.Common.{◌≡◌, ◌∙◌, None, Some, ap, refl, sym}
use Rattle.sdr_shell.proofs.AnsweringLemmas.{answers_run, answers_usage, form_at, unrun}
use Rattle.sdr_shell.proofs.FormLemmas.{live_known, live_unknown}
use Rattle.sdr_forms.specs.Form.{form_of, live_form}
use Rattle.sdr_forms.specs.declared.form.Form.TheVariants.{Run}
use Rattle.sdr_forms.specs.declared.status.TheConstants.{USAGE}
use Rattle.sdr_shell.proofs.live_call.live.Goals as goal

pub returns-in-Some : goal.returns-in-Some
returns-in-Some g c =
    let totals = c.in-Some.totals in
    let form : live_form (form_of c.args.words.now) ≡ Some (Run totals) =
    ap live_form (sym c.form_of.ensures.form) ∙ live_known c.form_of.result totals (sym c.in-Some.ensures) in
    form_at g.D.Disk g.M.Media g.S.Source g.K.Sink c.args.disk c.args.media c.args.input.now c.run_input.new.input c.args.output.now
    c.run_input.new.output (live_form (form_of c.args.words.now)) (Some (Run totals)) c.run_input.result c.run_input.result form refl
    (answers_run g.D.Disk g.M.Media g.S.Source g.K.Sink c.args.disk c.args.media c.args.input.now c.run_input.new.input c.args.output.now
    c.run_input.new.output totals c.run_input.result c.run_input.ensures)

pub returns-in-None : goal.returns-in-None
returns-in-None g c =
    let form : live_form (form_of c.args.words.now) ≡ None =
    ap live_form (sym c.form_of.ensures.form) ∙ live_unknown c.form_of.result (sym c.in-None.ensures) in
    form_at g.D.Disk g.M.Media g.S.Source g.K.Sink c.args.disk c.args.media c.args.input.now c.args.input.now c.args.output.now
    c.no_form.new.output (live_form (form_of c.args.words.now)) None c.no_form.result (unrun USAGE c.args.disk c.args.media) form c.no_form.ensures.outcome
    (answers_usage g.D.Disk g.M.Media g.S.Source g.K.Sink c.args.disk c.args.media c.args.input.now c.args.input.now c.args.output.now
    c.no_form.new.output c.no_form.ensures.written c.no_form.ensures.later)
