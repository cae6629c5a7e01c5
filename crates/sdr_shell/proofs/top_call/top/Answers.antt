use Rattle.std.proofs.Common.{◌∙◌, Option, subst, sym}
use Rattle.sdr_shell.proofs.FormLemmas.{live_words, still_words}
use Rattle.sdr_shell.specs.Words.{AnswersForm}
use Rattle.sdr_forms.specs.declared.form.Form.{Form}
use Rattle.sdr_shell.proofs.top_call.top.Goals as goal

pub returns-then-asks_live : goal.returns-then-asks_live
returns-then-asks_live g c =
    subst (λ (form : Option Form). AnswersForm g.D.Disk g.M.Media g.S.Source g.K.Sink form c.args.disk c.args.media c.args.input.now
    c.live.new.input c.args.output.now c.live.new.output c.live.result)
    (live_words c.args.words.now (sym c.asks_live.ensures ∙ c.if-asks_live.true)) c.live.ensures

pub returns-else-asks_live : goal.returns-else-asks_live
returns-else-asks_live g c =
    subst (λ (form : Option Form). AnswersForm g.D.Disk g.M.Media g.S.Source g.K.Sink form c.args.disk c.args.media c.args.input.now
    c.still.new.input c.args.output.now c.still.new.output c.still.result)
    (still_words c.args.words.now (sym c.asks_live.ensures ∙ c.if-asks_live.false)) c.still.ensures
