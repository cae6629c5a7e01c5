use Rattle.std.proofs.Common.{Option, refl, subst, sym}
use Rattle.sdr_forms.specs.declared.form.Form.{Form}
use Rattle.sdr_shell.specs.Words.{AnswersForm}
use Rattle.sdr_command.proofs.answering.answer_read.Goals as goal

pub returns : goal.returns
returns g c before read =
    record {
      outcome = c.top_read-outcome.result;
      answers =
          subst (λ (form : Option Form). AnswersForm g.D.Disk g.M.Media g.S.Source g.K.Sink form c.args.disk c.args.media before c.args.input.now
          c.args.output.now c.top_read-outcome.new.output c.top_read-outcome.result)
          (sym c.requires.is) (c.top_read-outcome.ensures before read);
      status = refl;
      disk_is = refl;
    }
