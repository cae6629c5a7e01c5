use Rattle.law_steps.proofs.FieldLaws.{fields_fit}
use Rattle.law_steps.proofs.fields.fields_fit.Goals as goal

pub returns : goal.returns
returns c = fields_fit
