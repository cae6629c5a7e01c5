use Rattle.std.proofs.Common.{sym}
use Rattle.sdr_command.proofs.EndingLemmas.{asks_form, asks_none, asks_nothing}
use Rattle.sdr_command.proofs.command.command_of.Goals as goal

pub returns-in-Some : goal.returns-in-Some
returns-in-Some c = c.in-Some.ensures

pub returns-in_default-split_first : goal.returns-in_default-split_first
returns-in_default-split_first c = asks_none c.args.words.now c.in_default.ensures c.in_default-split_first.ensures.cases

pub returns-in-Some-form_of : goal.returns-in-Some-form_of
returns-in-Some-form_of c =
    asks_form _ _ _ c.in-Some-split_first.ensures.cases.0 _ _ c.as_str-disk.ensures.value (sym c.in-Some-form_of.ensures.form) c.in-Some-form_of.ensures.limits

pub returns-in-None : goal.returns-in-None
returns-in-None c = asks_nothing _ _ _ c.in-Some-split_first.ensures.cases.0 c.in_default.ensures (sym c.in-None.ensures.form)
