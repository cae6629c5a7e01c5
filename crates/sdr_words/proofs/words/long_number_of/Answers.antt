use Rattle.std.proofs.Common.{◌∙◌, sym, subst, List, ℕ}
use Rattle.std.specs.Str.Parse.{ParsesUnsigned}
use Rattle.sdr_words.proofs.WordsLemmas.{decimal_is_text, parsed-decimal}
use Rattle.sdr_words.proofs.words.long_number_of.Goals as goal

pub returns-in_default : goal.returns-in_default
returns-in_default c = absurd (c.in_default.ensures.cases.0 (decimal_is_text _ (sym c.if-not-is_decimal.ensures)))

pub returns : goal.returns
returns c =
    c.ok.ensures.value ∙ parsed-decimal c.args.field.now c.parse.result (sym c.if-not-is_decimal.ensures)
    (subst (λ (bs : List ℕ). ParsesUnsigned 64 10 bs c.parse.result) c.in-Ok.ensures.cases.0 c.parse.ensures.value.0)
