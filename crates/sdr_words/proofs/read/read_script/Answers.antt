use Rattle.std.proofs.Common.{List, ℕ, subst}
use Rattle.sdr_words.specs.LineAnswers.{GivesScript}
use Rattle.sdr_words.specs.Script.{input_script}
use Rattle.sdr_words.proofs.InputLemmas.{script_result, line_result}
use Rattle.sdr_words.proofs.read.read_script.Goals as goal

pub returns-clause-script : goal.returns-clause-script
returns-clause-script g c =
    script_result _ _ c.in_ok-input.input.items c.input_script.result c.in_ok-input.ensures.read
    (subst (λ (bytes : List ℕ). GivesScript c.input_script.result (input_script bytes))
    c.as_slice.ensures.value c.input_script.ensures)

pub returns-clause-line : goal.returns-clause-line
returns-clause-line g c =
    line_result _ _ c.in_ok-input.input.items c.input_script.result c.in_ok-input.ensures.read
    (subst (λ (bytes : List ℕ). GivesScript c.input_script.result (input_script bytes))
    c.as_slice.ensures.value c.input_script.ensures)
