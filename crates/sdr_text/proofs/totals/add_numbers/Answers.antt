use Rattle.std.proofs.Common.{◌∙◌, ℕ, List, ap}
use Rattle.sdr_text.specs.Refused.{field_on}
use Rattle.sdr_text.proofs.totals.add_numbers.Goals as goal

-- a line with one number more
abbrev on : ℕ → List ℕ → List ℕ
on n line = field_on line n

pub returns-clause-text : goal.returns-clause-text
returns-clause-text c =
    let totals = c.args.totals.now in
    let text2 = c.field-2.ensures.text ∙ ap (on totals.number) c.field.ensures.text in
    let text3 = c.field-3.ensures.text ∙ ap (on totals.ended) text2 in
    let text4 = c.field-4.ensures.text ∙ ap (on totals.cancelled) text3 in
    let text5 = c.field-5.ensures.text ∙ ap (on totals.exited) text4 in
    let text6 = c.field-6.ensures.text ∙ ap (on totals.faulted) text5 in
    let text7 = c.field-7.ensures.text ∙ ap (on totals.looks) text6 in
    let text8 = c.field-8.ensures.text ∙ ap (on totals.left) text7 in
    let text9 = c.field-9.ensures.text ∙ ap (on totals.taken) text8 in
    let text10 = c.field-10.ensures.text ∙ ap (on totals.given) text9 in
    text10
