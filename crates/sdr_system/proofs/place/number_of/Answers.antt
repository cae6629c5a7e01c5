use Rattle.std.proofs.Common.{◌≡◌, ◌∙◌, sym, Some, None}
use Rattle.std.proofs.lemmas.Slice.Eq.{bytes_eq-Decides}
use Rattle.sdr_system.proofs.PlaceLemmas.{parsed-printed}
use Rattle.sdr_system.proofs.place.number_of.Goals as goal

pub returns-in_err-number-clause-none : goal.returns-in_err-number-clause-none
returns-in_err-number-clause-none c none n fits is =
    let parsed = parsed-printed c.args.digits.now c.parse.result n c.parse.ensures.value.0 fits is in
    let both : None ≡ Some n = sym c.in_err-number.was ∙ c.ok.ensures.value ∙ parsed in
    absurd cc

pub returns-else-eq-clause-none : goal.returns-else-eq-clause-none
returns-else-eq-clause-none c none n fits is =
    let parsed = parsed-printed c.args.digits.now c.parse.result n c.parse.ensures.value.0 fits is in
    let both : Some c.in_ok-number.number ≡ Some n = sym c.in_ok-number.was ∙ c.ok.ensures.value ∙ parsed in
    let number : c.in_ok-number.number ≡ n = cc in
    let same : c.format.result.now ≡ c.args.digits.now = rw number at c.format.ensures.text ∙ sym is in
    let equal = (bytes_eq-Decides c.format.result.now c.args.digits.now).1 same in
    absurd cc
