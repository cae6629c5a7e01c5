-- What is printed of totals.
use Rattle.std.specs.Prelude.{ℕ, List, [], ◌∷◌, ◌++◌, codes, fold}
use Rattle.sdr_board.specs.declared.totals.Totals.{Totals}
use Rattle.sdr_text.specs.Refused.{field_on}

-- the ten numbers in the order in which they are printed
abbrev pub printed_numbers : Totals → List ℕ
printed_numbers t =
    t.entries ∷ t.number ∷ t.ended ∷ t.cancelled ∷ t.exited ∷ t.faulted ∷ t.looks ∷ t.left ∷ t.taken ∷ t.given ∷ []

-- the line of totals: a word, and the ten numbers, each after a space
abbrev pub totals_text : Totals → List ℕ
totals_text t = fold field_on (codes "totals") (printed_numbers t) ++ codes "\n"
