-- What is printed of a load.
use Rattle.std.specs.Prelude.{ℕ, List, ◌++◌, codes, decimal}
use Rattle.run_load.specs.declared.summary.Summary.{Summary}

-- a line of a word and a number
abbrev pub number_line : List ℕ → ℕ → List ℕ
number_line word number = word ++ codes " " ++ decimal number ++ codes "\n"

-- the summary of a load of so many rounds, in five lines
abbrev pub summary_text : ℕ → Summary → List ℕ
summary_text rounds s =
    number_line (codes "load") rounds ++ number_line (codes "ended") s.ended ++ number_line (codes "cancelled") s.cancelled
    ++ number_line (codes "elements") s.elements ++ number_line (codes "bytes") s.bytes
