-- The fields of a line.
use Rattle.std.specs.Prelude.{ℕ, List, length, filter, not, ◌==◌}
use Rattle.std.specs.List.{slice_split}

-- the fields of a line: its parts between spaces, without the empty ones
abbrev pub fields_of : List ℕ → List (List ℕ)
fields_of line = filter (λ field. not (length field == 0)) (slice_split (λ b. b == 32) line)
