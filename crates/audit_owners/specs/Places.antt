-- The first place in a heap at which a test fails.
use Rattle.std.specs.Prelude.{◌*◌, ℕ, Bool, not, List, [], ◌∷◌, find, map, Option, None}
use Rattle.std.specs.List.{range_with_len}
use Rattle.std.specs.Option.{option_or}
use Rattle.sdr_base.specs.declared.line.TheConstants.{WORD}

-- the places of so many words, from 0 on
abbrev pub places : ℕ → List ℕ
places words = map (λ word. WORD * word) (range_with_len 0 words)

-- the first place of so many words that fails a test
abbrev pub first_failing : (ℕ → Bool) → ℕ → Option ℕ
first_failing test words = find (λ addr. not (test addr)) (places words)

-- the first of these places that there is
abbrev pub first_some : List (Option ℕ) → Option ℕ
first_some [] = None
first_some (place ∷ others) = option_or place (first_some others)
