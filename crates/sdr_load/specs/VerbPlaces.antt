-- The place of a verb in the grammar's table.
use Rattle.std.specs.Prelude.{ℕ, List, length, unwrap_or}
use Rattle.sdr_words.specs.Verbs.{verb_names, verb_place}

-- the place of the verb with this word in the table of verbs, behind the table where there is none
unfoldable pub place_of : List ℕ → ℕ
place_of word = unwrap_or (verb_place word) (length verb_names)
