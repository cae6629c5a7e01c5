-- The table of verbs, as the grammar reads it: by names and by numbers.
use Rattle.std.specs.Prelude.{ℕ, List, [], Option, map, slice_get, unwrap_or, nat_eq}
use Rattle.std.specs.Cmp.Lexicographic.{pointwise}
use Rattle.std.specs.List.{position}
use Rattle.sdr_words.specs.VerbTable.{verb_table}
use Rattle.sdr_words.specs.declared.verb.Shape.{Shape}
use Rattle.sdr_words.specs.declared.verb.Verb.{Verb}
use Rattle.sdr_words.specs.declared.verb.Verb.TheVariants as variants

-- the verbs, in the order of the table
unfoldable pub verbs : List Verb
verbs = map (λ row. row.verb) verb_table

-- their names
unfoldable pub verb_names : List (List ℕ)
verb_names = map (λ row. row.name) verb_table

-- the shapes of their arguments
unfoldable pub shapes : List (List Shape)
shapes = map (λ row. row.arguments) verb_table

-- the place of a name among names
abbrev pub place_among : List (List ℕ) → List ℕ → Option ℕ
place_among names name = position (λ n. pointwise nat_eq n name) names

-- the place of the verb with this name in the table
abbrev pub verb_place : List ℕ → Option ℕ
verb_place name = place_among verb_names name

-- the name of the verb at a place of the table, no byte where there is none
abbrev pub name_at : ℕ → List ℕ
name_at place = unwrap_or (slice_get verb_names place) []

-- the shapes of the arguments of the verb at a place of the table
abbrev pub shapes_at : ℕ → List Shape
shapes_at place = unwrap_or (slice_get shapes place) []

-- the verb at a place of the table, `begin` where there is none
abbrev pub verb_at : ℕ → Verb
verb_at place = unwrap_or (slice_get verbs place) variants.Begin
