-- What a line's fields say.
use Rattle.std.specs.Prelude.{ℕ, List, [], ◌∷◌, Bool, ◌&&◌, ◌==◌, if◌then◌else◌, Option, Some, None, codes, nat_eq}
use Rattle.std.specs.Cmp.Lexicographic.{pointwise}
use Rattle.std.specs.List.{list_any}
use Rattle.sdr_model.specs.declared.script.Arg.{Arg}
use Rattle.sdr_model.specs.declared.script.ScriptStep.{ScriptStep}
use Rattle.sdr_words.specs.Arguments.{◌>>=◌, args_of}
use Rattle.sdr_words.specs.Verbs.{verb_place, shapes_at}
use Rattle.sdr_words.specs.Words.{is_name, as_daemon}

-- the name that fields behind a daemon bind, none or the one before `=`, and the fields behind it
abbrev pub name_and_rest : List (List ℕ) → Option (List ℕ × List (List ℕ))
name_and_rest [] = None
name_and_rest (verb ∷ []) = Some ([], verb ∷ [])
name_and_rest (first ∷ second ∷ fields) =
    if pointwise nat_eq second (codes "=")
    then (if is_name first then Some (first, fields) else None)
    else Some ([], first ∷ second ∷ fields)

-- the verb's place and the arguments of fields that begin with a verb, which may use the names that are bound
abbrev pub verb_and_args : (List ℕ → Bool) → List (List ℕ) → Option (ℕ × List Arg)
verb_and_args is_bound [] = None
verb_and_args is_bound (verb ∷ fields) = do
  place ← verb_place verb
  args ← args_of is_bound (shapes_at place) fields
  Some (place, args)

-- whether one of the steps is this daemon's and binds this name
abbrev pub is_bound_by : List ScriptStep → ℕ → List ℕ → Bool
is_bound_by steps daemon name = list_any (λ step. step.daemon == daemon && pointwise nat_eq name step.name) steps

-- the step that the fields of a line make, behind the steps of the earlier lines
abbrev pub step_of : List ScriptStep → ℕ → List (List ℕ) → Option ScriptStep
step_of earlier line [] = None
step_of earlier line (first ∷ fields) = do
  daemon ← as_daemon first
  named ← name_and_rest fields
  said ← verb_and_args (is_bound_by earlier daemon) named.1
  Some (record { line = line; daemon = daemon; name = named.0; verb = said.0; args = said.1 })
