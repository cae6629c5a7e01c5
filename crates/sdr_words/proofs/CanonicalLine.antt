-- Each canonical line is read as its step.
use Rattle.std.proofs.Common.{◌≡◌, ◌==◌, ◌<◌, ◌≤◌, ◌^◌, ◌+◌, ◌-◌, ◌⊎◌, inl, inr, ℕ, zero, suc, List, [], ◌∷◌, ◌++◌, Bool, true, false, not, Option, None, Some, Ok, cond, option_and_then, length, length-append, slice_index, slice_get, take, map, codes, decimal, nat_le, refl, ap, ◌∙◌, unwrap_or, arith}
use Rattle.std.proofs.lemmas.Bool.{and_parts, and_from, cond-true, cond-false}
use Rattle.std.proofs.lemmas.Bool.Decides.{nat_tests}
use Rattle.std.proofs.lemmas.Fmt.{decimal_nonempty}
use Rattle.std.proofs.lemmas.List.Folds.{list_all-append}
use Rattle.std.specs.List.{list_all, range_with_len}
use Rattle.sdr_model.specs.declared.script.Arg.{Arg}
use Rattle.sdr_model.specs.declared.script.ScriptStep.{ScriptStep}
use Rattle.sdr_words.proofs.CanonicalArgs.{args_again, decimal_digits, as_number-decimal}
use Rattle.sdr_words.proofs.CanonicalFields.{arg_is_no_equals, args_are_fields, decimal_in_field, field_from, fields_of-join, is_field, is_field_byte, is_skipped-join, line_bytes-join, name_is_field}
use Rattle.sdr_words.specs.Arguments.{◌>>=◌, args_of}
use Rattle.sdr_words.specs.Canonical.{IsStep, AreArgs, arg_text, fields_for, line_for, name_fields}
use Rattle.sdr_words.specs.Script.{is_line_byte, line_says, step_or_line}
use Rattle.sdr_words.specs.Statements.{is_bound_by, name_and_rest, step_of, verb_and_args}
use Rattle.sdr_words.specs.Verbs.{verb_names, name_at, verb_place, shapes_at}
use Rattle.sdr_words.specs.Words.{among_daemons, as_daemon, is_name, as_number}
use Rattle.sdr_words.specs.declared.verb.Shape.{Shape}

last_of : (xs : List ℕ) (x : ℕ) → slice_index (xs ++ x ∷ []) (length xs) ≡ x
last_of [] x = refl
last_of (y ∷ xs) x = last_of xs x

front_of : (xs ys : List ℕ) → take (length xs) (xs ++ ys) ≡ xs
front_of [] ys = refl
front_of (x ∷ xs) ys = ap (λ l. x ∷ l) (front_of xs ys)

among : (daemon : ℕ) → 1 ≤ daemon → daemon ≤ 16 → among_daemons daemon ≡ Some daemon
among daemon low high =
    let a : nat_le 1 daemon ≡ true = grind (arith, nat_tests) in
    let b : nat_le daemon 16 ≡ true = grind (arith, nat_tests) in
    cond-true _ _ _ (and_from (nat_le 1 daemon) (nat_le daemon 16) a b)

-- the first field names the daemon
daemon_again : (daemon : ℕ) → 1 ≤ daemon → daemon ≤ 16 → as_daemon (decimal daemon ++ codes ":") ≡ Some daemon
daemon_again daemon low high =
    let ds = decimal daemon in
    let end : length (ds ++ 58 ∷ []) - 1 ≡ length ds = omega (arith, length-append ds (58 ∷ [])) in
    ap (λ n. cond (slice_index (ds ++ 58 ∷ []) n == 58) (option_and_then among_daemons (as_number (take n (ds ++ 58 ∷ [])))) None) end
    ∙ cond-true _ _ _ (ap (λ b. b == 58) (last_of ds 58))
    ∙ ap (λ l. option_and_then among_daemons (as_number l)) (front_of ds (58 ∷ []))
    ∙ ap (option_and_then among_daemons) (as_number-decimal daemon (omega arith)) ∙ among daemon low high

daemon_is_field : (daemon : ℕ) → daemon ≤ 16 → is_field (decimal daemon ++ codes ":") ≡ true
daemon_is_field daemon high =
    let fits : daemon < 2 ^ 64 = omega arith in
    field_from (decimal daemon ++ 58 ∷ []) (omega (arith, length-append (decimal daemon) (58 ∷ [])))
    (list_all-append is_field_byte (decimal daemon) (58 ∷ []) ∙ and_from (list_all is_field_byte (decimal daemon)) _ (decimal_in_field daemon fits) refl)

module _ (is_bound : List ℕ → Bool) where
  unnamed : (shapes : List Shape) (args : List Arg) (verb : List ℕ) → AreArgs is_bound shapes args
      → name_and_rest (verb ∷ map arg_text args) ≡ Some ([], verb ∷ map arg_text args)
  unnamed [] [] verb are = refl
  unnamed (shape ∷ shapes) (arg ∷ args) verb are = cond-false _ _ _ (arg_is_no_equals is_bound shape arg are.0)
  unnamed [] (arg ∷ args) verb are = absurd are
  unnamed (shape ∷ shapes) [] verb are = absurd are

  -- the name and what stands behind it
  named_again : (shapes : List Shape) (args : List Arg) (name verb : List ℕ) → (name ≡ []) ⊎ (is_name name ≡ true) → AreArgs is_bound shapes args
      → name_and_rest (name_fields name ++ verb ∷ map arg_text args) ≡ Some (name, verb ∷ map arg_text args)
  named_again shapes args [] verb is are = unnamed shapes args verb are
  named_again shapes args (b ∷ bs) verb (inl none) are = cc
  named_again shapes args (b ∷ bs) verb (inr is) are = cond-true _ _ _ is

-- what a function gives of the item at a place, where it gives each its place
found_at : (f : List ℕ → Option ℕ) (xs : List (List ℕ)) (a place : ℕ) → map f xs ≡ map Some (range_with_len a (length xs)) → place < length xs
    → f (unwrap_or (slice_get xs place) []) ≡ Some (a + place)
found_at f [] a place all within = absurd (omega arith)
found_at f (x ∷ xs) a zero all within =
    let here : f x ≡ Some a = cc in here ∙ ap Some (omega arith)
found_at f (x ∷ xs) a (suc place) all within =
    let rest : map f xs ≡ map Some (range_with_len (a + 1) (length xs)) = cc in
    found_at f xs (a + 1) place rest (omega arith) ∙ ap Some (omega arith)

all_places : map verb_place verb_names ≡ map Some (range_with_len 0 (length verb_names))
unfolding verb_names
all_places = refl

-- a verb's name is found at its place
place_again : (place : ℕ) → place < length verb_names → verb_place (name_at place) ≡ Some place
place_again place within = found_at verb_place verb_names 0 place all_places within ∙ ap Some (omega arith)

test_at : (test : List ℕ → Bool) (xs : List (List ℕ)) (place : ℕ) → list_all test xs ≡ true → place < length xs → test (unwrap_or (slice_get xs place) []) ≡ true
test_at test [] place all within = absurd (omega arith)
test_at test (x ∷ xs) zero all within = (and_parts (test x) (list_all test xs) all).0
test_at test (x ∷ xs) (suc place) all within = test_at test xs place (and_parts (test x) (list_all test xs) all).1 (omega arith)

all_fields : list_all is_field verb_names ≡ true
unfolding verb_names
all_fields = refl

verb_is_field : (place : ℕ) → place < length verb_names → is_field (name_at place) ≡ true
verb_is_field place within = test_at is_field verb_names place all_fields within

name_fields_are : (name : List ℕ) → (name ≡ []) ⊎ (is_name name ≡ true) → list_all is_field (name_fields name) ≡ true
name_fields_are [] is = refl
name_fields_are (b ∷ bs) (inl none) = cc
name_fields_are (b ∷ bs) (inr is) = and_from (is_field (b ∷ bs)) _ (name_is_field (b ∷ bs) is) refl

module _ (earlier : List ScriptStep) (step : ScriptStep) (is : IsStep earlier step) where
  -- the fields behind the first
  behind : List (List ℕ)
  behind = name_fields step.name ++ name_at step.verb ∷ map arg_text step.args

  behind_are_fields : list_all is_field behind ≡ true
  unfolding behind
  behind_are_fields =
      list_all-append is_field (name_fields step.name) (name_at step.verb ∷ map arg_text step.args)
      ∙ and_from (list_all is_field (name_fields step.name)) _ (name_fields_are step.name is.name)
      (and_from (is_field (name_at step.verb)) _ (verb_is_field step.verb is.verb) (args_are_fields (is_bound_by earlier step.daemon) (shapes_at step.verb) step.args is.args))

  said_again : verb_and_args (is_bound_by earlier step.daemon) (name_at step.verb ∷ map arg_text step.args) ≡ Some (step.verb, step.args)
  said_again =
      ap (λ o. o >>= λ place. args_of (is_bound_by earlier step.daemon) (shapes_at place) (map arg_text step.args) >>= λ args. Some (place, args)) (place_again step.verb is.verb)
      ∙ ap (λ o. o >>= λ args. Some (step.verb, args)) (args_again (is_bound_by earlier step.daemon) (shapes_at step.verb) step.args is.args)

  -- the step of a daemon whose name and statement are these
  made : ℕ → List ℕ × List (List ℕ) → ℕ × List Arg → Option ScriptStep
  made daemon named said = Some (record { line = step.line; daemon = daemon; name = named.0; verb = said.0; args = said.1 })

  step_again : step_of earlier step.line (fields_for step) ≡ Some step
  unfolding made
  step_again =
      ap (λ o. o >>= λ daemon. name_and_rest (name_fields step.name ++ name_at step.verb ∷ map arg_text step.args) >>= λ named.
      verb_and_args (is_bound_by earlier daemon) named.1 >>= made daemon named) (daemon_again step.daemon is.first_daemon is.last_daemon)
      ∙ ap (λ o. o >>= λ named. verb_and_args (is_bound_by earlier step.daemon) named.1 >>= made step.daemon named)
      (named_again (is_bound_by earlier step.daemon) (shapes_at step.verb) step.args step.name (name_at step.verb) is.name is.args)
      ∙ ap (λ o. o >>= made step.daemon (step.name, name_at step.verb ∷ map arg_text step.args)) said_again

  first_is_field : is_field (decimal step.daemon ++ codes ":") ≡ true
  first_is_field = daemon_is_field step.daemon is.last_daemon

  -- its canonical line is read as the step
  pub line_again : line_says earlier step.line (line_for step) ≡ Ok (Some step)
  unfolding behind
  line_again =
      let bytes : not (list_all is_line_byte (line_for step)) ≡ false = ap not (line_bytes-join (decimal step.daemon ++ codes ":") behind first_is_field behind_are_fields) in
      let fits : step.daemon < 2 ^ 64 = omega (arith, is.last_daemon) in
      cond-false _ _ _ bytes
      ∙ cond-false _ _ _ (is_skipped-join (decimal step.daemon) (codes ":") behind (decimal_nonempty step.daemon fits) (decimal_digits step.daemon fits))
      ∙ ap (λ fields. step_or_line step.line (step_of earlier step.line fields)) (fields_of-join (decimal step.daemon ++ codes ":") behind first_is_field behind_are_fields)
      ∙ ap (step_or_line step.line) step_again
