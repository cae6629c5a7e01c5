-- Each step that a line gives is one that a script may have.
use Rattle.std.proofs.Common.{◌≡◌, ◌==◌, ◌-◌, ◌&&◌, ◌<◌, ◌≤◌, ◌^◌, ◌⊎◌, inl, inr, ℕ, zero, suc, List, [], ◌∷◌, Bool, true, false, not, cond, Option, None, Some, Result, Ok, Err, option_map, option_and_then, length, slice_index, take, replicate, codes, nat_lt, nat_le, nat_eq, refl, ap, sym, subst, arith}
use Rattle.std.proofs.lemmas.Bool.{and_parts}
use Rattle.std.proofs.lemmas.Bool.Decides.{nat_tests}
use Rattle.std.proofs.lemmas.Option.{cond_some}
use Rattle.std.specs.Cmp.Lexicographic.{pointwise}
use Rattle.std.specs.List.{list_all, position_or_len}
use Rattle.std.specs.Result.{result_ok}
use Rattle.std.specs.Str.Parse.{digits_value}
use Rattle.hex.specs.Hex.{IsBytes, decode_of}
use Rattle.hex.specs.declared.error.FromHexError.{FromHexError}
use Rattle.hex.proofs.HexLemmas.{decode_of-ok}
use Rattle.sdr_model.specs.declared.script.Arg.{Arg}
use Rattle.sdr_model.specs.declared.script.Arg.TheVariants as args
use Rattle.sdr_model.specs.declared.script.ScriptStep.{ScriptStep}
use Rattle.sdr_text.specs.Text.{is_text_byte}
use Rattle.sdr_words.specs.Arguments.{◌>>=◌, as_account, arg_of, args_of, number_or_name, as_order, plain_of, as_space}
use Rattle.sdr_words.specs.Canonical.{IsArg, AreArgs, IsStep}
use Rattle.sdr_words.specs.Fields.{fields_of}
use Rattle.sdr_words.specs.Literals.{hex_bytes, copies_of, filled_of, is_lower_digit, literal_of, most_copies}
use Rattle.sdr_words.specs.Script.{is_line_byte, is_skipped, line_says, step_or_line}
use Rattle.sdr_words.specs.Statements.{is_bound_by, name_and_rest, step_of, verb_and_args}
use Rattle.sdr_words.specs.Verbs.{verb_names, verb_place, shapes_at}
use Rattle.sdr_words.specs.Words.{among_daemons, at_most, as_daemon, inner, is_decimal, is_name, is_quoted, as_number, quoted_of}
use Rattle.sdr_words.specs.declared.verb.Shape.{Shape}
use Rattle.sdr_words.specs.declared.verb.Shape.TheVariants as shapes

bind_some : {A B : Type 0} (o : Option A) (f : A → Option B) (y : B) → (o >>= f) ≡ Some y → (x : A) × (o ≡ Some x) × (f x ≡ Some y)
bind_some None f y e = cc
bind_some (Some x) f y e = (x, refl, e)

map_some : {A B : Type 0} (f : A → B) (o : Option A) (y : B) → option_map f o ≡ Some y → (x : A) × (o ≡ Some x) × (f x ≡ y)
map_some f None y e = cc
map_some f (Some x) y e = (x, refl, cc)

then_some : {A B : Type 0} (f : A → Option B) (o : Option A) (y : B) → option_and_then f o ≡ Some y → (x : A) × (o ≡ Some x) × (f x ≡ Some y)
then_some f None y e = cc
then_some f (Some x) y e = (x, refl, e)

-- which way a test went
chosen : {A : Type 0} (b : Bool) (x y z : A) → cond b x y ≡ z → ((b ≡ true) × (x ≡ z)) ⊎ ((b ≡ false) × (y ≡ z))
chosen true x y z e = inl (refl, e)
chosen false x y z e = inr (refl, e)

-- a number has 64 bits
number_fits : (field : List ℕ) (n : ℕ) → as_number field ≡ Some n → n < 2 ^ 64
number_fits field n e =
    let found = cond_some (is_decimal field && nat_lt (digits_value 10 field) (2 ^ 64)) (digits_value 10 field) n e in
    let t = (and_parts (is_decimal field) _ found.0).1 in
    let fits : digits_value 10 field < 2 ^ 64 = grind (arith, nat_tests) in
    subst (λ n. n < 2 ^ 64) found.1 fits

text_byte_fits : (b : ℕ) → is_text_byte b ≡ true → b < 256
text_byte_fits b t = grind (arith, nat_tests)

text_is_bytes : (text : List ℕ) → list_all is_text_byte text ≡ true → IsBytes text
text_is_bytes [] all i = omega arith
text_is_bytes (b ∷ text) all zero = text_byte_fits b (and_parts (is_text_byte b) (list_all is_text_byte text) all).0
text_is_bytes (b ∷ text) all (suc i) = text_is_bytes text (and_parts (is_text_byte b) (list_all is_text_byte text) all).1 i

quoted_is_bytes : (field bytes : List ℕ) → quoted_of field ≡ Some bytes → IsBytes bytes
quoted_is_bytes field bytes e =
    let found = cond_some (is_quoted field && list_all is_text_byte (inner field)) (inner field) bytes e in
    subst IsBytes found.1 (text_is_bytes (inner field) (and_parts (is_quoted field) _ found.0).1)

ok_is : {A : Type 0} (r : Result A FromHexError) (x : A) → result_ok r ≡ Some x → r ≡ Ok x
ok_is (Ok y) x e = cc
ok_is (Err error) x e = cc

digits_are_bytes : (digits bytes : List ℕ) → hex_bytes digits ≡ Some bytes → IsBytes bytes
digits_are_bytes digits bytes e =
    elim (chosen (list_all is_lower_digit digits) (result_ok (decode_of digits)) None (Some bytes) e) [
      | inl here ↦ (decode_of-ok digits bytes (ok_is (decode_of digits) bytes here.1)).3
      | inr past ↦ cc (past.1)
    ]

copies_are_bytes : (n b : ℕ) → b < 256 → IsBytes (replicate n b)
copies_are_bytes zero b fits i = omega arith
copies_are_bytes (suc n) b fits zero = fits
copies_are_bytes (suc n) b fits (suc i) = copies_are_bytes n b fits i

filled_is_bytes : (made : Option (List ℕ)) (count : Option ℕ) (bytes : List ℕ) → ((byte : List ℕ) → made ≡ Some byte → IsBytes byte)
    → copies_of made count ≡ Some bytes → IsBytes bytes
filled_is_bytes None count bytes are e = cc
filled_is_bytes (Some []) count bytes are e = cc
filled_is_bytes (Some (b ∷ [])) None bytes are e = cc
filled_is_bytes (Some (b ∷ [])) (Some n) bytes are e =
    let is : replicate n b ≡ bytes = cc in subst IsBytes is (copies_are_bytes n b (are (b ∷ []) refl 0))
filled_is_bytes (Some (b ∷ c ∷ more)) count bytes are e = cc

filled_are_bytes : (field bytes : List ℕ) → filled_of field ≡ Some bytes → IsBytes bytes
filled_are_bytes [] bytes e = cc
filled_are_bytes (h ∷ []) bytes e = cc
filled_are_bytes (h ∷ l ∷ []) bytes e = cc
filled_are_bytes (h ∷ l ∷ star ∷ count) bytes e =
    elim (chosen (star == 42) (copies_of (hex_bytes (h ∷ l ∷ [])) (option_and_then (at_most most_copies) (as_number count))) None (Some bytes) e) [
      | inl here ↦ filled_is_bytes (hex_bytes (h ∷ l ∷ [])) _ bytes (λ byte is. digits_are_bytes (h ∷ l ∷ []) byte is) here.1
      | inr past ↦ cc (past.1)
    ]

-- a literal spells bytes
literal_is_bytes : (field bytes : List ℕ) → literal_of field ≡ Some bytes → IsBytes bytes
literal_is_bytes [] bytes e = cc
literal_is_bytes (b ∷ rest) bytes e =
    elim (chosen (b == 34) (quoted_of (b ∷ rest)) _ (Some bytes) e) [
      | inl here ↦ quoted_is_bytes (b ∷ rest) bytes here.1
      | inr past ↦ elim (chosen (b == 120) (hex_bytes rest) _ (Some bytes) past.1) [
        | inl here ↦ digits_are_bytes rest bytes here.1
        | inr past ↦ elim (chosen (b == 102) (filled_of rest) None (Some bytes) past.1) [
          | inl here ↦ filled_are_bytes rest bytes here.1
          | inr past ↦ cc (past.1)
        ]
      ]
    ]

plain_fits : (most : ℕ) (field : List ℕ) (arg : Arg) → plain_of most field ≡ Some arg → (n : ℕ) × (arg ≡ args.Number n) × (n ≤ most)
plain_fits most field arg e =
    let found = map_some args.Number (option_and_then (at_most most) (as_number field)) arg e in
    let number = then_some (at_most most) (as_number field) found.0 found.1 in
    let kept = cond_some (nat_le number.0 most) number.0 found.0 number.2 in
    let t = kept.0 in
    let fits : number.0 ≤ most = grind (arith, nat_tests) in
    (found.0, sym found.2, subst (λ n. n ≤ most) kept.1 fits)

module _ (is_bound : List ℕ → Bool) where
  value_is : (number : Option ℕ) (field : List ℕ) (arg : Arg) → ((n : ℕ) → number ≡ Some n → n < 2 ^ 64)
      → number_or_name number is_bound field ≡ Some arg → IsArg is_bound shapes.Value arg
  value_is (Some n) field arg fits e =
      let is : args.Number n ≡ arg = cc in subst (IsArg is_bound shapes.Value) is (fits n refl)
  value_is None field arg fits e =
      let found = cond_some (is_name field && is_bound field) (args.Named field) arg e in
      subst (IsArg is_bound shapes.Value) found.1 (and_parts (is_name field) (is_bound field) found.0)

  -- an argument that is read has its shape
  arg_is : (shape : Shape) (field : List ℕ) (arg : Arg) → arg_of is_bound shape field ≡ Some arg → IsArg is_bound shape arg
  arg_is shapes.Value field arg e = value_is (as_number field) field arg (λ n is. number_fits field n is) e
  arg_is shapes.Type field arg e =
      let found = plain_fits 4294967295 field arg e in subst (IsArg is_bound shapes.Type) (sym found.1) found.2
  arg_is shapes.Priority field arg e =
      let found = plain_fits 255 field arg e in subst (IsArg is_bound shapes.Priority) (sym found.1) found.2
  arg_is shapes.Text field arg e =
      let found = map_some args.Text (literal_of field) arg e in
      subst (IsArg is_bound shapes.Text) found.2 (literal_is_bytes field found.0 found.1)
  arg_is shapes.Account field arg e =
      let found = map_some args.Account (as_account field) arg e in subst (IsArg is_bound shapes.Account) found.2 tt
  arg_is shapes.Space field arg e =
      let found = map_some args.In (as_space field) arg e in subst (IsArg is_bound shapes.Space) found.2 tt
  arg_is shapes.Order field arg e =
      let found = map_some args.By (as_order field) arg e in subst (IsArg is_bound shapes.Order) found.2 tt

  args_are : (shapes : List Shape) (fields : List (List ℕ)) (args : List Arg) → args_of is_bound shapes fields ≡ Some args → AreArgs is_bound shapes args
  args_are [] [] args e =
      let is : [] ≡ args = cc in subst (AreArgs is_bound []) is tt
  args_are (shape ∷ shapes) (field ∷ fields) args e =
      let first = bind_some (arg_of is_bound shape field) _ args e in
      let others = bind_some (args_of is_bound shapes fields) _ args first.2 in
      let is : first.0 ∷ others.0 ≡ args = cc (others.2) in
      subst (AreArgs is_bound (shape ∷ shapes)) is (arg_is shape field first.0 first.1, args_are shapes fields others.0 others.1)
  args_are [] (field ∷ fields) args e = cc
  args_are (shape ∷ shapes) [] args e = cc

place_is : (name : List ℕ) (place : ℕ) → verb_place name ≡ Some place → place < length verb_names
place_is name place e =
    let at = position_or_len (λ n. pointwise nat_eq n name) verb_names in
    let found = cond_some (nat_lt at (length verb_names)) at place e in
    let t = found.0 in
    let within : at < length verb_names = grind (arith, nat_tests) in
    subst (λ n. n < length verb_names) found.1 within

daemon_is : (field : List ℕ) (daemon : ℕ) → as_daemon field ≡ Some daemon → (1 ≤ daemon) × (daemon ≤ 16)
daemon_is field daemon e =
    elim (chosen (slice_index field (length field - 1) == 58) (option_and_then among_daemons (as_number (take (length field - 1) field))) None (Some daemon) e) [
      | inl here ↦
          let number = then_some among_daemons (as_number (take (length field - 1) field)) daemon here.1 in
          let kept = cond_some (nat_le 1 number.0 && nat_le number.0 16) number.0 daemon number.2 in
          let tests = and_parts (nat_le 1 number.0) (nat_le number.0 16) kept.0 in
          let a = tests.0 in
          let b = tests.1 in
          let low : 1 ≤ number.0 = grind (arith, nat_tests) in
          let high : number.0 ≤ 16 = grind (arith, nat_tests) in
          subst (λ d. (1 ≤ d) × (d ≤ 16)) kept.1 (low, high)
      | inr past ↦ cc (past.1)
    ]

name_is : (fields : List (List ℕ)) (named : List ℕ × List (List ℕ)) → name_and_rest fields ≡ Some named → (named.0 ≡ []) ⊎ (is_name named.0 ≡ true)
name_is [] named e = cc
name_is (verb ∷ []) named e = let is : ([], verb ∷ []) ≡ named = cc in inl (sym (ap (λ p. p.0) is))
name_is (first ∷ second ∷ fields) named e =
    elim (chosen (pointwise nat_eq second (codes "=")) (cond (is_name first) (Some (first, fields)) None) (Some ([], first ∷ second ∷ fields)) (Some named) e) [
      | inl here ↦
          let found = cond_some (is_name first) (first, fields) named here.1 in
          inr (subst (λ p. is_name p.0 ≡ true) found.1 found.0)
      | inr past ↦ let is : ([], first ∷ second ∷ fields) ≡ named = cc (past.1) in inl (sym (ap (λ p. p.0) is))
    ]

said_is : (is_bound : List ℕ → Bool) (fields : List (List ℕ)) (said : ℕ × List Arg) → verb_and_args is_bound fields ≡ Some said
    → (said.0 < length verb_names) × AreArgs is_bound (shapes_at said.0) said.1
said_is is_bound [] said e = cc
said_is is_bound (verb ∷ fields) said e =
    let place = bind_some (verb_place verb) _ said e in
    let given = bind_some (args_of is_bound (shapes_at place.0) fields) _ said place.2 in
    let is : (place.0, given.0) ≡ said = cc (given.2) in
    subst (λ s. (s.0 < length verb_names) × AreArgs is_bound (shapes_at s.0) s.1) is
    (place_is verb place.0 place.1, args_are is_bound (shapes_at place.0) fields given.0 given.1)

-- the step is one of this line that a script may have behind the earlier ones
abbrev pub IsStepOf : List ScriptStep → ℕ → ScriptStep → Type 0
IsStepOf earlier line step = (step.line ≡ line) × IsStep earlier step

step_is : (earlier : List ScriptStep) (line : ℕ) (fields : List (List ℕ)) (step : ScriptStep) → step_of earlier line fields ≡ Some step → IsStepOf earlier line step
step_is earlier line [] step e = cc
step_is earlier line (first ∷ fields) step e =
    let daemon = bind_some (as_daemon first) _ step e in
    let named = bind_some (name_and_rest fields) _ step daemon.2 in
    let said = bind_some (verb_and_args (is_bound_by earlier daemon.0) named.0.1) _ step named.2 in
    let made : ScriptStep = record {
      line = line;
      daemon = daemon.0;
      name = named.0.0;
      verb = said.0.0;
      args = said.0.1;
    } in
    let is : made ≡ step = cc (said.2) in
    let numbers = daemon_is first daemon.0 daemon.1 in
    let parts = said_is (is_bound_by earlier daemon.0) named.0.1 said.0 said.1 in
    subst (IsStepOf earlier line) is (
      refl,
      record {
        first_daemon = numbers.0;
        last_daemon = numbers.1;
        name = name_is fields named.0 named.1;
        verb = parts.0;
        args = parts.1;
      },
    )

said_step : (number : ℕ) (given : Option ScriptStep) (step : ScriptStep) → step_or_line number given ≡ Ok (Some step) → given ≡ Some step
said_step number None step e = cc
said_step number (Some other) step e = cc

-- the step that a line gives
pub line_is : (earlier : List ScriptStep) (number : ℕ) (line : List ℕ) (step : ScriptStep) → line_says earlier number line ≡ Ok (Some step) → IsStepOf earlier number step
line_is earlier number line step e =
    elim (chosen (not (list_all is_line_byte line)) (Err number) _ (Ok (Some step)) e) [
      | inl here ↦ cc (here.1)
      | inr past ↦ elim (chosen (is_skipped line) (Ok None) (step_or_line number (step_of earlier number (fields_of line))) (Ok (Some step)) past.1) [
        | inl here ↦ cc (here.1)
        | inr past ↦ step_is earlier number (fields_of line) step (said_step number (step_of earlier number (fields_of line)) step past.1)
      ]
    ]
