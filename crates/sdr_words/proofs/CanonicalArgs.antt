-- Each canonical argument is read as that argument.
use Rattle.std.proofs.Common.{◌≡◌, ◌==◌, ◌&&◌, ◌||◌, ◌<◌, ◌≤◌, ◌^◌, ◌/◌, ◌%◌, ℕ, zero, suc, List, [], ◌∷◌, Bool, true, false, not, None, Some, option_map, option_and_then, length, slice_index, map, decimal, nat_lt, nat_le, refl, ap, ◌∙◌, arith}
use Rattle.std.proofs.lemmas.Bool.{and_parts, and_from, cond-true, cond-false, false_from_ne_true}
use Rattle.std.proofs.lemmas.Bool.Decides.{nat_tests}
use Rattle.std.proofs.lemmas.Fmt.{decimal_digit, decimal_nonempty, digits_decimal, digits_value-decimal, first_decimal}
use Rattle.std.specs.Char.{is_ascii_digit, is_ascii_alphabetic}
use Rattle.std.specs.List.{list_all}
use Rattle.std.specs.Result.{result_ok}
use Rattle.std.specs.Str.Parse.{digits_value}
use Rattle.hex.specs.Hex.{IsBytes, encode_lower, encode_with, lower_digits}
use Rattle.hex.proofs.HexLemmas.{decode_of-encode_lower}
use Rattle.sdr_base.specs.declared.account.Acct.TheVariants as accounts
use Rattle.sdr_base.specs.declared.kind.Space.TheVariants as spaces
use Rattle.sdr_model.specs.declared.keys.Keys.TheVariants as keys
use Rattle.sdr_model.specs.declared.script.Arg.{Arg}
use Rattle.sdr_model.specs.declared.script.Arg.TheVariants as args
use Rattle.sdr_text.specs.Text.{bytes_text}
use Rattle.sdr_words.proofs.WordsLemmas.{own, decimal_has_digits}
use Rattle.sdr_words.specs.Arguments.{◌>>=◌, arg_of, args_of, number_or_name}
use Rattle.sdr_words.specs.Canonical.{IsArg, AreArgs, arg_text}
use Rattle.sdr_words.specs.Literals.{is_lower_digit, literal_of}
use Rattle.sdr_words.specs.Words.{at_most, is_decimal, is_name, is_name_byte, as_number}
use Rattle.sdr_words.specs.declared.verb.Shape.{Shape}
use Rattle.sdr_words.specs.declared.verb.Shape.TheVariants as shapes

-- a list whose items pass one test pass a weaker one
pub list_all-weaker : {A : Type 0} (p q : A → Bool) → ((x : A) → p x ≡ true → q x ≡ true) → (xs : List A) → list_all p xs ≡ true → list_all q xs ≡ true
list_all-weaker p q weaker [] t = refl
list_all-weaker p q weaker (x ∷ xs) t =
    let parts = and_parts (p x) (list_all p xs) t in
    and_from (q x) (list_all q xs) (weaker x parts.0) (list_all-weaker p q weaker xs parts.1)

or_right : (b c : Bool) → c ≡ true → (b || c) ≡ true
or_right true c t = refl
or_right false c t = t

-- the digits of a number
pub decimal_digits : (n : ℕ) → n < 2 ^ 64 → list_all is_ascii_digit (decimal n) ≡ true
decimal_digits n fits = digits_decimal own n fits

-- no number but 0 begins with the digit 0
no_leading_zero : (n : ℕ) → n < 2 ^ 64 → (length (decimal n) == 1 || not (slice_index (decimal n) 0 == 48)) ≡ true
no_leading_zero zero fits = ap (λ l. length l == 1 || not (slice_index l 0 == 48)) (decimal_digit 0 (omega arith))
no_leading_zero (suc n) fits =
    let first = first_decimal (suc n) (omega arith) fits in
    let t : not (slice_index (decimal (suc n)) 0 == 48) ≡ true = grind (arith, nat_tests) in
    or_right (length (decimal (suc n)) == 1) _ t

is_decimal-decimal : (n : ℕ) → n < 2 ^ 64 → is_decimal (decimal n) ≡ true
is_decimal-decimal n fits =
    let some = decimal_nonempty n fits in
    let t : nat_lt 0 (length (decimal n)) ≡ true = grind (arith, nat_tests) in
    and_from (nat_lt 0 (length (decimal n)) && list_all is_ascii_digit (decimal n)) _
    (and_from (nat_lt 0 (length (decimal n))) _ t (decimal_digits n fits)) (no_leading_zero n fits)

-- the digits of a number are read as that number
pub as_number-decimal : (n : ℕ) → n < 2 ^ 64 → as_number (decimal n) ≡ Some n
as_number-decimal n fits =
    let value = digits_value-decimal own n fits in
    let t : nat_lt n (2 ^ 64) ≡ true = grind (arith, nat_tests) in
    cond-true _ _ _ (and_from (is_decimal (decimal n)) _ (is_decimal-decimal n fits) (ap (λ v. nat_lt v (2 ^ 64)) value ∙ t))
    ∙ ap Some value

letter_is_no_digit : (b : ℕ) → is_ascii_alphabetic b ≡ true → is_ascii_digit b ≡ true → ⊥
letter_is_no_digit b letter digit = grind (arith, nat_tests)

-- the parts of a name
pub name_parts : (name : List ℕ) → is_name name ≡ true → (is_ascii_alphabetic (slice_index name 0) ≡ true) × (list_all is_name_byte name ≡ true)
name_parts name is =
    let front = (and_parts (is_ascii_alphabetic (slice_index name 0) && list_all is_name_byte name) _ is).0 in
    and_parts (is_ascii_alphabetic (slice_index name 0)) (list_all is_name_byte name) front

digits_begin : (ds : List ℕ) → 0 < length ds → list_all is_ascii_digit ds ≡ true → is_ascii_digit (slice_index ds 0) ≡ true
digits_begin [] some all = absurd (omega arith)
digits_begin (d ∷ ds) some all = (and_parts (is_ascii_digit d) (list_all is_ascii_digit ds) all).0

-- no name is a number
as_number-name : (name : List ℕ) → is_name name ≡ true → as_number name ≡ None
as_number-name name is =
    cond-false _ _ _ (false_from_ne_true (is_decimal name && nat_lt (digits_value 10 name) (2 ^ 64)) (λ t.
    let digits = decimal_has_digits name (and_parts (is_decimal name) _ t).0 in
    letter_is_no_digit (slice_index name 0) (name_parts name is).0 (digits_begin name digits.0 digits.1)))

lower_digit_at : (ds : List ℕ) (n : ℕ) → list_all is_lower_digit ds ≡ true → n < length ds → is_lower_digit (slice_index ds n) ≡ true
lower_digit_at [] n all within = absurd (omega arith)
lower_digit_at (d ∷ ds) zero all within = (and_parts (is_lower_digit d) (list_all is_lower_digit ds) all).0
lower_digit_at (d ∷ ds) (suc n) all within =
    lower_digit_at ds n (and_parts (is_lower_digit d) (list_all is_lower_digit ds) all).1 (omega arith)

-- the digits of bytes are in lower case
pub encode_lower_digits : (bytes : List ℕ) → IsBytes bytes → list_all is_lower_digit (encode_lower bytes) ≡ true
unfolding encode_with
encode_lower_digits [] fit = refl
encode_lower_digits (b ∷ bytes) fit =
    let small : b < 256 = fit 0 in
    and_from (is_lower_digit (slice_index lower_digits (b / 16))) _ (lower_digit_at lower_digits (b / 16) refl (omega arith))
    (and_from (is_lower_digit (slice_index lower_digits (b % 16))) _ (lower_digit_at lower_digits (b % 16) refl (omega arith))
    (encode_lower_digits bytes (λ i. fit (suc i))))

literal_of-bytes_text : (bytes : List ℕ) → IsBytes bytes → literal_of (bytes_text bytes) ≡ Some bytes
literal_of-bytes_text bytes fit =
    cond-true _ _ _ (encode_lower_digits bytes fit) ∙ ap result_ok (decode_of-encode_lower bytes fit)

plain_again : (most n : ℕ) → n < 2 ^ 64 → n ≤ most → option_map args.Number (option_and_then (at_most most) (as_number (decimal n))) ≡ Some (args.Number n)
plain_again most n fits within =
    let t : nat_le n most ≡ true = grind (arith, nat_tests) in
    ap (λ o. option_map args.Number (option_and_then (at_most most) o)) (as_number-decimal n fits)
    ∙ ap (option_map args.Number) (cond-true _ _ _ t)

module _ (is_bound : List ℕ → Bool) where
  -- an argument is read from its field
  pub arg_again : (shape : Shape) (arg : Arg) → IsArg is_bound shape arg → arg_of is_bound shape (arg_text arg) ≡ Some arg
  arg_again shapes.Value (args.Number n) is = ap (λ o. number_or_name o is_bound (decimal n)) (as_number-decimal n is)
  arg_again shapes.Value (args.Named name) is =
      ap (λ o. number_or_name o is_bound name) (as_number-name name is.0)
      ∙ cond-true _ _ _ (and_from (is_name name) (is_bound name) is.0 is.1)
  arg_again shapes.Type (args.Number n) is = plain_again 4294967295 n (omega (arith, is)) is
  arg_again shapes.Priority (args.Number n) is = plain_again 255 n (omega (arith, is)) is
  arg_again shapes.Text (args.Text bytes) is = ap (option_map args.Text) (literal_of-bytes_text bytes is)
  arg_again shapes.Account (args.Account accounts.Inbound) is = refl
  arg_again shapes.Account (args.Account accounts.Outbound) is = refl
  arg_again shapes.Space (args.In spaces.File) is = refl
  arg_again shapes.Space (args.In spaces.Bulk) is = refl
  arg_again shapes.Space (args.In spaces.Heap) is = refl
  arg_again shapes.Order (args.By keys.ByBytes) is = refl
  arg_again shapes.Order (args.By keys.ByLength) is = refl
  arg_again shape arg is = absurd is

  -- and so are all of them
  pub args_again : (shapes : List Shape) (args : List Arg) → AreArgs is_bound shapes args → args_of is_bound shapes (map arg_text args) ≡ Some args
  args_again [] [] are = refl
  args_again (shape ∷ shapes) (arg ∷ args) are =
      ap (λ o. o >>= λ arg. args_of is_bound shapes (map arg_text args) >>= λ args. Some (arg ∷ args)) (arg_again shape arg are.0)
      ∙ ap (λ o. o >>= λ args. Some (arg ∷ args)) (args_again shapes args are.1)
  args_again [] (arg ∷ args) are = absurd are
  args_again (shape ∷ shapes) [] are = absurd are
