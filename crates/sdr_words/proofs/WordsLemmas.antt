-- Decimal digits as text and as numbers.
use Rattle.std.proofs.Common.{◌≡◌, ◌<◌, ◌^◌, ℕ, List, [], ◌∷◌, true, ◌&&◌, Some, Result, Ok, Err, length, arith, ap, ◌∙◌, sym, nat_lt, rules}
use Rattle.std.proofs.lemmas.Bool.{and_parts, and_from, cond-true, cond-false, false_from_ne_true}
use Rattle.std.proofs.lemmas.Bool.Decides.{nat_tests}
use Rattle.std.proofs.lemmas.Str.{IsUtf8-from_ascii}
use Rattle.std.proofs.lemmas.Str.Ascii.{IsAscii-nil, IsAscii-cons}
use Rattle.std.proofs.lemmas.Str.Parse.{IsNumeralModel, numerals_by_value, parse_digits}
use Rattle.std.specs.Char.{is_ascii_digit}
use Rattle.std.specs.List.{list_all}
use Rattle.std.specs.Result.{result_ok}
use Rattle.std.specs.Str.{IsAscii, IsUtf8}
use Rattle.std.specs.Str.Parse.{digits_value, ParsesUnsigned}
use Rattle.sdr_words.specs.Words.{is_decimal, as_number}

digit_is_ascii : (b : ℕ) → is_ascii_digit b ≡ true → b < 128
digit_is_ascii b d = grind (arith, nat_tests)

-- digits are text
digits_are_ascii : (bs : List ℕ) → list_all is_ascii_digit bs ≡ true → IsAscii bs
digits_are_ascii [] d = IsAscii-nil
digits_are_ascii (b ∷ bs) d =
    let parts = and_parts (is_ascii_digit b) (list_all is_ascii_digit bs) d in
    IsAscii-cons b bs (digit_is_ascii b parts.0) (digits_are_ascii bs parts.1)

-- a decimal number has digits alone, and at least one
pub decimal_has_digits : (bs : List ℕ) → is_decimal bs ≡ true → (0 < length bs) × (list_all is_ascii_digit bs ≡ true)
decimal_has_digits bs d =
    let front = (and_parts (nat_lt 0 (length bs) && list_all is_ascii_digit bs) _ d).0 in
    let parts = and_parts (nat_lt 0 (length bs)) (list_all is_ascii_digit bs) front in
    let some = parts.0 in
    (grind (arith, nat_tests), parts.1)

pub decimal_is_text : (bs : List ℕ) → is_decimal bs ≡ true → IsUtf8 bs
decimal_is_text bs d = IsUtf8-from_ascii bs (digits_are_ascii bs (decimal_has_digits bs d).1)

-- digits as a list of decimal digits
pub own : IsNumeralModel (λ ds. list_all is_ascii_digit ds ≡ true) (digits_value 10)
own = numerals_by_value _ (search rules)

-- what parsing gives of decimal digits
pub parsed-decimal : {E : Type 0} (bs : List ℕ) (r : Result ℕ E) → is_decimal bs ≡ true → ParsesUnsigned 64 10 bs r
    → result_ok r ≡ as_number bs
parsed-decimal {E = E} bs (Ok x) d p =
    let given = parse_digits own {E = E} 64 bs (Ok x) p (decimal_has_digits bs d).1 in
    let fits : nat_lt (digits_value 10 bs) (2 ^ 64) ≡ true = grind (arith, nat_tests, given) in
    ap Some given.1 ∙ sym (cond-true _ _ _ (and_from (is_decimal bs) _ d fits))
parsed-decimal {E = E} bs (Err e) d p =
    let given = parse_digits own {E = E} 64 bs (Err e) p (decimal_has_digits bs d).1 in
    sym (cond-false _ _ _ (false_from_ne_true (is_decimal bs && nat_lt (digits_value 10 bs) (2 ^ 64))
    (λ t. let fits = (and_parts (is_decimal bs) (nat_lt (digits_value 10 bs) (2 ^ 64)) t).1 in
    given ((decimal_has_digits bs d).0, grind (arith, nat_tests)))))
