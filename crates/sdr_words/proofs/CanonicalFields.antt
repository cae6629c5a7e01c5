-- The fields of a canonical line.
use Rattle.std.proofs.Common.{◌≡◌, ◌==◌, ◌&&◌, ◌||◌, ◌<◌, ◌^◌, ℕ, zero, suc, List, [], ◌∷◌, ◌++◌, Bool, true, false, not, length, slice_index, get_or, filter, map, codes, decimal, nat_lt, nat_le, nat_eq, refl, ap, sym, ◌∙◌, true≢false, append_assoc, append-nil, arith}
use Rattle.std.proofs.lemmas.Bool.{and_parts, and_from, false_from_ne_true, eqb-true}
use Rattle.std.proofs.lemmas.Bool.Decides.{nat_tests}
use Rattle.std.proofs.lemmas.Fmt.{decimal_nonempty}
use Rattle.std.proofs.lemmas.List.Folds.{list_all-append}
use Rattle.std.proofs.lemmas.List.Splits.{slice_split_at, slice_split_none}
use Rattle.std.specs.Char.{is_ascii_digit, is_ascii_alphabetic}
use Rattle.std.specs.Cmp.Lexicographic.{pointwise}
use Rattle.std.specs.List.{join_with_byte, list_all, slice_split}
use Rattle.hex.specs.Hex.{encode_lower}
use Rattle.sdr_base.specs.declared.account.Acct.TheVariants as accounts
use Rattle.sdr_base.specs.declared.kind.Space.TheVariants as spaces
use Rattle.sdr_model.specs.declared.keys.Keys.TheVariants as keys
use Rattle.sdr_model.specs.declared.script.Arg.{Arg}
use Rattle.sdr_model.specs.declared.script.Arg.TheVariants as args
use Rattle.sdr_words.proofs.CanonicalArgs.{decimal_digits, encode_lower_digits, list_all-weaker, name_parts}
use Rattle.sdr_words.proofs.FieldsLemmas.{kept}
use Rattle.sdr_words.specs.Canonical.{IsArg, AreArgs, arg_text}
use Rattle.sdr_words.specs.Fields.{fields_of}
use Rattle.sdr_words.specs.Literals.{is_lower_digit}
use Rattle.sdr_words.specs.Script.{is_line_byte, is_skipped}
use Rattle.sdr_words.specs.Words.{is_name, is_name_byte}
use Rattle.sdr_words.specs.declared.verb.Shape.{Shape}
use Rattle.sdr_words.specs.declared.verb.Shape.TheVariants as shapes

-- whether a byte may stand in a field
abbrev pub is_field_byte : ℕ → Bool
is_field_byte b = nat_le 33 b && nat_le b 126

-- whether bytes may be a field
abbrev pub is_field : List ℕ → Bool
is_field field = nat_lt 0 (length field) && list_all is_field_byte field

not_space : (b : ℕ) → is_field_byte b ≡ true → (b == 32) ≡ false
not_space b t = grind (arith, nat_tests)

no_space : (field : List ℕ) → list_all is_field_byte field ≡ true → (k d : ℕ) → k < length field → (get_or field k d == 32) ≡ false
no_space [] t k d lt = absurd (omega arith)
no_space (b ∷ field) t zero d lt = not_space b (and_parts (is_field_byte b) (list_all is_field_byte field) t).0
no_space (b ∷ field) t (suc k) d lt = no_space field (and_parts (is_field_byte b) (list_all is_field_byte field) t).1 k d (omega arith)

field_parts : (field : List ℕ) → is_field field ≡ true → (0 < length field) × (list_all is_field_byte field ≡ true)
field_parts field is =
    let parts = and_parts (nat_lt 0 (length field)) (list_all is_field_byte field) is in
    let t = parts.0 in
    let some : 0 < length field = grind (arith, nat_tests) in
    (some, parts.1)

pub field_from : (field : List ℕ) → 0 < length field → list_all is_field_byte field ≡ true → is_field field ≡ true
field_from field some all =
    let t : nat_lt 0 (length field) ≡ true = grind (arith, nat_tests) in and_from (nat_lt 0 (length field)) _ t all

-- fields with a space between each two are these fields
pub fields_of-join : (field : List ℕ) (fields : List (List ℕ)) → is_field field ≡ true → list_all is_field fields ≡ true
    → fields_of (join_with_byte 32 (field ∷ fields)) ≡ field ∷ fields
fields_of-join field [] is all =
    let parts = field_parts field is in
    ap (filter (λ field. not (length field == 0))) (slice_split_none (λ b. b == 32) field (no_space field parts.1))
    ∙ kept field [] parts.0
fields_of-join field (next ∷ fields) is all =
    let parts = field_parts field is in
    let others = and_parts (is_field next) (list_all is_field fields) all in
    ap (filter (λ field. not (length field == 0))) (slice_split_at (λ b. b == 32) field 32 (join_with_byte 32 (next ∷ fields)) (no_space field parts.1) refl)
    ∙ kept field (slice_split (λ b. b == 32) (join_with_byte 32 (next ∷ fields))) parts.0
    ∙ ap (λ l. field ∷ l) (fields_of-join next fields others.0 others.1)

line_byte : (b : ℕ) → is_field_byte b ≡ true → is_line_byte b ≡ true
line_byte b t = grind (arith, nat_tests)

field_in_line : (field : List ℕ) → is_field field ≡ true → list_all is_line_byte field ≡ true
field_in_line field is = list_all-weaker is_field_byte is_line_byte line_byte field (field_parts field is).1

-- all bytes of such a line may stand in one
pub line_bytes-join : (field : List ℕ) (fields : List (List ℕ)) → is_field field ≡ true → list_all is_field fields ≡ true
    → list_all is_line_byte (join_with_byte 32 (field ∷ fields)) ≡ true
line_bytes-join field [] is all = field_in_line field is
line_bytes-join field (next ∷ fields) is all =
    let others = and_parts (is_field next) (list_all is_field fields) all in
    list_all-append is_line_byte field (32 ∷ join_with_byte 32 (next ∷ fields))
    ∙ and_from (list_all is_line_byte field) _ (field_in_line field is) (line_bytes-join next fields others.0 others.1)

begins_with_digit : (ds more : List ℕ) → 0 < length ds → list_all is_ascii_digit ds ≡ true → is_skipped (ds ++ more) ≡ false
begins_with_digit [] more some all = absurd (omega arith)
begins_with_digit (d ∷ ds) more some all =
    let digit = (and_parts (is_ascii_digit d) (list_all is_ascii_digit ds) all).0 in
    let no_space : (d == 32) ≡ false = grind (arith, nat_tests) in
    let no_comment : (d == 35) ≡ false = grind (arith, nat_tests) in
    ap (λ b. (b && list_all (λ b. b == 32) (ds ++ more)) || d == 35) no_space ∙ no_comment

join-front : (field : List ℕ) (fields : List (List ℕ)) → (more : List ℕ) × (join_with_byte 32 (field ∷ fields) ≡ field ++ more)
join-front field [] = ([], sym (append-nil field))
join-front field (next ∷ fields) = (32 ∷ join_with_byte 32 (next ∷ fields), refl)

-- a line that begins with a digit isn't skipped
pub is_skipped-join : (ds behind : List ℕ) (fields : List (List ℕ)) → 0 < length ds → list_all is_ascii_digit ds ≡ true
    → is_skipped (join_with_byte 32 ((ds ++ behind) ∷ fields)) ≡ false
is_skipped-join ds behind fields some all =
    let front = join-front (ds ++ behind) fields in
    ap is_skipped (front.1 ∙ append_assoc ds behind front.0) ∙ begins_with_digit ds (behind ++ front.0) some all

digit_in_field : (b : ℕ) → is_ascii_digit b ≡ true → is_field_byte b ≡ true
digit_in_field b t = grind (arith, nat_tests)

name_byte_in_field : (b : ℕ) → is_name_byte b ≡ true → is_field_byte b ≡ true
name_byte_in_field b t = grind (arith, nat_tests)

lower_digit_in_field : (b : ℕ) → is_lower_digit b ≡ true → is_field_byte b ≡ true
lower_digit_in_field b t = grind (arith, nat_tests)

-- a number is a field
pub decimal_in_field : (n : ℕ) → n < 2 ^ 64 → list_all is_field_byte (decimal n) ≡ true
decimal_in_field n fits = list_all-weaker is_ascii_digit is_field_byte digit_in_field (decimal n) (decimal_digits n fits)

number_is_field : (n : ℕ) → n < 2 ^ 64 → is_field (decimal n) ≡ true
number_is_field n fits = field_from (decimal n) (decimal_nonempty n fits) (decimal_in_field n fits)

name_is_some : (name : List ℕ) → is_ascii_alphabetic (slice_index name 0) ≡ true → 0 < length name
name_is_some [] letter = absurd (true≢false (sym letter))
name_is_some (b ∷ name) letter = omega arith

-- a name is a field
pub name_is_field : (name : List ℕ) → is_name name ≡ true → is_field name ≡ true
name_is_field name is =
    let parts = name_parts name is in
    field_from name (name_is_some name parts.0) (list_all-weaker is_name_byte is_field_byte name_byte_in_field name parts.1)

module _ (is_bound : List ℕ → Bool) where
  -- so is each argument
  arg_is_field : (shape : Shape) (arg : Arg) → IsArg is_bound shape arg → is_field (arg_text arg) ≡ true
  arg_is_field shapes.Value (args.Number n) is = number_is_field n is
  arg_is_field shapes.Value (args.Named name) is = name_is_field name is.0
  arg_is_field shapes.Type (args.Number n) is = number_is_field n (omega (arith, is))
  arg_is_field shapes.Priority (args.Number n) is = number_is_field n (omega (arith, is))
  arg_is_field shapes.Text (args.Text bytes) is =
      field_from (120 ∷ encode_lower bytes) (omega arith)
      (list_all-weaker is_lower_digit is_field_byte lower_digit_in_field (encode_lower bytes) (encode_lower_digits bytes is))
  arg_is_field shapes.Account (args.Account accounts.Inbound) is = refl
  arg_is_field shapes.Account (args.Account accounts.Outbound) is = refl
  arg_is_field shapes.Space (args.In spaces.File) is = refl
  arg_is_field shapes.Space (args.In spaces.Bulk) is = refl
  arg_is_field shapes.Space (args.In spaces.Heap) is = refl
  arg_is_field shapes.Order (args.By keys.ByBytes) is = refl
  arg_is_field shapes.Order (args.By keys.ByLength) is = refl
  arg_is_field shape arg is = absurd is

  pub args_are_fields : (shapes : List Shape) (args : List Arg) → AreArgs is_bound shapes args → list_all is_field (map arg_text args) ≡ true
  args_are_fields [] [] are = refl
  args_are_fields (shape ∷ shapes) (arg ∷ args) are =
      and_from (is_field (arg_text arg)) _ (arg_is_field shape arg are.0) (args_are_fields shapes args are.1)
  args_are_fields [] (arg ∷ args) are = absurd are
  args_are_fields (shape ∷ shapes) [] are = absurd are

-- what has no byte = is not the field =
not_equals : (p : ℕ → Bool) (field : List ℕ) → p 61 ≡ false → list_all p field ≡ true → pointwise nat_eq field (codes "=") ≡ false
not_equals p [] other all = refl
not_equals p (b ∷ field) other all = false_from_ne_true (pointwise nat_eq (b ∷ field) (codes "=")) (λ t.
    let here = eqb-true b 61 (and_parts (b == 61) (pointwise nat_eq field []) t).0 in
    true≢false (sym (and_parts (p b) (list_all p field) all).0 ∙ ap p here ∙ other))

module _ (is_bound : List ℕ → Bool) where
  -- no argument is the field =
  pub arg_is_no_equals : (shape : Shape) (arg : Arg) → IsArg is_bound shape arg → pointwise nat_eq (arg_text arg) (codes "=") ≡ false
  arg_is_no_equals shapes.Value (args.Number n) is = not_equals is_ascii_digit (decimal n) refl (decimal_digits n is)
  arg_is_no_equals shapes.Value (args.Named name) is = not_equals is_name_byte name refl (name_parts name is.0).1
  arg_is_no_equals shapes.Type (args.Number n) is = not_equals is_ascii_digit (decimal n) refl (decimal_digits n (omega (arith, is)))
  arg_is_no_equals shapes.Priority (args.Number n) is = not_equals is_ascii_digit (decimal n) refl (decimal_digits n (omega (arith, is)))
  arg_is_no_equals shapes.Text (args.Text bytes) is = refl
  arg_is_no_equals shapes.Account (args.Account accounts.Inbound) is = refl
  arg_is_no_equals shapes.Account (args.Account accounts.Outbound) is = refl
  arg_is_no_equals shapes.Space (args.In spaces.File) is = refl
  arg_is_no_equals shapes.Space (args.In spaces.Bulk) is = refl
  arg_is_no_equals shapes.Space (args.In spaces.Heap) is = refl
  arg_is_no_equals shapes.Order (args.By keys.ByBytes) is = refl
  arg_is_no_equals shapes.Order (args.By keys.ByLength) is = refl
  arg_is_no_equals shape arg is = absurd is
