-- A text that is written in several calls.
use Rattle.std.proofs.Common.{◌≡◌, ◌/◌, ◌%◌, ℕ, List, [], ◌∷◌, ◌++◌, Result, Ok, Err, OnErr, ap, sym, ◌∙◌, refl, append_assoc, append-nil, codes, decimal, true, false, length, slice_index, take, drop, take-append-drop, arith}
use Rattle.std.specs.declared.option.Option.{Option}
use Rattle.std.specs.Io.KnownBytes.{Appends}
use Rattle.std.proofs.KnownBytes.{Appends-trans}
use Rattle.hex.specs.Hex.{encode_with, encode_lower, lower_digits}
use Rattle.sdr_base.specs.Written.{AppendsPart}
use Rattle.sdr_base.proofs.WrittenLemmas.{rose_later}
use Rattle.sdr_text.specs.Refused.{field_on}

-- a part of the front is a part of the whole
pub part_front : (old new : Option (List ℕ)) (text more : List ℕ) → AppendsPart old new text → AppendsPart old new (text ++ more)
part_front old new text more p = record { front = p.front; rest = p.rest ++ more; written = p.written; whole = ap (λ l. l ++ more) p.whole ∙ append_assoc p.front p.rest more }

-- a part of what comes behind is a part of the whole, once the front is written
pub part_later : (old now new : Option (List ℕ)) (text more : List ℕ) → Appends old now text → AppendsPart now new more → AppendsPart old new (text ++ more)
part_later old now new text more a p = record { front = text ++ p.front; rest = p.rest; written = Appends-trans old now new text p.front a p.written; whole = ap (λ l. text ++ l) p.whole ∙ sym (append_assoc text p.front p.rest) }

pub ruleset parts = (part_front, part_later, Appends-trans, rose_later, append-nil)

-- the digits of two pieces are those of the whole
pub encode_with-append : (t a b : List ℕ) → encode_with t (a ++ b) ≡ encode_with t a ++ encode_with t b
unfolding encode_with
encode_with-append t [] b = refl
encode_with-append t (x ∷ a) b = ap (λ l. slice_index t (x / 16) ∷ slice_index t (x % 16) ∷ l) (encode_with-append t a b)

-- the digits of a text are those of its first bytes and those of the others
pub digits_split : (rest piece after : List ℕ) (n : ℕ) → piece ≡ take n rest → after ≡ drop n rest → encode_lower rest ≡ encode_lower piece ++ encode_lower after
digits_split rest piece after n front back =
    ap encode_lower (sym (take-append-drop n rest) ∙ (λ i. sym front i ++ sym back i)) ∙ encode_with-append lower_digits piece after

pub no_digits : (rest : List ℕ) → length rest ≡ 0 → encode_lower rest ≡ []
unfolding encode_with
no_digits [] none = refl
no_digits (b ∷ rest) none = absurd (omega arith)

-- what holds of an error holds of the result
pub on_err : {T E : Type 0} {P : Type 0} (r : Result T E) → P → OnErr r P
on_err (Ok x) p = tt
on_err (Err e) p = p

pub on_err_map : {T E : Type 0} {P Q : Type 0} (r : Result T E) → (P → Q) → OnErr r P → OnErr r Q
on_err_map (Ok x) f p = tt
on_err_map (Err e) f p = f p

-- what stands behind a name in the line of its entry, behind the name
pub entry_behind : (t : List ℕ) (kind addr : ℕ) → t ++ (field_on (field_on [] kind) addr ++ codes "\n") ≡ field_on (field_on t kind) addr ++ codes "\n"
entry_behind t kind addr = simp append_assoc
