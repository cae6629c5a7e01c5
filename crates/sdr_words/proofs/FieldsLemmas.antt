-- A part of a line cut behind its first field.
use Rattle.std.proofs.Common.{◌≡◌, ◌≢◌, ◌==◌, ◌<◌, ◌+◌, ◌-◌, ℕ, List, [], ◌∷◌, true, false, None, Some, zero, suc, add-one, not, filter, length, length-drop, length-take, slice_index, take, drop, ap, sym, ◌∙◌, arith}
use Rattle.std.proofs.lemmas.Bool.{cond-true, eqb-true}
use Rattle.std.proofs.lemmas.Bool.Decides.{nat_tests}
use Rattle.std.proofs.lemmas.List.{take_all}
use Rattle.std.proofs.Math.Seq.{drop-cons}
use Rattle.std.specs.List.{slice_split}
use Rattle.bstr.specs.Find.{IsFirstByte, is_byte}
use Rattle.sdr_words.proofs.SplitLemmas.{split_cut, split_uncut}
use Rattle.sdr_words.specs.Fields.{fields_of}

-- spaces at the front say nothing
pub fields_of-space : (b : ℕ) (rest : List ℕ) → b ≡ 32 → fields_of (b ∷ rest) ≡ fields_of rest
fields_of-space b rest is = ap (λ b. fields_of (b ∷ rest)) is

-- a part that has a byte is a field
pub kept : (part : List ℕ) (parts : List (List ℕ)) → 0 < length part → filter (λ field. not (length field == 0)) (part ∷ parts)
    ≡ part ∷ filter (λ field. not (length field == 0)) parts
kept part parts some =
    let t : not (length part == 0) ≡ true = grind (arith, nat_tests) in cond-true (not (length part == 0)) _ _ t

-- a space that isn't the first byte stands behind it
behind_first : (rest : List ℕ) (end : ℕ) → slice_index rest 0 ≢ 32 → (slice_index rest end == 32) ≡ true → 0 < end
behind_first rest zero first is = absurd (first (eqb-true _ _ is))
behind_first rest (suc end) first is = omega arith

-- what stands behind the first field begins with a space
behind_field : (rest : List ℕ) (end : ℕ) → end < length rest → (slice_index rest end == 32) ≡ true
    → fields_of (take (length rest - end) (drop end rest)) ≡ fields_of (take (length rest - (end + 1)) (drop (end + 1) rest))
behind_field rest end within is =
    let whole = take_all (length rest - end) (drop end rest) (omega (arith, length-drop end rest)) in
    let after = take_all (length rest - (end + 1)) (drop (end + 1) rest) (omega (arith, length-drop (end + 1) rest)) in
    ap fields_of (whole ∙ drop-cons rest end 0 within) ∙ fields_of-space (slice_index rest end) (drop (suc end) rest) (eqb-true _ _ is)
    ∙ ap (λ n. fields_of (drop n rest)) (sym (add-one end)) ∙ ap fields_of (sym after)

-- the first field ends at the first space
pub field_cut : (rest : List ℕ) (end : ℕ) → slice_index rest 0 ≢ 32 → IsFirstByte (is_byte 32) rest (Some end)
    → fields_of rest ≡ take end rest ∷ fields_of (take (length rest - end) (drop end rest))
field_cut rest end first found =
    let some = behind_first rest end first found.1 in
    ap (filter (λ field. not (length field == 0))) (split_cut 32 rest end found)
    ∙ kept (take end rest) (slice_split (λ b. b == 32) (take (length rest - (end + 1)) (drop (end + 1) rest))) (omega (arith, some, found.0.high, length-take end rest))
    ∙ ap (λ l. take end rest ∷ l) (sym (behind_field rest end (omega (arith, found.0.high)) found.1))

-- a rest without a space is one field
pub field_uncut : (rest : List ℕ) → (length rest == 0) ≡ false → IsFirstByte (is_byte 32) rest None → fields_of rest ≡ rest ∷ fields_of []
field_uncut rest some none =
    let t : 0 < length rest = grind (arith, nat_tests) in
    ap (filter (λ field. not (length field == 0))) (split_uncut 32 rest none) ∙ kept rest [] t

pub ruleset cutting = (field_cut, field_uncut)
