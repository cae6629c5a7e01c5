-- Bytes cut at the first of one value.
use Rattle.std.proofs.Common.{◌≡◌, ◌==◌, ◌+◌, ◌-◌, ℕ, List, [], ◌∷◌, None, Some, length, length-drop, take, drop, ap, sym, ◌∙◌, arith}
use Rattle.std.proofs.lemmas.Bool.{false_from_ne_true}
use Rattle.std.proofs.lemmas.List.{get_or_default, take_all}
use Rattle.std.proofs.lemmas.List.Splits.{slice_split_first, slice_split_none}
use Rattle.std.proofs.lemmas.List.Sums.{position_or_len_is}
use Rattle.std.specs.List.{position_or_len, slice_split}
use Rattle.bstr.specs.Find.{IsFirstByte, is_byte}

-- the first part ends at the first such byte
pub split_cut : (byte : ℕ) (bytes : List ℕ) (end : ℕ) → IsFirstByte (is_byte byte) bytes (Some end)
    → slice_split (λ b. b == byte) bytes
    ≡ take end bytes ∷ slice_split (λ b. b == byte) (take (length bytes - (end + 1)) (drop (end + 1) bytes))
split_cut byte bytes end first =
    let here : position_or_len (λ b. b == byte) bytes ≡ end =
    position_or_len_is (λ b. b == byte) bytes end 0 (omega (arith, first.0.high))
    (λ k lt. false_from_ne_true _ (first.0.before k (omega arith) lt)) (λ _. first.1) in
    let whole = take_all (length bytes - (end + 1)) (drop (end + 1) bytes) (omega (arith, length-drop (end + 1) bytes)) in
    slice_split_first (λ b. b == byte) bytes 0 (omega (arith, here, first.0.high))
    ∙ ap (λ n. take n bytes ∷ slice_split (λ b. b == byte) (drop (n + 1) bytes)) here
    ∙ ap (λ l. take end bytes ∷ slice_split (λ b. b == byte) l) (sym whole)

-- bytes without such a byte are one part
pub split_uncut : (byte : ℕ) (bytes : List ℕ) → IsFirstByte (is_byte byte) bytes None → slice_split (λ b. b == byte) bytes ≡ bytes ∷ []
split_uncut byte bytes none = slice_split_none (λ b. b == byte) bytes (λ k d lt.
    ap (λ b. b == byte) (get_or_default bytes k d 0 lt) ∙ false_from_ne_true _ (none k (omega arith) lt))
