-- The words of a layout: each is read as it stands, and one that is set stands in its place.
use Rattle.std.proofs.Common.{◌≡◌, ℕ, zero, suc, ◌+◌, ◌*◌, ◌<◌, ◌^◌, List, [], ◌∷◌, ◌++◌, take, drop, length, set}
use Rattle.std.proofs.Common.{refl, sym, ap, ◌∙◌, append_assoc, arith, get_or}
use Rattle.std.proofs.lemmas.List.{drop-drop}
use Rattle.byteorder.specs.Endian.{big_bytes}
use Rattle.byteorder.specs.Numbers.{big_number-reads_back}
use Rattle.byteorder.specs.Numbers.{big_from-cons}
use Rattle.byteorder.specs.Endian.{big_from}
use Rattle.sdr_base.specs.Parts.{overwrite}
use Rattle.sdr_base.specs.Stored.{number_at}
use Rattle.sdr_base.specs.Words.{layout}

drop_one : (n w : ℕ) (xs : List ℕ) → drop (8 * suc n) (big_bytes 8 w ++ xs) ≡ drop (8 * n) xs
drop_one n w xs =
    let e : 8 * suc n ≡ 8 + 8 * n = omega arith in
    ap (λ k. drop k (big_bytes 8 w ++ xs)) e ∙ sym (drop-drop (8 * n) 8 (big_bytes 8 w ++ xs))

take_one : (n w : ℕ) (xs : List ℕ) → take (8 * suc n) (big_bytes 8 w ++ xs) ≡ big_bytes 8 w ++ take (8 * n) xs
take_one n w xs =
    let e : 8 * suc n ≡ suc (suc (suc (suc (suc (suc (suc (suc (8 * n)))))))) = omega arith in
    ap (λ k. take k (big_bytes 8 w ++ xs)) e

-- eight bytes further on, behind a word
behind : (k n w : ℕ) (xs : List ℕ) → big_from (8 + k) n (big_bytes 8 w ++ xs) ≡ big_from k n xs
behind k n w xs =
    let e : 8 + k ≡ suc (suc (suc (suc (suc (suc (suc (suc k))))))) = omega arith in
    ap (λ i. big_from i n (big_bytes 8 w ++ xs)) e
    ∙ big_from-cons _ n _ _ ∙ big_from-cons _ n _ _ ∙ big_from-cons _ n _ _ ∙ big_from-cons _ n _ _
    ∙ big_from-cons _ n _ _ ∙ big_from-cons _ n _ _ ∙ big_from-cons _ n _ _ ∙ big_from-cons _ n _ _

-- a word is read as it stands
pub number_at-layout : (ws rest : List ℕ) (n : ℕ) → n < length ws → get_or ws n 0 < 2 ^ 64 →
    number_at (8 * n) (layout ws rest) ≡ get_or ws n 0
unfolding number_at layout
number_at-layout [] rest n h f = absurd (omega arith)
number_at-layout (w ∷ ws) rest zero h f = big_number-reads_back 8 w (layout ws rest) f
number_at-layout (w ∷ ws) rest (suc n) h f =
    let e : 8 * suc n ≡ 8 + 8 * n = omega arith in
    ap (λ i. big_from i 8 (big_bytes 8 w ++ layout ws rest)) e ∙ behind (8 * n) 8 w (layout ws rest)
    ∙ number_at-layout ws rest n (omega arith) f

-- one that is set stands in its place
pub overwrite-layout : (ws rest : List ℕ) (n value : ℕ) → n < length ws →
    overwrite (8 * n) (big_bytes 8 value) (layout ws rest) ≡ layout (set ws n value) rest
unfolding layout
overwrite-layout [] rest n value h = absurd (omega arith)
overwrite-layout (w ∷ ws) rest zero value h = refl
overwrite-layout (w ∷ ws) rest (suc n) value h =
    let e : 8 * suc n + 8 ≡ 8 * suc (n + 1) = omega arith in
    let e2 : 8 * (n + 1) ≡ 8 * n + 8 = omega arith in
    ap (λ t. t ++ big_bytes 8 value ++ drop (8 * suc n + 8) (big_bytes 8 w ++ layout ws rest))
    (take_one n w (layout ws rest))
    ∙ ap (λ t. (big_bytes 8 w ++ take (8 * n) (layout ws rest)) ++ big_bytes 8 value ++ t)
    (ap (λ k. drop k (big_bytes 8 w ++ layout ws rest)) e ∙ drop_one (n + 1) w (layout ws rest)
    ∙ ap (λ k. drop k (layout ws rest)) e2)
    ∙ ap (λ t. big_bytes 8 w ++ t) (overwrite-layout ws rest n value (omega arith))

pub length-layout : (ws rest : List ℕ) → length (layout ws rest) ≡ 8 * length ws + length rest
unfolding layout
length-layout [] rest = omega arith
length-layout (w ∷ ws) rest = let ih = length-layout ws rest in omega (arith, ih)

-- words, and bytes behind them
pub layout-append : (words rest : List ℕ) → layout words [] ++ rest ≡ layout words rest
unfolding layout
layout-append [] rest = refl
layout-append (w ∷ ws) rest =
    append_assoc (big_bytes 8 w) (layout ws []) rest ∙ ap (λ (l : List ℕ). big_bytes 8 w ++ l) (layout-append ws rest)
