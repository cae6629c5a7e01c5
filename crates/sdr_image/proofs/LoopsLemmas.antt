-- Bytes of several lines, written or read line by line.
use Rattle.std.proofs.Common.{◌≡◌, ◌≤◌, ◌<◌, ◌∙◌, ◌⊎◌, ⊎_elim, ℕ, ◌+◌, ◌-◌, ◌*◌, List, [], ◌++◌, length, take, drop, min}
use Rattle.std.proofs.Common.{zero, suc, ◌∷◌, refl, sym, ap, append-nil, arith, length-append, length-drop}
use Rattle.std.proofs.Math.Seq.{take-add}
use Rattle.std.proofs.lemmas.List.{drop-drop, length-take-le, take-append-drop}
use Rattle.std.proofs.lemmas.Slice.{take-put_mid}
use borrow.Rule.Slice.PartMut.{put_mid}
use Rattle.sdr_base.specs.Parts.{overwrite, part}
use Rattle.sdr_base.proofs.PartsLemmas.{length-part, overwrite-behind}

-- all of the bytes
pub take_past : (n : ℕ) (xs : List ℕ) → length xs ≤ n → take n xs ≡ xs
take_past zero [] le = refl
take_past zero (x ∷ xs) le = absurd (omega (arith, le))
take_past (suc n) [] le = refl
take_past (suc n) (x ∷ xs) le = ap (λ (l : List ℕ). x ∷ l) (take_past n xs (omega (arith, le)))

-- as many of the bytes as there are
take-min : (n : ℕ) (xs : List ℕ) → take n xs ≡ take (min n (length xs)) xs
take-min n xs = ⊎_elim
    (λ le. ap (λ (k : ℕ). take k xs) (sym (low le)))
    (λ ge. take_past n xs ge ∙ sym (take_past (min n (length xs)) xs (omega (arith, high ge))))
    (below_or_past n (length xs))
  where
    below_or_past : (a b : ℕ) → (a ≤ b) ⊎ (b ≤ a)
    below_or_past a b = grind arith

    low : n ≤ length xs → min n (length xs) ≡ n
    low le = omega (arith, le)

    high : length xs ≤ n → min n (length xs) ≡ length xs
    high ge = omega (arith, ge)

-- the lines up to there hold all of the bytes
pub all_covered : (place count end line : ℕ) → (0 < count → place + count ≤ 64 * end) → end ≤ line →
    count ≤ 64 * line - place
all_covered place zero end line covers le = omega arith
all_covered place (suc n) end line covers le = omega (arith, covers (omega arith), le)

-- no byte is written
pub nothing_put : (place n : ℕ) (from x : List ℕ) → n ≡ 0 → overwrite place (take n from) x ≡ x
nothing_put place n from x none =
    let here : place + 0 ≡ place = omega arith in
    let last : overwrite place [] x ≡ x =
    ap (λ (l : List ℕ). l ++ drop (place + 0) x) (append-nil (take place x))
    ∙ ap (λ (k : ℕ). take place x ++ drop k x) here
    ∙ take-append-drop place x in
    ap (λ (k : ℕ). overwrite place (take k from) x) none ∙ last

-- no byte is read
pub nothing_read : (place n count : ℕ) (into x : List ℕ) → n ≡ 0 → take n into ≡ part place (min n count) x
nothing_read place n count into x none =
    let few : min n count ≡ 0 = omega (arith, none) in
    ap (λ (k : ℕ). take k into) none ∙ ap (λ (k : ℕ). part place k x) (sym few)

-- One line of a call from a place on over so many bytes: from which of the line's bytes on, and which of the call's bytes.
module _ (place count line at start stop : ℕ) (at_is : at ≡ place + start - 64 * line) (start_is : start ≡ 64 * line - place)
    (stop_is : stop ≡ min (64 * line + 64 - place) count) (begins : place < 64 * line + 64)
    (ends : 64 * line < place + count) where
  pub piece_order : start ≤ stop
  piece_order = omega (arith, start_is, stop_is, begins, ends)

  pub piece_inside : at + (stop - start) ≤ 64
  piece_inside = omega (arith, at_is, start_is, stop_is, begins, ends)

  pub piece_place : 64 * line + at ≡ place + start
  piece_place = omega (arith, at_is, start_is, begins)

  -- the bytes up to there, and those of the line
  pub take_piece : (xs : List ℕ) → length xs ≡ count →
      take (64 * (line + 1) - place) xs ≡ take start xs ++ take (stop - start) (drop start xs)
  take_piece xs long =
      let up_to : min (64 * (line + 1) - place) (length xs) ≡ start + (stop - start) =
      omega (arith, long, start_is, stop_is, begins, ends) in
      take-min (64 * (line + 1) - place) xs ∙ ap (λ (k : ℕ). take k xs) up_to ∙ take-add start (stop - start) xs

  -- bytes of a line more are written
  pub put_next : (from x : List ℕ) → length from ≡ count → place + count ≤ length x →
      overwrite (64 * line + at) (take (stop - start) (drop start from)) (overwrite place (take start from) x)
      ≡ overwrite place (take (64 * (line + 1) - place) from) x
  put_next from x long wide =
      let piece = take (stop - start) (drop start from) in
      let front = take start from in
      let few : length front ≡ start = length-take-le start from (omega (arith, long, piece_order, stop_is)) in
      let here : 64 * line + at ≡ place + length front = omega (arith, piece_place, few) in
      ap (λ (k : ℕ). overwrite k piece (overwrite place front x)) here
      ∙ overwrite-behind place front piece x (omega (arith, few, piece_order, stop_is, wide))
      ∙ ap (λ (l : List ℕ). overwrite place l x) (sym (take_piece from long))

  -- a part and the one behind it
  part-both : (p a b : ℕ) (x : List ℕ) → part p (a + b) x ≡ part p a x ++ part (p + a) b x
  part-both p a b x = take-add a b (drop p x) ∙ ap (λ (l : List ℕ). part p a x ++ take b l) (drop-drop a p x)

  -- bytes of a line more are read
  pub read_next : (into bytes x : List ℕ) → length into ≡ count → place + count ≤ length x →
      bytes ≡ part (64 * line + at) (stop - start) x → take start into ≡ part place start x →
      take (64 * (line + 1) - place) (put_mid start (stop - start) into bytes)
      ≡ part place (min (64 * (line + 1) - place) count) x
  read_next into bytes x long wide is before =
      let m = stop - start in
      let after = put_mid start m into bytes in
      let rest = drop m (drop start into) in
      let le : start ≤ length into = omega (arith, long, piece_order, stop_is) in
      let size : length bytes ≡ m =
      ap length is ∙ length-part (64 * line + at) m x (omega (arith, piece_place, piece_order, stop_is, wide)) in
      let all : length after ≡ count =
      omega (
        arith,
        length-append (take start into) (bytes ++ rest),
        length-append bytes rest,
        length-take-le start into le,
        length-drop m (drop start into),
        length-drop start into,
        size,
        long,
        piece_order,
        stop_is,
      ) in
      let up_to : min (64 * (line + 1) - place) count ≡ stop = omega (arith, stop_is) in
      let sum : start + m ≡ stop = omega (arith, piece_order) in
      take-min (64 * (line + 1) - place) after
      ∙ ap (λ (k : ℕ). take (min (64 * (line + 1) - place) k) after) all
      ∙ ap (λ (k : ℕ). take k after) up_to
      ∙ take-put_mid start m into bytes stop (omega (arith, size, sum)) le
      ∙ ap (λ (l : List ℕ). l ++ bytes) before
      ∙ ap (λ (l : List ℕ). part place start x ++ l) (is ∙ ap (λ (k : ℕ). part k m x) piece_place)
      ∙ sym (part-both place start m x)
      ∙ ap (λ (k : ℕ). part place k x) (sum ∙ sym up_to)
