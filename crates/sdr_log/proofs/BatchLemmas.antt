-- A batch as it stands in the log region, and what is read of it.
use Rattle.std.proofs.Common.{◌≡◌, ◌<◌, ◌≤◌, ℕ, suc, ◌+◌, ◌*◌, ◌^◌, true, false, ◌==◌}
use Rattle.std.proofs.Common.{List, [], ◌∷◌, ◌++◌, length, take, drop, refl, sym, ap, ◌∙◌, arith, Some}
use Rattle.std.proofs.Common.{length-append, append_assoc, append-nil, nat_le}
use Rattle.std.specs.Prelude.{⊤, flat_map}
use Rattle.std.proofs.lemmas.List.{take_at, drop_at}
use Rattle.std.proofs.lemmas.Bool.Decides.{nat_tests}
use Rattle.byteorder.specs.Endian.{big_number}
use Rattle.byteorder.specs.Numbers.{big_number-reads_back, length-bytes_high_first}
use Rattle.sdr_base.specs.Parts.{part}
use Rattle.sdr_log.specs.Batch.{batch_of, encoded, end_of}
use Rattle.sdr_log.specs.Frame.{first_number, four}
use Rattle.sdr_log.specs.Log.{AreLines, are_good, batches_of, records_of}
use Rattle.sdr_log.specs.declared.record.Record.{Record}
use Rattle.sdr_log.proofs.RecordsLemmas.{are_good-cons}

pub length-four : (n : ℕ) → length (four n) ≡ 4
unfolding four
length-four n = length-bytes_high_first 4 n

-- a number in four bytes is read back
first_number-four : (n : ℕ) (rest : List ℕ) → n < 2 ^ 32 → first_number (take 4 (four n ++ rest)) ≡ n
unfolding first_number four
first_number-four n rest lt =
    ap (big_number 4) (take_at (four n) rest 4 (length-four n) ∙ sym (append-nil (four n)))
    ∙ big_number-reads_back 4 n [] lt

length-encoded : (r : Record) → length r.bytes ≡ 64 → length (encoded r) ≡ 68
unfolding encoded
length-encoded r long = omega (arith, length-append (four r.line) r.bytes, length-four r.line, long)

length-all_encoded : (records : List Record) → AreLines records →
    length (flat_map encoded records) ≡ 68 * length records
length-all_encoded [] lines = refl
length-all_encoded (r ∷ records) lines = omega (
  arith,
  length-append (encoded r) (flat_map encoded records),
  length-encoded r lines.0,
  length-all_encoded records lines.1,
)

pub length-batch_of : (records : List Record) → AreLines records → length (batch_of records) ≡ 5 + 68 * length records
unfolding batch_of
length-batch_of records lines = omega (
  arith,
  length-append (four (length records) ++ flat_map encoded records) (0 ∷ []),
  length-append (four (length records)) (flat_map encoded records),
  length-four (length records),
  length-all_encoded records lines,
)

-- the numbers of the lines fit in four bytes
abbrev pub AreShort : List Record → Type 0
AreShort [] = ⊤
AreShort (r ∷ records) = (r.line < 2 ^ 32) × AreShort records

pub AreShort-good : (n : ℕ) (records : List Record) → n ≤ 262144 → are_good n records ≡ true → AreShort records
AreShort-good n [] le good = tt
AreShort-good n (r ∷ records) le good =
    let g = are_good-cons n r records good in (omega (arith, g.0), AreShort-good n records le g.2)

-- one record from the front
one_record : (r : Record) (rest : List ℕ) → r.line < 2 ^ 32 → length r.bytes ≡ 64 →
    (first_number (take 4 (encoded r ++ rest)) ≡ r.line) × (part 4 64 (encoded r ++ rest) ≡ r.bytes)
    × (drop 68 (encoded r ++ rest) ≡ rest)
unfolding encoded
one_record r rest lt long =
    let split : (four r.line ++ r.bytes) ++ rest ≡ four r.line ++ (r.bytes ++ rest) =
    append_assoc (four r.line) r.bytes rest in (
      ap (λ (l : List ℕ). first_number (take 4 l)) split ∙ first_number-four r.line (r.bytes ++ rest) lt,
      ap (λ (l : List ℕ). take 64 (drop 4 l)) split
          ∙ ap (λ (l : List ℕ). take 64 l) (drop_at (four r.line) (r.bytes ++ rest) 4 (length-four r.line))
          ∙ take_at r.bytes rest 64 long,
      drop_at (four r.line ++ r.bytes) rest 68
          (omega (arith, length-append (four r.line) r.bytes, length-four r.line, long)),
    )

-- records are read back
records_of-encoded : (records : List Record) (rest : List ℕ) → AreShort records → AreLines records →
    records_of (length records) (flat_map encoded records ++ rest) ≡ records
unfolding records_of
records_of-encoded [] rest short lines = refl
records_of-encoded (r ∷ records) rest short lines =
    let split : (encoded r ++ flat_map encoded records) ++ rest ≡ encoded r ++ (flat_map encoded records ++ rest) =
    append_assoc (encoded r) (flat_map encoded records) rest in
    let one = one_record r (flat_map encoded records ++ rest) short.0 lines.0 in
    let line = ap (λ (l : List ℕ). first_number (take 4 l)) split ∙ one.0 in
    let bytes = ap (λ (l : List ℕ). part 4 64 l) split ∙ one.1 in
    let behind = ap (λ (l : List ℕ). drop 68 l) split ∙ one.2 in
    (λ i. record { line = line i; bytes = bytes i } ∷ records_of (length records) (behind i))
    ∙ ap (λ (l : List Record). r ∷ l) (records_of-encoded records rest short.1 lines.1)

-- A batch of some records behind an open gate, and anything behind the closed gate that follows.
module _ (records : List Record) (junk : List ℕ) (short : AreShort records) (lines : AreLines records)
    (some : 0 < length records) (few : length records < 2 ^ 32) where
  abbrev n : ℕ
  n = length records

  abbrev body : List ℕ
  body = flat_map encoded records

  abbrev whole : List ℕ
  whole = batch_of records ++ junk

  split : whole ≡ four n ++ (body ++ 0 ∷ junk)
  unfolding batch_of
  split = append_assoc (four n ++ body) (0 ∷ []) junk ∙ append_assoc (four n) body (0 ∷ junk)

  count : first_number (take 4 whole) ≡ n
  count = ap (λ (l : List ℕ). first_number (take 4 l)) split ∙ first_number-four n (body ++ 0 ∷ junk) few

  front : drop 4 whole ≡ body ++ 0 ∷ junk
  front = ap (λ (l : List ℕ). drop 4 l) split ∙ drop_at (four n) (body ++ 0 ∷ junk) 4 (length-four n)

  behind : drop (4 + 68 * n) whole ≡ 0 ∷ junk
  behind =
      ap (λ (l : List ℕ). drop (4 + 68 * n) l) (split ∙ sym (append_assoc (four n) body (0 ∷ junk)))
      ∙ drop_at (four n ++ body) (0 ∷ junk) (4 + 68 * n)
      (omega (arith, length-append (four n) body, length-four n, length-all_encoded records lines))

  size : length whole ≡ 4 + (68 * n + (1 + length junk))
  size = ap length split ∙ omega (
    arith,
    length-append (four n) (body ++ 0 ∷ junk),
    length-append body (0 ∷ junk),
    length-four n,
    length-all_encoded records lines,
  )

  not_empty : (n == 0) ≡ false
  not_empty = grind (arith, nat_tests)

  inside : nat_le (4 + (68 * n + (1 + length junk))) (4 + 68 * n) ≡ false
  inside = grind (arith, nat_tests)

  -- it is the only open one
  pub batches_of-one : (fuel : ℕ) → batches_of (suc (suc fuel)) (1 ∷ whole) ≡ Some records
  unfolding batches_of
  batches_of-one fuel =
      rw (count, size, not_empty, inside, behind, front)
      (ap (λ (l : List Record). Some (l ++ [])) (records_of-encoded records (0 ∷ junk) short lines)
      ∙ ap Some (append-nil records))

  -- and ends at the closed gate
  pub end_of-one : (fuel : ℕ) → end_of (suc (suc fuel)) (1 ∷ whole) ≡ Some (5 + 68 * n + 0)
  unfolding end_of
  end_of-one fuel = rw (count, size, not_empty, inside, behind) refl
