-- What stands behind open batches: other bytes there change nothing of them.
use Rattle.std.proofs.Common.{◌≡◌, ◌<◌, ◌≤◌, ℕ, zero, suc, ◌+◌, ◌*◌, false, ◌==◌}
use Rattle.std.proofs.Common.{List, [], ◌∷◌, ◌++◌, length, take, drop, refl, sym, ap, ◌∙◌, arith, Some, None}
use Rattle.std.proofs.Common.{length-append, append_assoc, nat_le, length-drop}
use Rattle.std.specs.Prelude.{Option, option_map}
use Rattle.std.proofs.lemmas.List.{drop-append-le, take-append-le}
use Rattle.std.proofs.lemmas.Bool.Decides.{nat_tests}
use Rattle.sdr_log.specs.Batch.{batch_size, end_of}
use Rattle.sdr_log.specs.Frame.{first_number}
use Rattle.sdr_log.specs.Log.{batches_of, records_of}
use Rattle.sdr_log.specs.declared.record.Record.{Record}

-- records are read from as many bytes as they take
pub records_of-append : (count : ℕ) (bytes more : List ℕ) → 68 * count ≤ length bytes →
    records_of count (bytes ++ more) ≡ records_of count bytes
unfolding records_of
records_of-append zero bytes more le = refl
records_of-append (suc count) bytes more le =
    let line = ap first_number (take-append-le 4 bytes more (omega arith)) in
    let old = ap (take 64) (drop-append-le 4 bytes more (omega arith))
    ∙ take-append-le 64 (drop 4 bytes) more (omega (arith, length-drop 4 bytes)) in
    let rest = ap (records_of count) (drop-append-le 68 bytes more (omega arith))
    ∙ records_of-append count (drop 68 bytes) more (omega (arith, length-drop 68 bytes)) in
    (λ i. record { line = line i; bytes = old i } ∷ rest i)

-- Open batches stand before any others: so many batches of these records, in the bytes before them.
pub record Behind (fuel : ℕ) (before : List ℕ) (records : List Record) : Type 0 where
  pub passed : ℕ
  pub left : ℕ
  pub few : 73 * passed ≤ length before
  pub all : fuel ≡ passed + left
  pub some : 0 < left
  pub batches : (rest : List ℕ) → 0 < length rest →
      batches_of fuel (before ++ rest) ≡ option_map (λ more. records ++ more) (batches_of left rest)
  pub ends : (rest : List ℕ) → 0 < length rest →
      end_of fuel (before ++ rest) ≡ option_map (λ place. length before + place) (end_of left rest)

-- none before
pub behind_none : (fuel : ℕ) → 0 < fuel → Behind fuel [] []
behind_none fuel some = record {
  passed = 0;
  left = fuel;
  few = omega arith;
  all = omega arith;
  some = some;
  batches = λ rest long. same (batches_of fuel rest);
  ends = λ rest long. same_place (end_of fuel rest);
}
  where
    same : (found : Option (List Record)) → found ≡ option_map (λ more. [] ++ more) found
    same None = refl
    same (Some records) = refl

    same_place : (found : Option ℕ) → found ≡ option_map (λ place. 0 + place) found
    same_place None = refl
    same_place (Some place) = ap Some (omega arith)

-- a batch more before: its gate is open, and its bytes are those of so many records
module _ (fuel gate : ℕ) (body : List ℕ) (before : List ℕ) (records : List Record)
    (is_open : (gate == 0) ≡ false) (long : length body ≡ 4 + 68 * first_number (take 4 body))
    (some : (first_number (take 4 body) == 0) ≡ false) (b : Behind fuel before records) where
  abbrev count : ℕ
  count = first_number (take 4 body)

  abbrev own : List Record
  own = records_of count (drop 4 body)

  split : (rest : List ℕ) → (body ++ before) ++ rest ≡ body ++ (before ++ rest)
  split rest = append_assoc body before rest

  count_is : (rest : List ℕ) → first_number (take 4 ((body ++ before) ++ rest)) ≡ count
  count_is rest = ap (λ (l : List ℕ). first_number (take 4 l)) (split rest)
      ∙ ap first_number (take-append-le 4 body (before ++ rest) (omega (arith, long)))

  records_are : (rest : List ℕ) → records_of count (drop 4 ((body ++ before) ++ rest)) ≡ own
  records_are rest =
      ap (λ (l : List ℕ). records_of count (drop 4 l)) (split rest)
      ∙ ap (records_of count) (drop-append-le 4 body (before ++ rest) (omega (arith, long)))
      ∙ records_of-append count (drop 4 body) (before ++ rest) (omega (arith, long, length-drop 4 body))

  behind_is : (rest : List ℕ) → drop (4 + 68 * count) ((body ++ before) ++ rest) ≡ before ++ rest
  behind_is rest =
      ap (drop (4 + 68 * count)) (split rest)
      ∙ drop-append-le (4 + 68 * count) body (before ++ rest) (omega (arith, long))
      ∙ ap (λ (l : List ℕ). l ++ (before ++ rest)) (gone (4 + 68 * count) body long)
    where
      gone : (n : ℕ) (l : List ℕ) → length l ≡ n → drop n l ≡ []
      gone n l is = Rattle.std.proofs.lemmas.List.nil_from_length (drop n l) (omega (arith, is, length-drop n l))

  inside : (rest : List ℕ) → 0 < length rest →
      nat_le (length ((body ++ before) ++ rest)) (4 + 68 * count) ≡ false
  inside rest some_rest =
      ap (λ (n : ℕ). nat_le n (4 + 68 * count))
      (length-append (body ++ before) rest
      ∙ ap (λ (n : ℕ). n + length rest) (length-append body before)
      ∙ ap (λ (n : ℕ). n + length before + length rest) long)
      ∙ apart (4 + 68 * count) (length before) (length rest) some_rest
    where
      apart : (n k m : ℕ) → 0 < m → nat_le (n + k + m) n ≡ false
      apart n k m lt = grind (arith, nat_tests)

  together : (found : Option (List Record)) →
      option_map (λ rest. own ++ rest) (option_map (λ more. records ++ more) found)
      ≡ option_map (λ more. (own ++ records) ++ more) found
  together None = refl
  together (Some more) = ap Some (sym (append_assoc own records more))

  together_place : (found : Option ℕ) →
      option_map (λ place. batch_size count + place) (option_map (λ place. length before + place) found)
      ≡ option_map (λ place. length (gate ∷ body ++ before) + place) found
  together_place None = refl
  together_place (Some place) = ap Some (omega (arith, length-append body before, long))

  pub behind_one_more : Behind (suc fuel) (gate ∷ body ++ before) (own ++ records)
  unfolding batches_of end_of
  behind_one_more = record {
    passed = suc b.passed;
    few = omega (arith, b.few, length-append body before, long, counted);
    left = b.left;
    all = omega (arith, b.all);
    some = b.some;
    batches = λ rest long_rest.
        rw (is_open, count_is rest, some, inside rest long_rest, behind_is rest, records_are rest)
        (ap (option_map (λ more. own ++ more)) (b.batches rest long_rest) ∙ together (batches_of b.left rest));
    ends = λ rest long_rest.
        rw (is_open, count_is rest, some, inside rest long_rest, behind_is rest)
        (ap (option_map (λ place. batch_size count + place)) (b.ends rest long_rest)
        ∙ together_place (end_of b.left rest));
  }
    where
      counted : 1 ≤ count
      counted = grind (arith, nat_tests, some)
