-- Why the records that are read are those of the open batches.
use Rattle.std.proofs.Common.{◌≡◌, ◌≢◌, ◌≤◌, ◌<◌, inl, inr, ℕ, zero, suc, ◌+◌, ◌-◌, ◌*◌, Bool, true, false, cond}
use Rattle.std.proofs.Common.{◌||◌, ◌==◌, List, [], ◌∷◌, ◌++◌, length, take, drop, refl, sym, ap, ◌∙◌}
use Rattle.std.proofs.Common.{true≢false, subst, arith, nat_le, append-nil, append_assoc, length-drop, Some, None}
use Rattle.std.specs.Prelude.{Option, option_and_then, option_map, slice_set, if◌then◌else◌}
use Rattle.std.proofs.lemmas.Option.{same_Some, none-some}
use Rattle.std.proofs.lemmas.Bool.{cases_eq}
use Rattle.std.proofs.lemmas.Bool.Decides.{nat_tests}
use Rattle.std.proofs.lemmas.Grind.{common_steps}
use Rattle.std.proofs.lemmas.List.{length-set}
use Rattle.sdr_log.specs.BackErrors.{OnBadLog}
use Rattle.sdr_log.specs.Frame.{first_number}
use Rattle.sdr_log.specs.Log.{are_good, batches_of, names_line, records_of}
use Rattle.sdr_log.specs.Reading.{IsBad, IsMarked, IsWrong, Noted, ReadsBatch, good_records, if_good, noted}
use Rattle.sdr_log.specs.declared.error.BackError.{BackError}
use Rattle.sdr_log.specs.declared.error.BackError.TheVariants as errors
use Rattle.sdr_log.specs.declared.record.Record.{Record}
use Rattle.sdr_log.proofs.FoundLemmas.{batches_of-closed}
use Rattle.sdr_log.proofs.GoodLemmas.{are_good-before, are_good-last}
use Rattle.sdr_log.proofs.RecordsLemmas.{are_good-push, names_line-push}

-- one record more, whose line no other names
pub IsMarked-push : (records : List Record) (r : Record) (marks : List Bool) → IsMarked records marks →
    (r.line < length marks) × (names_line records r.line ≡ false) →
    IsMarked (records ++ r ∷ []) (slice_set marks r.line true)
IsMarked-push records r marks m (lt, free) = record {
  good =
      subst (λ (n : ℕ). are_good n (records ++ r ∷ []) ≡ true) (sym (length-set marks r.line true))
      (are_good-push (length marks) records r m.good lt free);
  told = λ line lt'. elim (cases_eq r.line line) [
    | inl same ↦ grind (arith, nat_tests, common_steps, names_line-push records r line)
    | inr other ↦ grind (arith, nat_tests, common_steps, names_line-push records r line, m.told line)
  ];
}

-- a test that isn't true is false
is_false : (b : Bool) → (b ≡ true → ⊥) → b ≡ false
is_false true never = absurd (never refl)
is_false false never = refl

-- a record that may be added is of the heap, and no other names its line
pub IsBad-refused : (n : Noted) (r : Record) →
    ((r.line < n.lines) × (names_line n.records r.line ≡ false) → ⊥) → IsBad n (r ∷ [])
IsBad-refused n r never = is_false _ (λ good. never (are_good-last n.lines n.records r good))

-- where the first of more records can't stand, all can't
pub IsBad-more : (n : Noted) (first more : List Record) → IsBad n first → IsBad n (first ++ more)
IsBad-more n first more bad =
    is_false _ (λ good. true≢false (sym (are_good-before n.lines (n.records ++ first) more
    (ap (are_good n.lines) (append_assoc n.records first more) ∙ good)) ∙ bad))

-- one record from the front, and the others
pub noted_one_more : (n : Noted) (count : ℕ) (bytes : List ℕ) → (r : Record) →
    r ≡ record { line = first_number (take 4 bytes); bytes = take 64 (drop 4 bytes) } →
    noted (noted n (r ∷ [])) (records_of count (drop 68 bytes)) ≡ noted n (records_of (suc count) bytes)
unfolding records_of
noted_one_more n count bytes r is =
    ap (λ (l : List Record). record { lines = n.lines; records = l })
    (append_assoc n.records (r ∷ []) (records_of count (drop 68 bytes))
    ∙ ap (λ (o : Record). n.records ++ o ∷ records_of count (drop 68 bytes)) is)

-- no more records
pub noted_none : (n : Noted) (bytes : List ℕ) → noted n (records_of 0 bytes) ≡ n
unfolding records_of
noted_none n bytes = ap (λ (l : List Record). record { lines = n.lines; records = l }) (append-nil n.records)

pub IsBad-first : (n : Noted) (count : ℕ) (bytes : List ℕ) (r : Record) →
    r ≡ record { line = first_number (take 4 bytes); bytes = take 64 (drop 4 bytes) } → IsBad n (r ∷ []) →
    IsBad n (records_of (suc count) bytes)
unfolding records_of
IsBad-first n count bytes r is bad =
    subst (λ (o : Record). IsBad n (o ∷ records_of count (drop 68 bytes))) is
    (IsBad-more n (r ∷ []) (records_of count (drop 68 bytes)) bad)

-- Behind an open gate.

-- a batch that is empty, or too long for the region
pub IsWrong-batch : (n : Noted) (bytes : List ℕ) →
    (first_number (take 4 bytes) == 0 || nat_le (length bytes) (4 + 68 * first_number (take 4 bytes))) ≡ true →
    IsWrong n bytes
unfolding batches_of
IsWrong-batch n bytes why zero gate records is_open is = absurd (none-some records is)
IsWrong-batch n bytes why (suc fuel) gate records is_open is =
    let g : (gate == 0) ≡ false = grind (arith, nat_tests, is_open) in
    absurd (none-some records (rw (g, why) at is))

-- what is found behind an open gate, as its records and those of the batches behind it
record Opened (bytes : List ℕ) (fuel : ℕ) (records : List Record) : Type 0 where
  more : List Record
  is : records ≡ records_of (first_number (take 4 bytes)) (drop 4 bytes) ++ more

opened : (bytes : List ℕ) (fuel gate : ℕ) (records : List Record) → gate ≢ 0 →
    batches_of (suc fuel) (gate ∷ bytes) ≡ Some records → Opened bytes fuel records
unfolding batches_of
opened bytes fuel gate records is_open is =
    by_end (count == 0 || nat_le (length bytes) (4 + 68 * count)) (rw (gate_is) at is)
  where
    count : ℕ
    count = first_number (take 4 bytes)

    gate_is : (gate == 0) ≡ false
    gate_is = grind (arith, nat_tests, is_open)

    by_rest : (found : Option (List Record)) →
        option_map (λ rest. records_of (first_number (take 4 bytes)) (drop 4 bytes) ++ rest) found ≡ Some records →
        Opened bytes fuel records
    by_rest None e = absurd (none-some records e)
    by_rest (Some more) e = record { more = more; is = sym (same_Some _ _ e) }

    by_end : (b : Bool) → cond b None
        (option_map (λ rest. records_of (first_number (take 4 bytes)) (drop 4 bytes) ++ rest)
        (batches_of fuel (drop (4 + 68 * first_number (take 4 bytes)) bytes))) ≡ Some records →
        Opened bytes fuel records
    by_end true e = absurd (none-some records e)
    by_end false e = by_rest (batches_of fuel (drop (4 + 68 * first_number (take 4 bytes)) bytes)) e

-- a batch with a record that can't stand
pub IsWrong-records : (n : Noted) (bytes : List ℕ) → IsBad n (records_of (first_number (take 4 bytes)) (drop 4 bytes)) →
    IsWrong n bytes
unfolding batches_of
IsWrong-records n bytes bad zero gate records is_open is = absurd (none-some records is)
IsWrong-records n bytes bad (suc fuel) gate records is_open is =
    let o = opened bytes fuel gate records is_open is in
    subst (IsBad n) (sym o.is) (IsBad-more n (records_of (first_number (take 4 bytes)) (drop 4 bytes)) o.more bad)

-- What was found up to here, and what is left to read.
pub record ReadSoFar (lines : ℕ) (log : List ℕ) (n : Noted) (rest : List ℕ) : Type 0 where
  pub fuel : ℕ
  pub enough : length rest ≤ fuel
  pub some : 0 < length rest
  pub same_lines : n.lines ≡ lines
  pub so_far : batches_of (length log) log ≡ option_map (λ more. n.records ++ more) (batches_of fuel rest)

module _ (lines : ℕ) (log : List ℕ) (n : Noted) (gate : ℕ) (bytes : List ℕ)
    (s : ReadSoFar lines log n (gate ∷ bytes)) where
  less : ℕ
  less = s.fuel - 1

  fuel_is : s.fuel ≡ suc less
  unfolding less
  fuel_is = omega (arith, s.enough)

  -- one batch more
  pub read_more : (rest : List ℕ) (m : Noted) → gate ≢ 0 → ReadsBatch bytes rest n m → ReadSoFar lines log m rest
  unfolding less batches_of
  read_more rest m is_open r =
      let count = first_number (take 4 bytes) in
      let own = records_of count (drop 4 bytes) in
      let g : (gate == 0) ≡ false = grind (arith, nat_tests, is_open) in
      let t : (count == 0 || nat_le (length bytes) (4 + 68 * count)) ≡ false =
      grind (arith, nat_tests, r.some, r.inside) in
      let batch : batches_of (suc (s.fuel - 1)) (gate ∷ bytes)
      ≡ option_map (λ more. own ++ more) (batches_of (s.fuel - 1) (drop (4 + 68 * count) bytes)) = rw (g, t) refl in
      record {
        fuel = s.fuel - 1;
        enough = omega (arith, s.enough, ap length r.behind, length-drop (4 + 68 * count) bytes);
        some = omega (arith, r.inside, ap length r.behind, length-drop (4 + 68 * count) bytes);
        same_lines = ap (λ (o : Noted). o.lines) r.records ∙ s.same_lines;
        so_far =
            s.so_far
            ∙ ap (λ (k : ℕ). option_map (λ more. n.records ++ more) (batches_of k (gate ∷ bytes))) fuel_is
            ∙ ap (option_map (λ more. n.records ++ more)) batch
            ∙ together own (batches_of (s.fuel - 1) (drop (4 + 68 * count) bytes))
            ∙ (λ i. option_map (λ more. (sym r.records i).records ++ more) (batches_of (s.fuel - 1) (sym r.behind i)));
      }
    where
      together : (own : List Record) (found : Option (List Record)) →
          option_map (λ more. n.records ++ more) (option_map (λ more. own ++ more) found)
          ≡ option_map (λ more. (n.records ++ own) ++ more) found
      together own None = refl
      together own (Some more) = ap Some (sym (append_assoc n.records own more))

  -- all batches
  pub read_all : gate ≡ 0 → (records : List Record) → records ≡ n.records → are_good n.lines records ≡ true →
      good_records lines log ≡ Some records
  unfolding less
  read_all shut records are good =
      ap (option_and_then (if_good lines))
      (s.so_far
      ∙ ap (λ (k : ℕ). option_map (λ more. n.records ++ more) (batches_of k (gate ∷ bytes))) fuel_is
      ∙ ap (option_map (λ more. n.records ++ more)) (batches_of-closed (s.fuel - 1) gate bytes shut)
      ∙ ap Some (append-nil n.records ∙ sym are))
      ∙ ap (λ b. if b then Some records else None) (ap (λ k. are_good k records) (sym s.same_lines) ∙ good)

-- what is said of the same records
pub IsBad-same : (n m : Noted) (a b : List Record) → noted n a ≡ noted m b → IsBad n a → IsBad m b
IsBad-same n m a b is bad = subst (λ (o : Noted). are_good o.lines o.records ≡ false) is bad

-- of a bad log less is said
pub OnBadLog-then : {P Q : Type 0} (why : BackError) → (P → Q) → OnBadLog why P → OnBadLog why Q
OnBadLog-then errors.BadLog f p = f p
OnBadLog-then errors.DiskFault f p = p
OnBadLog-then errors.NoMemory f p = p
