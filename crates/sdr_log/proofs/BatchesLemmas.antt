-- The open batches of a log region, one after another.
use Rattle.std.proofs.Common.{◌≡◌, ◌≤◌, ◌<◌, ◌∙◌, ℕ, zero, suc, ◌+◌, ◌-◌, ◌*◌, Bool, true, false, cond, ◌||◌, ◌==◌, List, [], ◌∷◌, ◌++◌, length, take, drop}
use Rattle.std.proofs.Common.{refl, sym, ap, arith, Some, None, nat_le}
use Rattle.std.specs.Prelude.{Option, option_map}
use Rattle.std.proofs.lemmas.Option.{same_Some, none-some}
use Rattle.std.proofs.lemmas.List.{drop-drop, drop-take, take-take}
use Rattle.std.proofs.lemmas.Bool.Decides.{nat_tests}
use Rattle.sdr_base.specs.Parts.{part}
use Rattle.sdr_log.specs.Batch.{batch_size, end_of}
use Rattle.sdr_log.specs.Frame.{first_number}
use Rattle.sdr_log.specs.Log.{batches_of, records_of}
use Rattle.sdr_log.specs.declared.record.Record.{Record}
use Rattle.sdr_log.specs.Undoing.{records_at}

-- the first open batch, and those behind it
pub record Next (log : List ℕ) (rest : List Record) (end : ℕ) : Type 0 where
  pub count : ℕ
  pub is : count ≡ first_number (take 4 (drop 1 log))
  pub some : 0 < count
  pub fits : 5 + 68 * count ≤ end
  pub fuel : ℕ
  pub behind : List Record
  pub split : rest ≡ records_of count (drop 5 log) ++ behind
  pub batches : batches_of fuel (drop (5 + 68 * count) log) ≡ Some behind
  pub ends : end_of fuel (drop (5 + 68 * count) log) ≡ Some (end - (5 + 68 * count))

module _ (fuel gate : ℕ) (log : List ℕ) (rest : List Record) (end : ℕ) (some : 0 < end) where
  abbrev many : ℕ
  many = first_number (take 4 log)

  abbrev behind_log : List ℕ
  behind_log = drop (4 + 68 * many) log

  by_rest : (found : Option (List Record)) (place : Option ℕ) → (many == 0) ≡ false →
      batches_of fuel behind_log ≡ found → end_of fuel behind_log ≡ place →
      option_map (λ more. records_of many (drop 4 log) ++ more) found ≡ Some rest →
      option_map (λ p. batch_size many + p) place ≡ Some end → Next (gate ∷ log) rest end
  by_rest None place nonzero b e f g = absurd (none-some rest f)
  by_rest (Some found) None nonzero b e f g = absurd (none-some end g)
  by_rest (Some found) (Some place) nonzero b e f g =
      let at : batch_size many + place ≡ end = same_Some _ _ g in
      record {
        count = many;
        is = refl;
        some = grind (arith, nat_tests, nonzero);
        fits = omega (arith, at);
        fuel = fuel;
        behind = found;
        split = sym (same_Some _ _ f);
        batches = ap (λ (n : ℕ). batches_of fuel (drop n (gate ∷ log))) size ∙ b;
        ends = ap (λ (n : ℕ). end_of fuel (drop n (gate ∷ log))) size ∙ e ∙ ap Some (omega (arith, at));
      }
    where
      size : 5 + 68 * many ≡ suc (4 + 68 * many)
      size = omega arith

  by_end : (b : Bool) → (many == 0 || nat_le (length log) (4 + 68 * many)) ≡ b →
      cond b None (option_map (λ more. records_of many (drop 4 log) ++ more) (batches_of fuel behind_log)) ≡ Some rest →
      cond b None (option_map (λ p. batch_size many + p) (end_of fuel behind_log)) ≡ Some end → Next (gate ∷ log) rest end
  by_end true t f g = absurd (none-some rest f)
  by_end false t f g =
      by_rest (batches_of fuel behind_log) (end_of fuel behind_log) (first (many == 0) t) refl refl f g
    where
      first : (a : Bool) → (a || nat_le (length log) (4 + 68 * many)) ≡ false → a ≡ false
      first false t = refl
      first true t = t

  by_gate : (b : Bool) → (gate == 0) ≡ b →
      cond b (Some []) (cond (many == 0 || nat_le (length log) (4 + 68 * many)) None
      (option_map (λ more. records_of many (drop 4 log) ++ more) (batches_of fuel behind_log))) ≡ Some rest →
      cond b (Some 0) (cond (many == 0 || nat_le (length log) (4 + 68 * many)) None
      (option_map (λ p. batch_size many + p) (end_of fuel behind_log))) ≡ Some end → Next (gate ∷ log) rest end
  by_gate true is f g = absurd (omega (arith, some, same_Some 0 end g))
  by_gate false is f g = by_end (many == 0 || nat_le (length log) (4 + 68 * many)) refl f g

-- where the open batches don't end yet, there is a next one
pub next_batch : (fuel : ℕ) (log : List ℕ) (rest : List Record) (end : ℕ) → 0 < end → batches_of fuel log ≡ Some rest →
    end_of fuel log ≡ Some end → Next log rest end
unfolding batches_of end_of
next_batch zero log rest end some b e = absurd (none-some rest b)
next_batch (suc fuel) [] rest end some b e = absurd (none-some rest b)
next_batch (suc fuel) (gate ∷ log) rest end some b e = by_gate fuel gate log rest end some (gate == 0) refl b e

-- where they end, there is none
pub no_batch : (fuel : ℕ) (log : List ℕ) (rest : List Record) → batches_of fuel log ≡ Some rest →
    end_of fuel log ≡ Some 0 → rest ≡ []
unfolding batches_of end_of
no_batch zero log rest b e = absurd (none-some rest b)
no_batch (suc fuel) [] rest b e = absurd (none-some rest b)
no_batch (suc fuel) (gate ∷ log) rest b e = shut (gate == 0) refl b e
  where
    past : (place : Option ℕ) → option_map (λ p. batch_size (first_number (take 4 log)) + p) place ≡ Some 0 → ⊥
    past None g = none-some 0 g
    past (Some place) g = absurd (omega (arith, same_Some _ _ g))

    inside : (c : Bool) → cond c None (option_map (λ p. batch_size (first_number (take 4 log)) + p)
        (end_of fuel (drop (4 + 68 * first_number (take 4 log)) log))) ≡ Some 0 → ⊥
    inside true g = none-some 0 g
    inside false g = past (end_of fuel (drop (4 + 68 * first_number (take 4 log)) log)) g

    shut : (c : Bool) → (gate == 0) ≡ c →
        cond c (Some []) (cond (first_number (take 4 log) == 0 || nat_le (length log) (4 + 68 * first_number (take 4 log))) None
        (option_map (λ more. records_of (first_number (take 4 log)) (drop 4 log) ++ more)
        (batches_of fuel (drop (4 + 68 * first_number (take 4 log)) log)))) ≡ Some rest →
        cond c (Some 0) (cond (first_number (take 4 log) == 0 || nat_le (length log) (4 + 68 * first_number (take 4 log))) None
        (option_map (λ p. batch_size (first_number (take 4 log)) + p)
        (end_of fuel (drop (4 + 68 * first_number (take 4 log)) log)))) ≡ Some 0 → rest ≡ []
    shut true is b e = sym (same_Some [] rest b)
    shut false is b e =
        absurd (inside (first_number (take 4 log) == 0 || nat_le (length log) (4 + 68 * first_number (take 4 log))) e)

-- a part of a region is a part of the disk
pub part-within : (p q m n : ℕ) (x : List ℕ) → q + m ≤ n → part q m (part p n x) ≡ part (p + q) m x
part-within p q m n x inside =
    let e : n ≡ q + (n - q) = omega (arith, inside) in
    let le : m ≤ n - q = omega (arith, inside) in
    ap (λ (k : ℕ). take m (drop q (take k (drop p x)))) e
    ∙ ap (take m) (drop-take q (n - q) (drop p x))
    ∙ take-take m (n - q) (drop q (drop p x)) le
    ∙ ap (take m) (drop-drop q p x)

-- records of the log region are those at their place of the disk
pub records_of-at : (count q n : ℕ) (x : List ℕ) → q + 68 * count ≤ n →
    records_of count (drop q (part 64 n x)) ≡ records_at (64 + q) count x
unfolding records_of
records_of-at zero q n x le = refl
records_of-at (suc count) q n x le =
    let log = part 64 n x in
    let at : 64 + (q + 68) ≡ 64 + q + 68 = omega arith in
    let first : q + 68 ≤ n = omega (arith, le) in
    let after : q + 68 + 68 * count ≤ n = omega (arith, le) in
    let here : part q 68 log ≡ part (64 + q) 68 x = part-within 64 q 68 n x first in
    let line = ap first_number (sym (take-take 4 68 (drop q log) (omega arith)) ∙ ap (take 4) here) in
    let old = sym (short (drop q log)) ∙ ap (part 4 64) here in
    let rest = ap (records_of count) (drop-drop 68 q log) ∙ records_of-at count (q + 68) n x after
    ∙ ap (λ (k : ℕ). records_at k count x) at in
    (λ i. record { line = line i; bytes = old i } ∷ rest i)
  where
    short : (bytes : List ℕ) → part 4 64 (take 68 bytes) ≡ part 4 64 bytes
    short bytes = ap (take 64) (drop-take 4 64 bytes) ∙ take-take 64 64 (drop 4 bytes) (omega arith)
