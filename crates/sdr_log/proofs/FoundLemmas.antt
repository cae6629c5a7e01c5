-- Where the open batches of a log region end.
use Rattle.std.proofs.Common.{◌≡◌, ◌<◌, ℕ, zero, suc, ◌+◌, ◌-◌, ◌*◌, ◌^◌, Bool, true, false}
use Rattle.std.proofs.Common.{cond, ◌||◌, ◌==◌}
use Rattle.std.proofs.Common.{List, [], ◌∷◌, ◌++◌, length, take, drop, refl, sym, ap, ◌∙◌, arith, subst, Some, None}
use Rattle.std.proofs.Common.{length-append, append_assoc, append-nil, nat_le, take-append-drop, length-drop}
use Rattle.std.specs.Prelude.{Option, option_map}
use Rattle.std.proofs.lemmas.Option.{same_Some, none-some}
use Rattle.std.proofs.lemmas.List.{drop-append-le, take-take, length-take-le}
use Rattle.std.proofs.lemmas.Bool.Decides.{nat_tests}
use Rattle.sdr_log.specs.Batch.{batch_size, batch_of, end_of}
use Rattle.sdr_log.specs.Frame.{first_number}
use Rattle.sdr_log.specs.Log.{AreLines, batches_of, records_of}
use Rattle.sdr_log.specs.declared.record.Record.{Record}
use Rattle.sdr_log.proofs.BatchLemmas.{batches_of-one, end_of-one, AreShort}
use Rattle.sdr_log.proofs.BehindLemmas.{Behind, behind_none, behind_one_more, records_of-append}

-- a log region is its open batches, a closed gate at the place, and anything
pub record Found (fuel : ℕ) (log : List ℕ) (records : List Record) (place : ℕ) : Type 0 where
  pub before : List ℕ
  pub rest : List ℕ
  pub split : log ≡ before ++ 0 ∷ rest
  pub at : length before ≡ place
  pub behind : Behind fuel before records

-- One batch, and what is found behind it.
module _ (fuel gate : ℕ) (log : List ℕ) where
  abbrev count : ℕ
  count = first_number (take 4 log)

  abbrev size : ℕ
  size = 4 + 68 * count

  abbrev body : List ℕ
  body = take size log

  abbrev own : List Record
  own = records_of count (drop 4 log)

  found_one_more : (records : List Record) (place : ℕ) → (gate == 0) ≡ false → (count == 0) ≡ false →
      size < length log → Found fuel (drop size log) records place →
      Found (suc fuel) (gate ∷ log) (own ++ records) (batch_size count + place)
  found_one_more records place is_open some inside f =
      let long : length body ≡ size = length-take-le size log (omega (arith, inside)) in
      let same : first_number (take 4 body) ≡ count = ap first_number (take-take 4 size log (omega arith)) in
      let many : length body ≡ 4 + 68 * first_number (take 4 body) = long ∙ ap (λ (n : ℕ). 4 + 68 * n) (sym same) in
      let whole : body ++ drop size log ≡ log = take-append-drop size log in
      let read : records_of (first_number (take 4 body)) (drop 4 body) ≡ own =
      ap (λ (n : ℕ). records_of n (drop 4 body)) same
      ∙ sym (records_of-append count (drop 4 body) (drop size log) (omega (arith, long, length-drop 4 body)))
      ∙ ap (records_of count) (sym (drop-append-le 4 body (drop size log) (omega (arith, long))))
      ∙ ap (λ (l : List ℕ). records_of count (drop 4 l)) whole in
      let b = behind_one_more fuel gate body f.before records is_open many
      (ap (λ (n : ℕ). n == 0) same ∙ some) f.behind in
      record {
        before = gate ∷ body ++ f.before;
        rest = f.rest;
        split = ap (λ (l : List ℕ). gate ∷ l)
            (sym whole ∙ ap (λ (l : List ℕ). body ++ l) f.split ∙ sym (append_assoc body f.before (0 ∷ f.rest)));
        at = omega (arith, length-append body f.before, long, f.at);
        behind = subst (λ (l : List Record). Behind (suc fuel) (gate ∷ body ++ f.before) (l ++ records)) read b;
      }

  -- the same, from what is read
  module _ (records : List Record) (place : ℕ)
      (each : (rs : List Record) (p : ℕ) → batches_of fuel (drop size log) ≡ Some rs →
      end_of fuel (drop size log) ≡ Some p → Found fuel (drop size log) rs p) where
    by_rest : (found : Option (List Record)) (end : Option ℕ) → (gate == 0) ≡ false → (count == 0) ≡ false →
        size < length log → batches_of fuel (drop size log) ≡ found → end_of fuel (drop size log) ≡ end →
        option_map (λ rest. own ++ rest) found ≡ Some records →
        option_map (λ p. batch_size count + p) end ≡ Some place → Found (suc fuel) (gate ∷ log) records place
    by_rest None end is_open some inside rs p e g = absurd (none-some records e)
    by_rest (Some found) None is_open some inside rs p e g = absurd (none-some place g)
    by_rest (Some found) (Some end) is_open some inside rs p e g =
        let r : own ++ found ≡ records = same_Some _ _ e in
        let q : batch_size count + end ≡ place = same_Some _ _ g in
        let f = found_one_more found end is_open some inside (each found end rs p) in
        subst (λ (l : List Record). Found (suc fuel) (gate ∷ log) l place) r
        (subst (λ (n : ℕ). Found (suc fuel) (gate ∷ log) (own ++ found) n) q f)

    by_end : (b : Bool) → (gate == 0) ≡ false → (count == 0 || nat_le (length log) size) ≡ b →
        cond b None (option_map (λ rest. own ++ rest) (batches_of fuel (drop size log))) ≡ Some records →
        cond b None (option_map (λ p. batch_size count + p) (end_of fuel (drop size log))) ≡ Some place →
        Found (suc fuel) (gate ∷ log) records place
    by_end true is_open t e g = absurd (none-some records e)
    by_end false is_open t e g =
        by_rest (batches_of fuel (drop size log)) (end_of fuel (drop size log)) is_open (grind (arith, nat_tests, t))
        (inside count (length log) size t) refl refl e g
      where
        inside : (n k m : ℕ) → (n == 0 || nat_le k m) ≡ false → m < k
        inside n k m f = grind (arith, nat_tests)

    by_gate : (b : Bool) → (gate == 0) ≡ b →
        cond b (Some []) (cond (count == 0 || nat_le (length log) size) None
        (option_map (λ rest. own ++ rest) (batches_of fuel (drop size log)))) ≡ Some records →
        cond b (Some 0) (cond (count == 0 || nat_le (length log) size) None
        (option_map (λ p. batch_size count + p) (end_of fuel (drop size log)))) ≡ Some place →
        Found (suc fuel) (gate ∷ log) records place
    by_gate true is e g =
        let none : [] ≡ records = same_Some _ _ e in
        let first : 0 ≡ place = same_Some _ _ g in
        let shut : gate ≡ 0 = grind (arith, nat_tests) in
        subst (λ (l : List Record). Found (suc fuel) (gate ∷ log) l place) none record {
          before = [];
          rest = log;
          split = ap (λ (n : ℕ). n ∷ log) shut;
          at = first;
          behind = behind_none (suc fuel) (omega arith);
        }
    by_gate false is e g = by_end (count == 0 || nat_le (length log) size) is refl e g

pub found : (fuel : ℕ) (log : List ℕ) (records : List Record) (place : ℕ) →
    batches_of fuel log ≡ Some records → end_of fuel log ≡ Some place → Found fuel log records place
unfolding batches_of end_of
found zero log records place is ends = absurd (none-some records is)
found (suc fuel) [] records place is ends = absurd (none-some records is)
found (suc fuel) (gate ∷ log) records place is ends =
    by_gate fuel gate log records place (λ rs p. found fuel (drop (4 + 68 * first_number (take 4 log)) log) rs p)
    (gate == 0)
    refl is ends

pub batches_of-closed : (fuel gate : ℕ) (log : List ℕ) → gate ≡ 0 → batches_of (suc fuel) (gate ∷ log) ≡ Some []
unfolding batches_of
batches_of-closed fuel gate log is = rw is refl

pub end_of-closed : (fuel gate : ℕ) (log : List ℕ) → gate ≡ 0 → end_of (suc fuel) (gate ∷ log) ≡ Some 0
unfolding end_of
end_of-closed fuel gate log is = rw is refl

-- an open gate is open whatever its value
pub batches_of-gate : (fuel a b : ℕ) (log : List ℕ) → (a == 0) ≡ (b == 0) →
    batches_of fuel (a ∷ log) ≡ batches_of fuel (b ∷ log)
unfolding batches_of
batches_of-gate zero a b log is = refl
batches_of-gate (suc fuel) a b log is = rw is refl

end_of-gate : (fuel a b : ℕ) (log : List ℕ) → (a == 0) ≡ (b == 0) → end_of fuel (a ∷ log) ≡ end_of fuel (b ∷ log)
unfolding end_of
end_of-gate zero a b log is = refl
end_of-gate (suc fuel) a b log is = rw is refl

-- Other bytes from the closed gate on.
module _ (fuel : ℕ) (log : List ℕ) (records : List Record) (place : ℕ) (f : Found fuel log records place) where
  abbrev left : ℕ
  left = f.behind.left

  abbrev lesser : ℕ
  lesser = f.behind.left - 1

  -- where the gate stays closed, the open batches are the same
  pub found_closed : (rest : List ℕ) → (batches_of fuel (f.before ++ 0 ∷ rest) ≡ Some records)
      × (end_of fuel (f.before ++ 0 ∷ rest) ≡ Some place)
  found_closed rest =
      let is : left ≡ suc lesser = omega (arith, f.behind.some) in (
        f.behind.batches (0 ∷ rest) (omega arith)
            ∙ ap (λ (n : ℕ). option_map (λ more. records ++ more) (batches_of n (0 ∷ rest))) is
            ∙ ap (option_map (λ more. records ++ more)) (batches_of-closed lesser 0 rest refl)
            ∙ ap Some (append-nil records),
        f.behind.ends (0 ∷ rest) (omega arith)
            ∙ ap (λ (n : ℕ). option_map (λ p. length f.before + p) (end_of n (0 ∷ rest))) is
            ∙ ap (option_map (λ p. length f.before + p)) (end_of-closed lesser 0 rest refl)
            ∙ ap Some (omega (arith, f.at)),
      )

  -- where it is open before a batch of others, these are open too
  pub found_opened : (gate : ℕ) (others : List Record) (junk : List ℕ) → (gate == 0) ≡ false → AreShort others →
      AreLines others → 0 < length others → length others < 2 ^ 32 → place + 5 + 68 * length others < fuel →
      (batches_of fuel (f.before ++ gate ∷ (batch_of others ++ junk)) ≡ Some (records ++ others))
      × (end_of fuel (f.before ++ gate ∷ (batch_of others ++ junk)) ≡ Some (place + batch_size (length others)))
  found_opened gate others junk is_open short lines some few fits =
      let less = left - 2 in
      let is : left ≡ suc (suc less) = omega (arith, f.behind.all, f.behind.few, f.at, fits, some) in
      let tail = gate ∷ batch_of others ++ junk in (
        f.behind.batches tail (omega arith)
            ∙ ap (option_map (λ more. records ++ more))
            (batches_of-gate left gate 1 (batch_of others ++ junk) is_open
            ∙ ap (λ (n : ℕ). batches_of n (1 ∷ batch_of others ++ junk)) is
            ∙ batches_of-one others junk short lines some few less),
        f.behind.ends tail (omega arith)
            ∙ ap (option_map (λ p. length f.before + p))
            (end_of-gate left gate 1 (batch_of others ++ junk) is_open
            ∙ ap (λ (n : ℕ). end_of n (1 ∷ batch_of others ++ junk)) is
            ∙ end_of-one others junk short lines some few less)
            ∙ ap Some (omega (arith, f.at)),
      )
