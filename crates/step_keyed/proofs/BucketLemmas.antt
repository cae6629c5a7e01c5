-- The entries of a hash of the machine by bucket, and where a key has its entry.
use Rattle.std.proofs.Common.{◌≡◌, ◌≢◌, ◌∙◌, ◌+◌, ◌<◌, ◌≤◌, ◌==◌, ◌++◌, ℕ, zero, suc, List, [], ◌∷◌, Bool, true, false, true≢false, cond, not, None, Some, find, length, map, take, drop, set, get_or, nat_lt, position, refl, sym, ap, arith, eq-eqb}
use Rattle.std.proofs.lemmas.Bool.{ltb-false, ltb-true, ne_eqb}
use Rattle.std.proofs.lemmas.List.Elements.{filter-append}
use Rattle.std.proofs.lemmas.List.Folds.{find_at}
use Rattle.std.proofs.lemmas.List.Quantifiers.{position-Some}
use Rattle.std.proofs.lemmas.Option.{slice_get-get_or, slice_get_past}
use Rattle.std.specs.Cmp.Lexicographic.{same_text}
use Rattle.std.specs.List.{AllByRecursion, filter, position_or_len, prefix_len}
use Rattle.std.specs.Option.{option_map}
use Rattle.std.specs.Prelude.{slice_get}
use Rattle.sdr_stands.specs.Rows.{item_row}
use Rattle.sdr_hash.specs.Buckets as blocks
use Rattle.law_steps.proofs.HashLemmas.{no_entry}
use Rattle.sdr_model.specs.HashSteps.{bucket_of, has_key}
use Rattle.sdr_model.specs.Hashes.{Hash}
use Rattle.sdr_model.specs.declared.things.HashEntry.{HashEntry}

-- entries, by the bucket of each among so many
module _ (buckets : ℕ) where
  -- those in a bucket
  abbrev pub in_bucket : ℕ → List HashEntry → List HashEntry
  in_bucket bucket es = filter (λ (e : HashEntry). bucket_of buckets e.key == bucket) es

  -- all of them are in this one
  abbrev pub AreIn : ℕ → List HashEntry → Type 0
  AreIn bucket = AllByRecursion (λ (e : HashEntry). bucket_of buckets e.key ≡ bucket)

  -- so none is in another
  none_other : (bucket other : ℕ) (es : List HashEntry) → other ≢ bucket → AreIn bucket es → in_bucket other es ≡ []
  none_other bucket other [] apart all = refl
  none_other bucket other (e ∷ es) apart all =
      ap (λ t. cond t (e ∷ in_bucket other es) (in_bucket other es))
      (ne_eqb (bucket_of buckets e.key) other (λ same. apart (sym same ∙ all.0)))
      ∙ none_other bucket other es apart all.1

  -- and all are in it
  all_in : (bucket : ℕ) (es : List HashEntry) → AreIn bucket es → in_bucket bucket es ≡ es
  all_in bucket [] all = refl
  all_in bucket (e ∷ es) all =
      ap (λ t. cond t (e ∷ in_bucket bucket es) (in_bucket bucket es)) (eq-eqb (bucket_of buckets e.key) bucket all.0)
      ∙ ap (λ (xs : List HashEntry). e ∷ xs) (all_in bucket es all.1)

  -- those of a front, a middle and a back
  in_parts : (bucket : ℕ) (front mid back : List HashEntry)
      → in_bucket bucket (front ++ (mid ++ back))
      ≡ in_bucket bucket front ++ (in_bucket bucket mid ++ in_bucket bucket back)
  in_parts bucket front mid back =
      let test = λ (e : HashEntry). bucket_of buckets e.key == bucket in
      filter-append test front (mid ++ back)
      ∙ ap (λ (xs : List HashEntry). in_bucket bucket front ++ xs) (filter-append test mid back)

  -- other buckets stay where others of one bucket stand in the middle
  pub others_stay : (bucket other : ℕ) (front mid mid' back : List HashEntry) → AreIn bucket mid → AreIn bucket mid'
      → other ≢ bucket
      → in_bucket other (front ++ (mid' ++ back)) ≡ in_bucket other (front ++ (mid ++ back))
  others_stay bucket other front mid mid' back was is apart =
      in_parts other front mid' back
      ∙ ap (λ (xs : List HashEntry). in_bucket other front ++ (xs ++ in_bucket other back))
      (none_other bucket other mid' apart is ∙ sym (none_other bucket other mid apart was))
      ∙ sym (in_parts other front mid back)

  -- and in that one they are others
  pub there_changed : (bucket : ℕ) (front mid back : List HashEntry) → AreIn bucket mid
      → in_bucket bucket (front ++ (mid ++ back)) ≡ in_bucket bucket front ++ (mid ++ in_bucket bucket back)
  there_changed bucket front mid back all =
      in_parts bucket front mid back
      ∙ ap (λ (xs : List HashEntry). in_bucket bucket front ++ (xs ++ in_bucket bucket back)) (all_in bucket mid all)

  -- none in front of a bucket's place is in it
  pub none_in_front : (bucket : ℕ) (es : List HashEntry)
      → in_bucket bucket (take (prefix_len (λ (e : HashEntry). nat_lt (bucket_of buckets e.key) bucket) es) es) ≡ []
  none_in_front bucket [] = refl
  none_in_front bucket (e ∷ es) = step (nat_lt (bucket_of buckets e.key) bucket) refl (none_in_front bucket es)
    where
      front : ℕ
      front = prefix_len (λ (e : HashEntry). nat_lt (bucket_of buckets e.key) bucket) es

      step : (b : Bool) → nat_lt (bucket_of buckets e.key) bucket ≡ b → in_bucket bucket (take front es) ≡ []
          → in_bucket bucket (take (cond b (1 + front) 0) (e ∷ es)) ≡ []
      step false is rest = refl
      step true is rest =
          let lower = ltb-true (bucket_of buckets e.key) bucket is in
          let next : 1 + front ≡ suc front = omega arith in
          ap (λ n. in_bucket bucket (take n (e ∷ es))) next
          ∙ ap (λ t. cond t (e ∷ in_bucket bucket (take front es)) (in_bucket bucket (take front es)))
          (ne_eqb (bucket_of buckets e.key) bucket (λ same. omega (arith, lower, same)))
          ∙ rest

  -- an entry of a key is found among those in its bucket
  pub found_in : (key : List ℕ) (es : List HashEntry)
      → find (blocks.item_has_key key) (map item_row (in_bucket (bucket_of buckets key) es))
      ≡ option_map item_row (find (has_key key) es)
  found_in key [] = refl
  found_in key (e ∷ es) =
      step (has_key key e) (bucket_of buckets e.key == bucket_of buckets key) refl
      (λ keyed. eq-eqb (bucket_of buckets e.key) (bucket_of buckets key)
      (ap (bucket_of buckets) (sym (same_text key e.key (sym keyed))))) (found_in key es)
    where
      here : List HashEntry
      here = in_bucket (bucket_of buckets key) es

      step : (k b : Bool) → has_key key e ≡ k → (has_key key e ≡ true → b ≡ true)
          → find (blocks.item_has_key key) (map item_row here) ≡ option_map item_row (find (has_key key) es)
          → find (blocks.item_has_key key) (map item_row (cond b (e ∷ here) here))
          ≡ option_map item_row (cond k (Some e) (find (has_key key) es))
      step true true is same rest =
          ap (λ t. cond t (Some (item_row e)) (find (blocks.item_has_key key) (map item_row here))) is
      step false true is same rest =
          ap (λ t. cond t (Some (item_row e)) (find (blocks.item_has_key key) (map item_row here))) is ∙ rest
      step false false is same rest = rest
      step true false is same rest = absurd (true≢false (sym (same is)))

-- the entries before the first that passes
none_before : {X : Type 0} (p : X → Bool) (xs : List X) (i : ℕ) → i ≤ position_or_len p xs → find p (take i xs) ≡ None
none_before p [] zero upto = refl
none_before p [] (suc i) upto = refl
none_before p (x ∷ xs) zero upto = refl
none_before {X} p (x ∷ xs) (suc i) upto = step (p x) refl (none_before p xs i)
  where
    step : (b : Bool) → p x ≡ b → (i ≤ position_or_len p xs → find p (take i xs) ≡ None)
        → cond b (Some x) (find p (take i xs)) ≡ None
    step true is rest =
        let none : position_or_len p (x ∷ xs) ≡ 0 = ap (λ t. cond (not t) (1 + position_or_len p xs) 0) is in
        absurd (omega (arith, upto, none))
    step false is rest =
        let more : position_or_len p (x ∷ xs) ≡ 1 + position_or_len p xs =
        ap (λ t. cond (not t) (1 + position_or_len p xs) 0) is in
        rest (omega (arith, upto, more))

-- an element, with those before and behind it
parted : {X : Type 0} (xs : List X) (i : ℕ) (d : X) → i < length xs
    → xs ≡ take i xs ++ (get_or xs i d ∷ drop (suc i) xs)
parted [] i d inside = absurd (omega (arith, inside))
parted (x ∷ xs) zero d inside = refl
parted {X} (x ∷ xs) (suc i) d inside = ap (λ (ys : List X). x ∷ ys) (parted xs i d (omega (arith, inside)))

pub set_parted : {X : Type 0} (xs : List X) (i : ℕ) (y : X) → i < length xs → set xs i y ≡ take i xs ++ (y ∷ drop (suc i) xs)
set_parted [] i y inside = absurd (omega (arith, inside))
set_parted (x ∷ xs) zero y inside = refl
set_parted {X} (x ∷ xs) (suc i) y inside = ap (λ (ys : List X). x ∷ ys) (set_parted xs i y (omega (arith, inside)))

-- a key has its entry at a place
pub record IsKeyed (hash : Hash) (key : List ℕ) (place : ℕ) : Type 0 where
  pub entry : HashEntry
  pub at : position (has_key key) hash.entries ≡ Some place
  pub there : slice_get hash.entries place ≡ Some entry
  pub inside : place < length hash.entries
  pub whole : hash.entries ≡ take place hash.entries ++ (entry ∷ drop (suc place) hash.entries)
  pub none : find (has_key key) (take place hash.entries) ≡ None
  pub keyed : has_key key entry ≡ true
  pub found : find (has_key key) hash.entries ≡ Some entry

-- the place that is found is such a one
pub keyed_at : (hash : Hash) (key : List ℕ) (place : ℕ) → position (has_key key) hash.entries ≡ Some place → IsKeyed hash key place
keyed_at hash key place at =
    let first = position-Some (has_key key) hash.entries place no_entry at in
    let is : position_or_len (has_key key) hash.entries ≡ place = by (nat_lt _ _) at in
    let there = slice_get-get_or hash.entries place no_entry first.0 in
    record {
      entry = get_or hash.entries place no_entry;
      at = at;
      there = there;
      inside = first.0;
      whole = parted hash.entries place no_entry first.0;
      none = none_before (has_key key) hash.entries place (omega (arith, is));
      keyed = first.1;
      found = find_at (has_key key) hash.entries ∙ ap (slice_get hash.entries) is ∙ there;
    }
  where
    by : (b : Bool) → cond b (Some (position_or_len (has_key key) hash.entries)) None ≡ Some place
        → position_or_len (has_key key) hash.entries ≡ place
    by true same = cc
    by false same = absurd cc

-- where none is found, none has the key
pub none_keyed : (hash : Hash) (key : List ℕ) → position (has_key key) hash.entries ≡ None → find (has_key key) hash.entries ≡ None
none_keyed hash key none =
    find_at (has_key key) hash.entries
    ∙ slice_get_past hash.entries (position_or_len (has_key key) hash.entries) (ltb-false _ _ (by (nat_lt _ _) refl none))
  where
    n : ℕ
    n = position_or_len (has_key key) hash.entries

    by : (b : Bool) → nat_lt n (length hash.entries) ≡ b → cond b (Some n) None ≡ None → nat_lt n (length hash.entries) ≡ false
    by false is same = is
    by true is same = absurd cc
