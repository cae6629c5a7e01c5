-- Lists in another order: whatever doesn't depend on the order stays.
use Rattle.std.proofs.Common.{◌≡◌, ℕ, ◌+◌, Bool, true, false, cond, List, [], ◌∷◌, ◌++◌, refl, sym, ap, ◌∙◌, subst, arith, append_assoc, append-nil}
use Rattle.std.specs.Prelude.{All, filter, flat_map, fold, map, not, sum_by}
use Rattle.std.proofs.lemmas.List.{map-append}
use Rattle.std.proofs.lemmas.List.Concat.{flat_map-append}
use Rattle.std.proofs.lemmas.List.Elements.{All-cons, All-head, All-nil, All-tail}
use Rattle.std.proofs.lemmas.List.Folds.{flat_map-map}
use Rattle.std.proofs.lemmas.List.Sums.{sum_by-append, sum_by-cons}
use Rattle.bp_queue.specs.Sorting.{put_in, sorted_by}

-- a fact of lists that stays where a part comes to stand in front of others
abbrev pub IsUnordered : {Y : Type 0} → (List Y → Type 0) → Type 0
IsUnordered {Y} Q = (xs part ys : List Y) → Q (xs ++ (part ++ ys)) → Q (part ++ (xs ++ ys))

-- such facts of the parts of one list hold of those of another
pub record Reorders {X : Type 0} (xs ys : List X) : Type 1 where
  pub parts : {Y : Type 0} (f : X → List Y) (Q : List Y → Type 0) → IsUnordered Q → (rest : List Y) → Q (flat_map f xs ++ rest) →
      Q (flat_map f ys ++ rest)

-- behind others it is so too
pub unordered_behind : {Y : Type 0} (Q : List Y → Type 0) → IsUnordered Q → (before : List Y) → IsUnordered (λ ys. Q (before ++ ys))
unordered_behind Q front before xs part ys h =
    let one : Q (part ++ (before ++ (xs ++ ys))) =
    subst (λ zs. Q (part ++ zs)) (append_assoc before xs ys)
    (front (before ++ xs) part ys (subst Q (sym (append_assoc before xs (part ++ ys))) h)) in
    front part before (xs ++ ys) one

pub reorders_same : {X : Type 0} {xs ys : List X} → xs ≡ ys → Reorders xs ys
reorders_same e = record { parts = λ f Q front rest h. subst (λ zs. Q (flat_map f zs ++ rest)) e h }

pub reorders_then : {X : Type 0} {xs ys zs : List X} → Reorders xs ys → Reorders ys zs → Reorders xs zs
reorders_then a b = record { parts = λ f Q front rest h. b.parts f Q front rest (a.parts f Q front rest h) }

-- the parts of three
joined : {X Y : Type 0} (f : X → List Y) (xs ys zs : List X) (rest : List Y) →
    flat_map f (xs ++ (ys ++ zs)) ++ rest ≡ flat_map f xs ++ (flat_map f ys ++ (flat_map f zs ++ rest))
joined f xs ys zs rest =
    let A = flat_map f xs in let B = flat_map f ys in let C = flat_map f zs in
    ap (λ ws. ws ++ rest) (flat_map-append f xs (ys ++ zs) ∙ ap (λ ws. A ++ ws) (flat_map-append f ys zs))
    ∙ append_assoc A (B ++ C) rest ∙ ap (λ ws. A ++ ws) (append_assoc B C rest)

-- a part in front of another
pub reorders_part : {X : Type 0} (xs ys zs : List X) → Reorders (xs ++ (ys ++ zs)) (ys ++ (xs ++ zs))
reorders_part xs ys zs = record {
  parts = λ f Q front rest h.
      let A = flat_map f xs in let B = flat_map f ys in let C = flat_map f zs in
      subst Q (sym (joined f ys xs zs rest)) (front A B (C ++ rest) (subst Q (joined f xs ys zs rest) h));
}

-- behind others, and before others
pub reorders_behind : {X : Type 0} (before : List X) {xs ys : List X} → Reorders xs ys → Reorders (before ++ xs) (before ++ ys)
reorders_behind before {xs} {ys} r = record {
  parts = λ f Q front rest h.
      let A = flat_map f before in
      let one : Q (A ++ (flat_map f xs ++ rest)) =
      subst Q (append_assoc A (flat_map f xs) rest) (subst (λ ws. Q (ws ++ rest)) (flat_map-append f before xs) h) in
      let two = r.parts f (λ ws. Q (A ++ ws)) (unordered_behind Q front A) rest one in
      subst (λ ws. Q (ws ++ rest)) (sym (flat_map-append f before ys)) (subst Q (sym (append_assoc A (flat_map f ys) rest)) two);
}

pub reorders_before : {X : Type 0} (behind : List X) {xs ys : List X} → Reorders xs ys → Reorders (xs ++ behind) (ys ++ behind)
reorders_before behind {xs} {ys} r = record {
  parts = λ f Q front rest h.
      let A = flat_map f behind in
      let one : Q (flat_map f xs ++ (A ++ rest)) =
      subst Q (append_assoc (flat_map f xs) A rest) (subst (λ ws. Q (ws ++ rest)) (flat_map-append f xs behind) h) in
      subst (λ ws. Q (ws ++ rest)) (sym (flat_map-append f ys behind))
      (subst Q (sym (append_assoc (flat_map f ys) A rest)) (r.parts f Q front (A ++ rest) one));
}

-- of each the same
pub reorders_map : {X Z : Type 0} (g : X → Z) {xs ys : List X} → Reorders xs ys → Reorders (map g xs) (map g ys)
reorders_map g {xs} {ys} r = record {
  parts = λ f Q front rest h.
      subst (λ ws. Q (ws ++ rest)) (sym (flat_map-map f g ys))
      (r.parts (λ x. f (g x)) Q front rest (subst (λ ws. Q (ws ++ rest)) (flat_map-map f g xs) h));
}

-- one that stands between others comes to stand before them
pub reorders_front : {X : Type 0} (before behind : List X) (x : X) → Reorders (before ++ (x ∷ behind)) (x ∷ (before ++ behind))
reorders_front before behind x = reorders_part before (x ∷ []) behind

-- and the other way round
pub reorders_between : {X : Type 0} (before behind : List X) (x : X) → Reorders (x ∷ (before ++ behind)) (before ++ (x ∷ behind))
reorders_between before behind x = reorders_part (x ∷ []) before behind

module _ {X : Type 0} (may : X → X → Bool) where
  reorders_put : (xs : List X) (x : X) → Reorders (x ∷ xs) (put_in may xs x)
  reorders_put [] x = reorders_same refl
  reorders_put (y ∷ ys) x =
      let ih : Reorders (x ∷ ys) (put_in may ys x) = reorders_put ys x in
      elim (may y x) as (λ v. Reorders (x ∷ y ∷ ys) (cond v (y ∷ put_in may ys x) (x ∷ y ∷ ys))) [
        | true ↦ reorders_then (reorders_between (y ∷ []) ys x) (reorders_behind (y ∷ []) ih)
        | false ↦ reorders_same refl
      ]

  reorders_fold : (done xs : List X) → Reorders (done ++ xs) (fold (put_in may) done xs)
  reorders_fold done [] = reorders_same (append-nil done)
  reorders_fold done (x ∷ xs) =
      reorders_then (reorders_front done xs x)
      (reorders_then (reorders_before xs (reorders_put done x)) (reorders_fold (put_in may done x) xs))

  -- a list in order
  pub reorders_sorted : (xs : List X) → Reorders xs (sorted_by may xs)
  reorders_sorted xs = reorders_fold [] xs

-- those of which a test is true, and then the others
module _ {X : Type 0} (p q : X → Bool) (other : (x : X) → q x ≡ not (p x)) where
  pub reorders_split : (xs : List X) → Reorders xs (filter p xs ++ filter q xs)
  reorders_split [] = reorders_same refl
  reorders_split (x ∷ xs) =
      let ih : Reorders xs (filter p xs ++ filter q xs) = reorders_split xs in
      by (p x) (q x) (other x) (reorders_behind (x ∷ []) ih)
    where
      by : (v w : Bool) → w ≡ not v → Reorders (x ∷ xs) (x ∷ (filter p xs ++ filter q xs)) →
          Reorders (x ∷ xs) (cond v (x ∷ filter p xs) (filter p xs) ++ cond w (x ∷ filter q xs) (filter q xs))
      by true true e r = absurd (let z : true ≡ false = e in cc)
      by true false e r = r
      by false true e r = reorders_then r (reorders_between (filter p xs) (filter q xs) x)
      by false false e r = absurd (let z : false ≡ true = e in cc)

-- a list is the parts of it
single : {X : Type 0} (xs : List X) → flat_map (λ x. x ∷ []) xs ++ [] ≡ xs
single [] = refl
single (x ∷ xs) = ap (λ ys. x ∷ ys) (single xs)

-- so what holds of all holds of all
pub all_behind : {X : Type 0} (P : X → Type 0) (xs ys : List X) → All P (xs ++ ys) → All P ys
all_behind P [] ys all = all
all_behind P (x ∷ xs) ys all = all_behind P xs ys (All-tail P x (xs ++ ys) all)

pub all_front : {X : Type 0} (P : X → Type 0) (xs ys : List X) → All P (xs ++ ys) → All P xs
all_front P [] ys all = All-nil P
all_front P (x ∷ xs) ys all = All-cons P x xs (All-head P x (xs ++ ys) all) (all_front P xs ys (All-tail P x (xs ++ ys) all))

pub all_joined : {X : Type 0} (P : X → Type 0) (xs ys : List X) → All P xs → All P ys → All P (xs ++ ys)
all_joined P [] ys a b = b
all_joined P (x ∷ xs) ys a b = All-cons P x (xs ++ ys) (All-head P x xs a) (all_joined P xs ys (All-tail P x xs a) b)

pub all_unordered : {X : Type 0} (P : X → Type 0) → IsUnordered (All P)
all_unordered P xs part ys all =
    let behind = all_behind P xs (part ++ ys) all in
    all_joined P part (xs ++ ys) (all_front P part ys behind)
    (all_joined P xs ys (all_front P xs (part ++ ys) all) (all_behind P part ys behind))

pub all_reordered : {X : Type 0} (P : X → Type 0) {xs ys : List X} → Reorders xs ys → All P xs → All P ys
all_reordered P {xs} {ys} r all =
    subst (All P) (single ys) (r.parts (λ x. x ∷ []) (All P) (all_unordered P) [] (subst (All P) (sym (single xs)) all))

-- and the sum is the same
pub sum_reordered : {X : Type 0} (n : X → ℕ) {xs ys : List X} → Reorders xs ys → sum_by n ys ≡ sum_by n xs
sum_reordered n {xs} {ys} r =
    subst (λ zs. sum_by n zs ≡ sum_by n xs) (single ys)
    (r.parts (λ x. x ∷ []) (λ zs. sum_by n zs ≡ sum_by n xs)
    (λ us part vs e.
    let a = sum_by-append n us (part ++ vs) in let b = sum_by-append n part vs in
    let c = sum_by-append n part (us ++ vs) in let d = sum_by-append n us vs in
    let z : sum_by n (part ++ (us ++ vs)) ≡ sum_by n xs = omega (arith, a, b, c, d, e) in z) []
    (subst (λ zs. sum_by n zs ≡ sum_by n xs) (sym (single xs)) refl))
