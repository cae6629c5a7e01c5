-- Lists in an order: one is put in, some are left out, and what holds of all.
use Rattle.std.proofs.Common.{◌≡◌, suc, ◌+◌, Bool, true, false, cond, List, [], ◌∷◌, ◌++◌, length, refl, sym, ap, ◌∙◌, subst, arith, inl, inr}
use Rattle.std.specs.Prelude.{◌⊎◌, AllPairs, filter, fold, map}
use Rattle.std.specs.List.{AllByRecursion as Each}
use Rattle.std.proofs.lemmas.List.Elements.{recursion_from_All}
use Rattle.bp_queue.specs.Sorting.{put_in, sorted_by}

-- it is one of these
abbrev pub Among : {X : Type 0} → X → List X → Type 0
Among x [] = ⊥
Among x (y ∷ ys) = (y ≡ x) ⊎ Among x ys

-- one between two parts of a list is among them
pub among_between : {X : Type 0} (before behind : List X) (x : X) → Among x (before ++ (x ∷ behind))
among_between [] behind x = inl refl
among_between (y ∷ before) behind x = inr (among_between before behind x)

pub each_weaker : {X : Type 0} (P Q : X → Type 0) → ((x : X) → P x → Q x) → (xs : List X) → Each P xs → Each Q xs
each_weaker P Q f [] e = tt
each_weaker P Q f (x ∷ xs) e = (f x e.0, each_weaker P Q f xs e.1)

pub each_both : {X : Type 0} (P Q R : X → Type 0) → ((x : X) → P x → Q x → R x) → (xs : List X) → Each P xs → Each Q xs → Each R xs
each_both P Q R f [] p q = tt
each_both P Q R f (x ∷ xs) p q = (f x p.0 q.0, each_both P Q R f xs p.1 q.1)

pub each_at : {X : Type 0} (P : X → Type 0) (x : X) (xs : List X) → Each P xs → Among x xs → P x
each_at P x [] e a = absurd a
each_at P x (y ∷ ys) e (inl same) = subst P same e.0
each_at P x (y ∷ ys) e (inr a) = each_at P x ys e.1 a

pub each_among : {X : Type 0} (P : X → Type 0) (xs : List X) → ((x : X) → Among x xs → P x) → Each P xs
each_among P [] f = tt
each_among P (x ∷ xs) f = (f x (inl refl), each_among P xs (λ y a. f y (inr a)))

pub each_filter : {X : Type 0} (P : X → Type 0) (p : X → Bool) (xs : List X) → Each P xs → Each P (filter p xs)
each_filter P p [] e = tt
each_filter P p (x ∷ xs) e =
    let ih = each_filter P p xs e.1 in
    elim (p x) as (λ v. Each P (cond v (x ∷ filter p xs) (filter p xs))) [ true ↦ (e.0, ih) | false ↦ ih ]

-- all of them pass, or none does
pub filter_all : {X : Type 0} (p : X → Bool) (xs : List X) → Each (λ x. p x ≡ true) xs → filter p xs ≡ xs
filter_all p [] e = refl
filter_all p (x ∷ xs) e =
    ap (λ v. cond v (x ∷ filter p xs) (filter p xs)) e.0 ∙ ap (λ ys. x ∷ ys) (filter_all p xs e.1)

pub filter_none : {X : Type 0} (p : X → Bool) (xs : List X) → Each (λ x. p x ≡ false) xs → filter p xs ≡ []
filter_none p [] e = refl
filter_none p (x ∷ xs) e =
    ap (λ v. cond v (x ∷ filter p xs) (filter p xs)) e.0 ∙ filter_none p xs e.1

-- the order of two filters doesn't matter
pub filter-filter : {X : Type 0} (p q : X → Bool) (xs : List X) → filter p (filter q xs) ≡ filter q (filter p xs)
filter-filter p q [] = refl
filter-filter p q (x ∷ xs) =
    let ih = filter-filter p q xs in
    by x xs ih (p x) (q x) refl refl
  where
    by : (x : _) (xs : List _) → filter p (filter q xs) ≡ filter q (filter p xs) → (v w : Bool) → p x ≡ v → q x ≡ w →
        filter p (cond w (x ∷ filter q xs) (filter q xs)) ≡ filter q (cond v (x ∷ filter p xs) (filter p xs))
    by x xs ih true true e f =
        ap (λ v. cond v (x ∷ filter p (filter q xs)) (filter p (filter q xs))) e ∙ ap (λ ys. x ∷ ys) ih
        ∙ sym (ap (λ v. cond v (x ∷ filter q (filter p xs)) (filter q (filter p xs))) f)
    by x xs ih true false e f =
        ih ∙ sym (ap (λ v. cond v (x ∷ filter q (filter p xs)) (filter q (filter p xs))) f)
    by x xs ih false true e f =
        ap (λ v. cond v (x ∷ filter p (filter q xs)) (filter p (filter q xs))) e ∙ ih
    by x xs ih false false e f = ih

pub among_filter : {X : Type 0} (p : X → Bool) (x : X) (xs : List X) → p x ≡ true → Among x xs → Among x (filter p xs)
among_filter p x [] e a = a
among_filter p x (y ∷ ys) e (inl same) =
    subst (λ v. Among x (cond v (y ∷ filter p ys) (filter p ys))) (sym (ap p same ∙ e)) (inl same)
among_filter p x (y ∷ ys) e (inr a) =
    let ih = among_filter p x ys e a in
    elim (p y) as (λ v. Among x (cond v (y ∷ filter p ys) (filter p ys))) [ true ↦ inr ih | false ↦ ih ]

-- Each two of a list are apart, by a relation that can be turned round.
abbrev pub Apart : {X : Type 0} → (X → X → Type 0) → List X → Type 0
Apart R [] = Unit {0}
Apart R (x ∷ xs) = Each (R x) xs × Apart R xs

pub apart_filter : {X : Type 0} (R : X → X → Type 0) (p : X → Bool) (xs : List X) → Apart R xs → Apart R (filter p xs)
apart_filter R p [] a = tt
apart_filter R p (x ∷ xs) a =
    let ih = apart_filter R p xs a.1 in
    let e = each_filter (R x) p xs a.0 in
    elim (p x) as (λ v. Apart R (cond v (x ∷ filter p xs) (filter p xs))) [ true ↦ (e, ih) | false ↦ ih ]

-- a list around one of it, and what is left where just that one doesn't pass
pub record Split {X : Type 0} (p : X → Bool) (x : X) (xs : List X) : Type 0 where
  pub before : List X
  pub behind : List X
  pub whole : xs ≡ before ++ (x ∷ behind)
  pub left : filter p xs ≡ before ++ behind

module _ {X : Type 0} (R : X → X → Type 0) (turned : (a b : X) → R a b → R b a) (p : X → Bool) (x : X)
    (others : (y : X) → R x y → p y ≡ true) (this : p x ≡ false) where
  pub split_at : (xs : List X) → Apart R xs → Among x xs → Split p x xs
  split_at [] a m = absurd m
  split_at (y ∷ ys) a (inl same) = record {
    before = [];
    behind = ys;
    whole = ap (λ z. z ∷ ys) same;
    left =
        ap (λ v. cond v (y ∷ filter p ys) (filter p ys)) (ap p same ∙ this)
        ∙ filter_all p ys (each_weaker (R y) (λ z. p z ≡ true) (λ z r. others z (subst (λ s. R s z) same r)) ys a.0);
  }
  split_at (y ∷ ys) a (inr m) =
      let s = split_at ys a.1 m in
      record {
        before = y ∷ s.before;
        behind = s.behind;
        whole = ap (λ zs. y ∷ zs) s.whole;
        left =
            ap (λ v. cond v (y ∷ filter p ys) (filter p ys)) (others y (turned y x (each_at (R y) x ys a.0 m)))
            ∙ ap (λ zs. y ∷ zs) s.left;
      }

-- no one of a list has to precede one that stands before it
abbrev pub InOrder : {X : Type 0} → (X → X → Bool) → List X → Type 0
InOrder may xs = Apart (λ a b. may a b ≡ true) xs

-- a test of two is that of an order in which some may tie
pub record IsOrder {X : Type 0} (may : X → X → Bool) : Type 0 where
  pub trans : (a b c : X) → may a b ≡ true → may b c ≡ true → may a c ≡ true
  pub total : (a b : X) → may a b ≡ false → may b a ≡ true

module _ {X : Type 0} (may : X → X → Bool) where
  pub each_put : (P : X → Type 0) (xs : List X) (x : X) → Each P xs → P x → Each P (put_in may xs x)
  each_put P [] x e h = (h, tt)
  each_put P (y ∷ ys) x e h =
      let ih = each_put P ys x e.1 h in
      elim (may y x) as (λ v. Each P (cond v (y ∷ put_in may ys x) (x ∷ y ∷ ys))) [ true ↦ (e.0, ih) | false ↦ (h, e) ]

  pub each_sorted : (P : X → Type 0) (done xs : List X) → Each P done → Each P xs → Each P (fold (put_in may) done xs)
  each_sorted P done [] d e = d
  each_sorted P done (x ∷ xs) d e = each_sorted P (put_in may done x) xs (each_put P done x d e.0) e.1

  among_put : (z : X) (xs : List X) (x : X) → Among z xs → Among z (put_in may xs x)
  among_put z [] x a = absurd a
  among_put z (y ∷ ys) x (inl same) =
      elim (may y x) as (λ v. Among z (cond v (y ∷ put_in may ys x) (x ∷ y ∷ ys))) [ true ↦ inl same | false ↦ inr (inl same) ]
  among_put z (y ∷ ys) x (inr a) =
      let ih = among_put z ys x a in
      elim (may y x) as (λ v. Among z (cond v (y ∷ put_in may ys x) (x ∷ y ∷ ys))) [ true ↦ inr ih | false ↦ inr (inr a) ]

  among_new : (xs : List X) (x z : X) → x ≡ z → Among z (put_in may xs x)
  among_new [] x z e = inl e
  among_new (y ∷ ys) x z e =
      let ih = among_new ys x z e in
      elim (may y x) as (λ v. Among z (cond v (y ∷ put_in may ys x) (x ∷ y ∷ ys))) [ true ↦ inr ih | false ↦ inl e ]

  among_done : (z : X) (done xs : List X) → Among z done → Among z (fold (put_in may) done xs)
  among_done z done [] a = a
  among_done z done (x ∷ xs) a = among_done z (put_in may done x) xs (among_put z done x a)

  pub among_sorted : (z : X) (done xs : List X) → Among z xs → Among z (fold (put_in may) done xs)
  among_sorted z done [] a = absurd a
  among_sorted z done (x ∷ xs) (inl same) = among_done z (put_in may done x) xs (among_new done x z same)
  among_sorted z done (x ∷ xs) (inr a) = among_sorted z (put_in may done x) xs a

  -- those of the list in order are those of the list
  pub among_from : (z : X) (xs : List X) → Among z (sorted_by may xs) → Among z xs
  among_from z xs a =
      each_at (λ y. Among y xs) z (sorted_by may xs) (each_sorted (λ y. Among y xs) [] xs tt (each_among (λ y. Among y xs) xs (λ y m. m))) a

  length-put_in : (xs : List X) (x : X) → length (put_in may xs x) ≡ suc (length xs)
  length-put_in [] x = refl
  length-put_in (y ∷ ys) x =
      let ih = length-put_in ys x in
      elim (may y x) as (λ v. length (cond v (y ∷ put_in may ys x) (x ∷ y ∷ ys)) ≡ suc (suc (length ys))) [
        | true ↦ ap suc ih
        | false ↦ refl
      ]

  length-fold : (done xs : List X) → length (fold (put_in may) done xs) ≡ length done + length xs
  length-fold done [] = omega arith
  length-fold done (x ∷ xs) =
      let ih = length-fold (put_in may done x) xs in let n = length-put_in done x in omega (arith, ih, n)

  pub length-sorted : (xs : List X) → length (sorted_by may xs) ≡ length xs
  length-sorted xs = let l = length-fold [] xs in omega (arith, l)

  -- those that are apart stay apart
  module _ (R : X → X → Type 0) (turned : (a b : X) → R a b → R b a) where
    apart_put : (xs : List X) (x : X) → Apart R xs → Each (R x) xs → Apart R (put_in may xs x)
    apart_put [] x a e = (tt, tt)
    apart_put (y ∷ ys) x a e =
        let ih = apart_put ys x a.1 e.1 in
        let first = each_put (R y) ys x a.0 (turned x y e.0) in
        elim (may y x) as (λ v. Apart R (cond v (y ∷ put_in may ys x) (x ∷ y ∷ ys))) [ true ↦ (first, ih) | false ↦ (e, a) ]

    pub apart_sorted : (done xs : List X) → Apart R done → Apart R xs → Each (λ x. Each (R x) done) xs →
        Apart R (fold (put_in may) done xs)
    apart_sorted done [] d a e = d
    apart_sorted done (x ∷ xs) d a e =
        apart_sorted (put_in may done x) xs (apart_put done x d e.0) a.1
        (each_both (λ y. Each (R y) done) (R x) (λ y. Each (R y) (put_in may done x))
        (λ y all one. each_put (R y) done x all (turned x y one)) xs e.1 a.0)

  -- in an order the list is in order
  module _ (is : IsOrder may) where
    put_order : (xs : List X) (x : X) → InOrder may xs → InOrder may (put_in may xs x)
    put_order [] x o = (tt, tt)
    put_order (y ∷ ys) x o =
        let ih = put_order ys x o.1 in
        elim (may y x) as (λ v. may y x ≡ v → InOrder may (cond v (y ∷ put_in may ys x) (x ∷ y ∷ ys))) [
          | true ↦ λ e. (each_put (λ z. may y z ≡ true) ys x o.0 e, ih)
          | false ↦ λ e.
              let first = is.total y x e in
              ((first, each_weaker (λ z. may y z ≡ true) (λ z. may x z ≡ true) (λ z m. is.trans x y z first m) ys o.0), o)
        ] refl

    fold_order : (done xs : List X) → InOrder may done → InOrder may (fold (put_in may) done xs)
    fold_order done [] o = o
    fold_order done (x ∷ xs) o = fold_order (put_in may done x) xs (put_order done x o)

    pub sorted_order : (xs : List X) → InOrder may (sorted_by may xs)
    sorted_order xs = fold_order [] xs tt

    -- where one has to precede another, so has it those behind that
    pub precedes_too : (x y z : X) → may y z ≡ true → may y x ≡ false → may z x ≡ false
    precedes_too x y z m unless =
        elim (may z x) as (λ v. may z x ≡ v → v ≡ false) [
          | true ↦ λ e. sym (is.trans y z x m e) ∙ unless
          | false ↦ λ e. refl
        ] refl

    pub precedes_all : (x y : X) (ys : List X) → Each (λ z. may y z ≡ true) ys → may y x ≡ false → Each (λ z. may z x ≡ false) (y ∷ ys)
    precedes_all x y ys o unless =
        (unless, each_weaker (λ z. may y z ≡ true) (λ z. may z x ≡ false) (λ z m. precedes_too x y z m unless) ys o)

    put_first : (xs : List X) (x : X) → Each (λ z. may z x ≡ false) xs → put_in may xs x ≡ x ∷ xs
    put_first [] x e = refl
    put_first (y ∷ ys) x e = ap (λ v. cond v (y ∷ put_in may ys x) (x ∷ y ∷ ys)) e.0

    -- a filter of a list in order
    module _ (p : X → Bool) where
      filter_put_out : (xs : List X) (x : X) → p x ≡ false → filter p (put_in may xs x) ≡ filter p xs
      filter_put_out [] x e = ap (λ v. cond v (x ∷ []) []) e
      filter_put_out (y ∷ ys) x e =
          let ih = filter_put_out ys x e in
          elim (may y x) as (λ v. filter p (cond v (y ∷ put_in may ys x) (x ∷ y ∷ ys)) ≡ filter p (y ∷ ys)) [
            | true ↦ ap (λ zs. cond (p y) (y ∷ zs) zs) ih
            | false ↦ ap (λ v. cond v (x ∷ filter p (y ∷ ys)) (filter p (y ∷ ys))) e
          ]

      filter_put_in : (xs : List X) (x : X) → p x ≡ true → InOrder may xs → filter p (put_in may xs x) ≡ put_in may (filter p xs) x
      filter_put_in [] x e o = ap (λ v. cond v (x ∷ []) []) e
      filter_put_in (y ∷ ys) x e o =
          let ih = filter_put_in ys x e o.1 in
          elim (may y x) as (λ v. may y x ≡ v →
          filter p (cond v (y ∷ put_in may ys x) (x ∷ y ∷ ys)) ≡ put_in may (filter p (y ∷ ys)) x) [
            | true ↦ λ m.
                elim (p y) as (λ w. cond w (y ∷ filter p (put_in may ys x)) (filter p (put_in may ys x))
                ≡ put_in may (cond w (y ∷ filter p ys) (filter p ys)) x) [
                  | true ↦
                      ap (λ zs. y ∷ zs) ih
                      ∙ sym (ap (λ v. cond v (y ∷ put_in may (filter p ys) x) (x ∷ y ∷ filter p ys)) m)
                  | false ↦ ih
                ]
            | false ↦ λ m.
                ap (λ v. cond v (x ∷ filter p (y ∷ ys)) (filter p (y ∷ ys))) e
                ∙ sym (put_first (filter p (y ∷ ys)) x
                (each_filter (λ z. may z x ≡ false) p (y ∷ ys) (precedes_all x y ys o.0 m)))
          ] refl

      filter_fold : (done xs : List X) → InOrder may done →
          filter p (fold (put_in may) done xs) ≡ fold (put_in may) (filter p done) (filter p xs)
      filter_fold done [] o = refl
      filter_fold done (x ∷ xs) o =
          let ih = filter_fold (put_in may done x) xs (put_order done x o) in
          elim (p x) as (λ v. p x ≡ v → filter p (fold (put_in may) (put_in may done x) xs)
          ≡ fold (put_in may) (filter p done) (cond v (x ∷ filter p xs) (filter p xs))) [
            | true ↦ λ e. ih ∙ ap (λ zs. fold (put_in may) zs (filter p xs)) (filter_put_in done x e o)
            | false ↦ λ e. ih ∙ ap (λ zs. fold (put_in may) zs (filter p xs)) (filter_put_out done x e)
          ] refl

      pub filter-sorted : (xs : List X) → filter p (sorted_by may xs) ≡ sorted_by may (filter p xs)
      filter-sorted xs = filter_fold [] xs tt

-- one more at the end of a list is put in last
pub sorted-push : {X : Type 0} (may : X → X → Bool) (done xs : List X) (x : X) →
    fold (put_in may) done (xs ++ (x ∷ [])) ≡ put_in may (fold (put_in may) done xs) x
sorted-push may done [] x = refl
sorted-push may done (y ∷ ys) x = sorted-push may (put_in may done y) ys x

-- a function of each, by which they are in order
module _ {X Y : Type 0} (f : X → Y) (may : Y → Y → Bool) where
  abbrev by : X → X → Bool
  by a b = may (f a) (f b)

  map-put_in : (xs : List X) (x : X) → map f (put_in by xs x) ≡ put_in may (map f xs) (f x)
  map-put_in [] x = refl
  map-put_in (y ∷ ys) x =
      let ih = map-put_in ys x in
      elim (may (f y) (f x)) as (λ v. map f (cond v (y ∷ put_in by ys x) (x ∷ y ∷ ys))
      ≡ cond v (f y ∷ put_in may (map f ys) (f x)) (f x ∷ f y ∷ map f ys)) [
        | true ↦ ap (λ zs. f y ∷ zs) ih
        | false ↦ refl
      ]

  map-fold : (done xs : List X) → map f (fold (put_in by) done xs) ≡ fold (put_in may) (map f done) (map f xs)
  map-fold done [] = refl
  map-fold done (x ∷ xs) =
      map-fold (put_in by done x) xs ∙ ap (λ zs. fold (put_in may) zs (map f xs)) (map-put_in done x)

  pub map-sorted : (xs : List X) → map f (sorted_by by xs) ≡ sorted_by may (map f xs)
  map-sorted xs = map-fold [] xs

pub map-filter : {X Y : Type 0} (f : X → Y) (p : Y → Bool) (xs : List X) → map f (filter (λ x. p (f x)) xs) ≡ filter p (map f xs)
map-filter f p [] = refl
map-filter f p (x ∷ xs) =
    let ih = map-filter f p xs in
    elim (p (f x)) as (λ v. map f (cond v (x ∷ filter (λ y. p (f y)) xs) (filter (λ y. p (f y)) xs))
    ≡ cond v (f x ∷ filter p (map f xs)) (filter p (map f xs))) [
      | true ↦ ap (λ zs. f x ∷ zs) ih
      | false ↦ ih
    ]

-- between std's words and these
pub apart_from_pairs : {X : Type 0} (R : X → X → Type 0) (xs : List X) → AllPairs R xs → Apart R xs
apart_from_pairs R [] a = tt
apart_from_pairs R (x ∷ xs) a = (
  recursion_from_All (R x) xs (λ k d h. a 0 (suc k) d (omega arith) (omega (arith, h))),
  apart_from_pairs R xs (λ i j d l h. a (suc i) (suc j) d (omega (arith, l)) (omega (arith, h))),
)
