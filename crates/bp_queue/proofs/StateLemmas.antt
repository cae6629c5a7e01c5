-- Which of those that wait is first, and what stays where one goes.
use Rattle.std.proofs.Common.{◌≡◌, ◌≢◌, ℕ, suc, ◌==◌, ◌≤◌, Bool, true, false, not, cond, List, [], ◌∷◌, ◌++◌, length, Option, Some, None, refl, sym, ap, ◌∙◌, subst, arith, inl, inr, eq-eqb, append-nil, leb, ltb}
use Rattle.std.specs.Prelude.{filter, nat_le, nat_lt}
use Rattle.std.specs.List.{AllByRecursion as Each}
use Rattle.std.specs.Option.{option_or}
use Rattle.std.proofs.lemmas.Bool.{le-leb, leb-false, leb-true, lt-leb, ne_eqb}
use Rattle.std.proofs.lemmas.List.Elements.{filter-append}
use Rattle.bp_queue.specs.Classes.{is_class}
use Rattle.bp_queue.specs.Sorting.{first, put_in, sorted_by}
use Rattle.bp_queue.specs.States.{Waiting, class_of, highest, is_due_by, later_than, line_of, overdue, ranks_as, without}
use Rattle.bp_queue.specs.declared.class.Class.{Class}
use Rattle.bp_queue.specs.declared.class.Class.TheVariants as classes
use Rattle.bp_queue.proofs.SortingLemmas.{Among, Apart, InOrder, IsOrder, Split, among_filter, among_from, among_sorted, apart_filter, apart_sorted, each_at, each_sorted, each_weaker, filter-filter, filter-sorted, filter_all, filter_none, length-sorted, sorted-push, sorted_order, split_at}

-- each class is the same as itself, and as no other
pub same_class : (c : Class) → is_class c c ≡ true
same_class classes.Bulk = refl
same_class classes.Normal = refl
same_class classes.Urgent = refl

pub class_is : (a b : Class) → is_class a b ≡ true → a ≡ b
class_is classes.Bulk classes.Bulk e = refl
class_is classes.Bulk classes.Normal e = absurd (let f : false ≡ true = e in cc)
class_is classes.Bulk classes.Urgent e = absurd (let f : false ≡ true = e in cc)
class_is classes.Normal classes.Bulk e = absurd (let f : false ≡ true = e in cc)
class_is classes.Normal classes.Normal e = refl
class_is classes.Normal classes.Urgent e = absurd (let f : false ≡ true = e in cc)
class_is classes.Urgent classes.Bulk e = absurd (let f : false ≡ true = e in cc)
class_is classes.Urgent classes.Normal e = absurd (let f : false ≡ true = e in cc)
class_is classes.Urgent classes.Urgent e = refl

-- later is not at most
pub later-not : (now deadline : ℕ) → nat_lt now deadline ≡ not (nat_le deadline now)
later-not now deadline =
    elim (leb deadline now) as (λ v. leb deadline now ≡ v → ltb now deadline ≡ not v) [
      | true ↦ λ e. let h = leb-true deadline now e in lt-leb (suc now) deadline (omega (arith, h))
      | false ↦ λ e. let h = leb-false deadline now e in le-leb (suc now) deadline (omega (arith, h))
    ] refl

-- of three
none_of : {X : Type 0} (a b c : Option X) → option_or a (option_or b c) ≡ None → (a ≡ None) × (b ≡ None) × (c ≡ None)
none_of None None None e = (refl, refl, refl)
none_of None None (Some x) e = absurd (let f : Some x ≡ None = e in cc)
none_of None (Some x) c e = absurd (let f : Some x ≡ None = e in cc)
none_of (Some x) b c e = absurd (let f : Some x ≡ None = e in cc)

pub no_first : {X : Type 0} (xs : List X) → first xs ≡ None → xs ≡ []
no_first [] e = refl
no_first (x ∷ xs) e = absurd (let f : Some x ≡ None = e in cc)

pub first_among : {X : Type 0} (x : X) (xs : List X) → first xs ≡ Some x → Among x xs
first_among x [] e = absurd (let f : None ≡ Some x = e in cc)
first_among x (y ∷ ys) e = inl (let f : Some y ≡ Some x = e in cc)

-- Things of which each says who waits.
module _ {X : Type 0} (of : X → Waiting) where
  -- the two orders
  abbrev pub due : X → X → Bool
  due a b = is_due_by (of a) (of b)

  abbrev pub ranked : X → X → Bool
  ranked a b = ranks_as (of a) (of b)

  pub due_order : IsOrder due
  due_order = record {
    trans = λ a b c p q.
        let m = leb-true (of a).deadline (of b).deadline p in let n = leb-true (of b).deadline (of c).deadline q in
        le-leb (of a).deadline (of c).deadline (omega (arith, m, n));
    total = λ a b p.
        let m = leb-false (of a).deadline (of b).deadline p in le-leb (of b).deadline (of a).deadline (omega (arith, m));
  }

  pub rank_order : IsOrder ranked
  rank_order = record {
    trans = λ a b c p q.
        let m = leb-true (of b).ordinal (of a).ordinal p in let n = leb-true (of c).ordinal (of b).ordinal q in
        le-leb (of c).ordinal (of a).ordinal (omega (arith, m, n));
    total = λ a b p.
        let m = leb-false (of b).ordinal (of a).ordinal p in le-leb (of a).ordinal (of b).ordinal (omega (arith, m));
  }

  abbrev pub in_class : Class → X → Bool
  in_class class x = is_class class (of x).class

  -- each stands in the list of its class, and in the line
  pub among_class : (x : X) (xs : List X) → Among x xs → Among x (class_of of (of x).class xs)
  among_class x xs a =
      among_sorted ranked x [] (filter (in_class (of x).class) xs)
      (among_filter (in_class (of x).class) x xs (same_class (of x).class) a)

  pub among_line : (x : X) (xs : List X) → Among x xs → Among x (line_of of xs)
  among_line x xs a = among_sorted due x [] xs a

  pub from_line : (x : X) (xs : List X) → Among x (line_of of xs) → Among x xs
  from_line x xs a = among_from due x xs a

  pub from_filter : (p : X → Bool) (x : X) (xs : List X) → Among x (filter p xs) → Among x xs
  from_filter p x [] a = a
  from_filter p x (y ∷ ys) a =
      elim (p y) as (λ v. Among x (cond v (y ∷ filter p ys) (filter p ys)) → Among x (y ∷ ys)) [
        | true ↦ λ m. either (from_filter p x ys) m
        | false ↦ λ m. inr (from_filter p x ys m)
      ] a
    where
      either : (Among x (filter p ys) → Among x ys) → Among x (y ∷ filter p ys) → Among x (y ∷ ys)
      either ih (inl same) = inl same
      either ih (inr m) = inr (ih m)

  pub from_class : (class : Class) (x : X) (xs : List X) → Among x (class_of of class xs) → Among x xs
  from_class class x xs a = from_filter (in_class class) x xs (among_from ranked x (filter (in_class class) xs) a)

  pub class_right : (class : Class) (x : X) (xs : List X) → Among x (class_of of class xs) → is_class class (of x).class ≡ true
  class_right class x xs a =
      each_at (λ y. in_class class y ≡ true) x (class_of of class xs)
      (each_sorted ranked (λ y. in_class class y ≡ true) [] (filter (in_class class) xs) tt (passes xs)) a
    where
      passes : (ys : List X) → Each (λ y. in_class class y ≡ true) (filter (in_class class) ys)
      passes [] = tt
      passes (y ∷ ys) =
          let ih = passes ys in
          elim (in_class class y) as (λ v. in_class class y ≡ v →
          Each (λ z. in_class class z ≡ true) (cond v (y ∷ filter (in_class class) ys) (filter (in_class class) ys))) [
            | true ↦ λ e. (e, ih)
            | false ↦ λ e. ih
          ] refl

  pub length-class : (class : Class) (xs : List X) → length (class_of of class xs) ≤ length xs
  length-class class xs =
      let s = length-sorted ranked (filter (in_class class) xs) in let f = fewer xs in omega (arith, s, f)
    where
      fewer : (ys : List X) → length (filter (in_class class) ys) ≤ length ys
      fewer [] = omega arith
      fewer (y ∷ ys) =
          let ih = fewer ys in
          elim (in_class class y) as (λ v. length (cond v (y ∷ filter (in_class class) ys) (filter (in_class class) ys)) ≤ length (y ∷ ys)) [
            | true ↦ omega (arith, ih)
            | false ↦ omega (arith, ih)
          ]

  pub length-line : (xs : List X) → length (line_of of xs) ≡ length xs
  length-line xs = length-sorted due xs

  -- where none is first, none waits
  pub none_waits : (xs : List X) → highest of xs ≡ None → xs ≡ []
  none_waits [] e = refl
  none_waits (x ∷ xs) e =
      let n = none_of (first (class_of of classes.Urgent (x ∷ xs))) (first (class_of of classes.Normal (x ∷ xs)))
      (first (class_of of classes.Bulk (x ∷ xs))) e in
      absurd (by (of x).class n (among_class x (x ∷ xs) (inl refl)))
    where
      empty : (class : Class) → first (class_of of class (x ∷ xs)) ≡ None → Among x (class_of of class (x ∷ xs)) → ⊥
      empty class f a = subst (Among x) (no_first (class_of of class (x ∷ xs)) f) a

      by : (class : Class) → (first (class_of of classes.Urgent (x ∷ xs)) ≡ None) × (first (class_of of classes.Normal (x ∷ xs)) ≡ None)
          × (first (class_of of classes.Bulk (x ∷ xs)) ≡ None) → Among x (class_of of class (x ∷ xs)) → ⊥
      by classes.Bulk n a = empty classes.Bulk n.2 a
      by classes.Normal n a = empty classes.Normal n.1 a
      by classes.Urgent n a = empty classes.Urgent n.0 a

  -- the first one of the highest class waits
  pub highest_among : (x : X) (xs : List X) → highest of xs ≡ Some x → Among x xs
  highest_among x xs e =
      by (first (class_of of classes.Urgent xs)) (first (class_of of classes.Normal xs)) (first (class_of of classes.Bulk xs)) refl refl refl e
    where
      found : (class : Class) → first (class_of of class xs) ≡ Some x → Among x xs
      found class f = from_class class x xs (first_among x (class_of of class xs) f)

      by : (a b c : Option X) → first (class_of of classes.Urgent xs) ≡ a → first (class_of of classes.Normal xs) ≡ b →
          first (class_of of classes.Bulk xs) ≡ c → option_or a (option_or b c) ≡ Some x → Among x xs
      by (Some y) b c p q r e = found classes.Urgent (p ∙ e)
      by None (Some y) c p q r e = found classes.Normal (q ∙ e)
      by None None c p q r e = found classes.Bulk (r ∙ e)

  -- no two name one object
  abbrev pub Differ : X → X → Type 0
  Differ a b = (of a).object ≢ (of b).object

  pub differ_turned : (a b : X) → Differ a b → Differ b a
  differ_turned a b d e = d (sym e)

  abbrev pub keeps_but : ℕ → X → Bool
  keeps_but object x = not ((of x).object == object)

  -- a list around the one that names an object
  pub split_object : (x : X) (xs : List X) → Apart Differ xs → Among x xs → Split (keeps_but (of x).object) x xs
  split_object x xs a m =
      split_at Differ differ_turned (keeps_but (of x).object) x
      (λ y d. ap not (ne_eqb (of y).object (of x).object (λ e. d (sym e)))) (ap not (eq-eqb (of x).object (of x).object refl)) xs a m

  pub apart_class : (class : Class) (xs : List X) → Apart Differ xs → Apart Differ (class_of of class xs)
  apart_class class xs a =
      apart_sorted ranked Differ differ_turned [] (filter (in_class class) xs) tt (apart_filter Differ (in_class class) xs a)
      (nothing (filter (in_class class) xs))
    where
      nothing : (ys : List X) → Each (λ y. Each (Differ y) []) ys
      nothing [] = tt
      nothing (y ∷ ys) = (tt, nothing ys)

  pub apart_line : (xs : List X) → Apart Differ xs → Apart Differ (line_of of xs)
  apart_line xs a = apart_sorted due Differ differ_turned [] xs tt a (nothing xs)
    where
      nothing : (ys : List X) → Each (λ y. Each (Differ y) []) ys
      nothing [] = tt
      nothing (y ∷ ys) = (tt, nothing ys)

  -- one that goes is gone from the line and from the list of its class, and the other lists stay
  pub line_of-without : (object : ℕ) (xs : List X) → line_of of (without of object xs) ≡ filter (keeps_but object) (line_of of xs)
  line_of-without object xs = sym (filter-sorted due due_order (keeps_but object) xs)

  pub class_of-without : (class : Class) (object : ℕ) (xs : List X) →
      class_of of class (without of object xs) ≡ filter (keeps_but object) (class_of of class xs)
  class_of-without class object xs =
      ap (sorted_by ranked) (filter-filter (in_class class) (keeps_but object) xs)
      ∙ sym (filter-sorted ranked rank_order (keeps_but object) (filter (in_class class) xs))

  pub other_class-without : (class : Class) (x : X) (xs : List X) → Split (keeps_but (of x).object) x xs →
      is_class class (of x).class ≡ false → class_of of class (without of (of x).object xs) ≡ class_of of class xs
  other_class-without class x xs s other =
      let out : filter (in_class class) (x ∷ s.behind) ≡ filter (in_class class) s.behind =
      ap (λ v. cond v (x ∷ filter (in_class class) s.behind) (filter (in_class class) s.behind)) other in
      ap (λ ys. sorted_by ranked (filter (in_class class) ys)) s.left
      ∙ ap (sorted_by ranked)
      (filter-append (in_class class) s.before s.behind ∙ ap (λ ys. filter (in_class class) s.before ++ ys) (sym out)
      ∙ sym (filter-append (in_class class) s.before (x ∷ s.behind)) ∙ ap (filter (in_class class)) (sym s.whole))

  -- one that comes last is put into the line and into the list of its class, and the other lists stay
  pub line_of-push : (xs : List X) (x : X) → line_of of (xs ++ (x ∷ [])) ≡ put_in due (line_of of xs) x
  line_of-push xs x = sorted-push due [] xs x

  pub class_of-push : (class : Class) (xs : List X) (x : X) → is_class class (of x).class ≡ true →
      class_of of class (xs ++ (x ∷ [])) ≡ put_in ranked (class_of of class xs) x
  class_of-push class xs x same =
      ap (sorted_by ranked)
      (filter-append (in_class class) xs (x ∷ [])
      ∙ ap (λ v. filter (in_class class) xs ++ cond v (x ∷ []) []) same)
      ∙ sorted-push ranked [] (filter (in_class class) xs) x

  pub other_class-push : (class : Class) (xs : List X) (x : X) → is_class class (of x).class ≡ false →
      class_of of class (xs ++ (x ∷ [])) ≡ class_of of class xs
  other_class-push class xs x other =
      ap (sorted_by ranked)
      (filter-append (in_class class) xs (x ∷ []) ∙ ap (λ v. filter (in_class class) xs ++ cond v (x ∷ []) []) other
      ∙ append-nil (filter (in_class class) xs))

  -- the overdue ones stand first in the line
  abbrev pub is_due : ℕ → X → Bool
  is_due now x = nat_le (of x).deadline now

  due_none : (now : ℕ) (x : X) (xs : List X) → Each (λ y. due x y ≡ true) xs → is_due now x ≡ false → Each (λ y. is_due now y ≡ false) xs
  due_none now x xs o no' =
      each_weaker (λ y. due x y ≡ true) (λ y. is_due now y ≡ false)
      (λ y m.
      let a = leb-true (of x).deadline (of y).deadline m in let b = leb-false (of x).deadline now no' in
      lt-leb (of y).deadline now (omega (arith, a, b))) xs o

  -- where the first of the line isn't overdue, none is
  pub first_later : (now : ℕ) (x : X) (xs : List X) → first (line_of of xs) ≡ Some x → is_due now x ≡ false → overdue of now xs ≡ []
  first_later now x xs f unless = by (line_of of xs) (sorted_order due due_order xs) f
    where
      by : (ys : List X) → InOrder due ys → first ys ≡ Some x → filter (is_due now) ys ≡ []
      by [] o g = refl
      by (y ∷ ys) o g =
          let same : y ≡ x = let h : Some y ≡ Some x = g in cc in
          let not_y : is_due now y ≡ false = ap (is_due now) same ∙ unless in
          filter_none (is_due now) (y ∷ ys) (not_y, due_none now y ys o.0 not_y)

  pub no_overdue : (now : ℕ) (xs : List X) → first (line_of of xs) ≡ None → overdue of now xs ≡ []
  no_overdue now xs f = ap (filter (is_due now)) (no_first (line_of of xs) f)

  -- where it is, it is the first of those that are overdue
  pub first_due : (now : ℕ) (x : X) (xs : List X) → first (line_of of xs) ≡ Some x → is_due now x ≡ true →
      (due' : List X) × (overdue of now xs ≡ x ∷ due')
  first_due now x xs f is = by (line_of of xs) f
    where
      by : (ys : List X) → first ys ≡ Some x → (due' : List X) × (filter (is_due now) ys ≡ x ∷ due')
      by [] g = absurd (let h : None ≡ Some x = g in cc)
      by (y ∷ ys) g =
          let same : y ≡ x = let h : Some y ≡ Some x = g in cc in (
            filter (is_due now) ys,
            ap (λ v. cond v (y ∷ filter (is_due now) ys) (filter (is_due now) ys)) (ap (is_due now) same ∙ is)
                ∙ ap (λ z. z ∷ filter (is_due now) ys) same,
          )

  -- those that are overdue once one has gone
  pub overdue-without : (now object : ℕ) (xs : List X) → overdue of now (without of object xs) ≡ filter (keeps_but object) (overdue of now xs)
  overdue-without now object xs =
      ap (filter (is_due now)) (line_of-without object xs) ∙ filter-filter (is_due now) (keeps_but object) (line_of of xs)

  -- those whose deadline is later stay, whichever overdue one goes
  pub later-without : (now : ℕ) (x : X) (xs : List X) → Split (keeps_but (of x).object) x xs → is_due now x ≡ true →
      later_than of now (without of (of x).object xs) ≡ later_than of now xs
  later-without now x xs s is =
      let late : X → Bool = λ y. nat_lt now (of y).deadline in
      let out : filter late (x ∷ s.behind) ≡ filter late s.behind =
      ap (λ v. cond v (x ∷ filter late s.behind) (filter late s.behind)) (later-not now (of x).deadline ∙ ap not is) in
      ap (filter late) s.left ∙ filter-append late s.before s.behind ∙ ap (λ ys. filter late s.before ++ ys) (sym out)
      ∙ sym (filter-append late s.before (x ∷ s.behind)) ∙ ap (filter late) (sym s.whole)

  -- where none is overdue, all are later
  pub all_later : (now : ℕ) (xs : List X) → overdue of now xs ≡ [] → later_than of now xs ≡ xs
  all_later now xs e =
      filter_all (λ y. nat_lt now (of y).deadline) xs
      (each_weaker (λ y. is_due now y ≡ false) (λ y. nat_lt now (of y).deadline ≡ true) (λ y f. later-not now (of y).deadline ∙ ap not f) xs
      (none (line_of of xs) e (λ y a. among_line y xs a)))
    where
      none_by : (ys : List X) → filter (is_due now) ys ≡ [] → Each (λ y. is_due now y ≡ false) ys
      none_by [] f = tt
      none_by (y ∷ ys) f =
          elim (is_due now y) as (λ v. is_due now y ≡ v → cond v (y ∷ filter (is_due now) ys) (filter (is_due now) ys) ≡ [] →
          (is_due now y ≡ false) × Each (λ z. is_due now z ≡ false) ys) [
            | true ↦ λ g h. absurd (let k : y ∷ filter (is_due now) ys ≡ [] = h in cc)
            | false ↦ λ g h. (g, none_by ys h)
          ] refl f

      spread : (zs ys : List X) → ((y : X) → Among y zs → Among y ys) → Each (λ y. is_due now y ≡ false) ys → Each (λ y. is_due now y ≡ false) zs
      spread [] ys m all = tt
      spread (z ∷ zs) ys m all =
          (each_at (λ y. is_due now y ≡ false) z ys all (m z (inl refl)), spread zs ys (λ y a. m y (inr a)) all)

      none : (ys : List X) → filter (is_due now) ys ≡ [] → ((y : X) → Among y xs → Among y ys) → Each (λ y. is_due now y ≡ false) xs
      none ys f m = spread xs ys m (none_by ys f)
