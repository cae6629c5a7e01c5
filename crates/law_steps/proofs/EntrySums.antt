-- Sums over the entries of a map, by what is there.
use Rattle.std.proofs.Common.{◌≡◌, ℕ, ◌+◌, ◌&&◌, List, [], ◌∷◌, Bool, true, false, T, cond, Some, None, refl, sym, ap, ◌∙◌, arith}
use Rattle.std.specs.Cmp.{eq_by_cmp_equiv, nat_cmp_total}
use Rattle.std.specs.FinMap.{FinMap, entries, entries_sorted, find, get, get-entries, is_sorted}
use Rattle.std.specs.FinMap.Entries.{below_all}
use Rattle.std.specs.List.{sum_by}
use Rattle.std.specs.Ordering.{eq_by_cmp, is_eq, is_lt, nat_cmp}
use Rattle.std.specs.declared.cmp.Ordering.{Ordering}
use Rattle.std.specs.declared.cmp.Ordering.TheVariants.{Less, Equal, Greater}
use Rattle.std.proofs.lemmas.List.Sums.{sum_by-cons}
use Rattle.law_steps.proofs.DistinctLemmas.{on_test}
use Rattle.sdr_model.proofs.ThingsLemmas.{same_address}

left_of : (a b : Bool) → T (a && b) → T a
left_of true b h = tt
left_of false b h = absurd h

right_of : (a b : Bool) → T (a && b) → T b
right_of true b h = h
right_of false b h = absurd h

apart_less : (r : Ordering) → T (is_lt r) → is_eq r ≡ false
apart_less Less h = refl
apart_less Equal h = absurd h
apart_less Greater h = refl

-- a key below the others isn't among them
not_among : {X : Type 0} (k : ℕ) (es : List (ℕ × X)) → T (below_all nat_cmp k es) → find nat_cmp k es ≡ None
not_among k [] below = refl
not_among k (e ∷ es) below =
    ap (λ b. cond b (Some e.1) (find nat_cmp k es)) (apart_less (nat_cmp k e.0) (left_of _ _ below))
    ∙ not_among k es (right_of _ _ below)

-- two sums over entries together are a third, where they are of each that is found
sum_by-found : {X : Type 0} (f g h : ℕ × X → ℕ) (es : List (ℕ × X)) → T (is_sorted nat_cmp es)
    → ((k : ℕ) (v : X) → find nat_cmp k es ≡ Some v → f (k, v) + g (k, v) ≡ h (k, v))
    → sum_by f es + sum_by g es ≡ sum_by h es
sum_by-found f g h [] sorted same = refl
sum_by-found {X} f g h (e ∷ es) sorted same =
    omega (
      arith,
      sum_by-cons f e es,
      sum_by-cons g e es,
      sum_by-cons h e es,
      same e.0 e.1 (ap (λ b. cond b (Some e.1) (find nat_cmp e.0 es)) ((eq_by_cmp_equiv nat_cmp_total).refl e.0)),
      sum_by-found f g h es (right_of _ _ sorted) (λ k v is. same k v (other k v is)),
    )
  where
    other : (k : ℕ) (v : X) → find nat_cmp k es ≡ Some v
        → cond (eq_by_cmp nat_cmp k e.0) (Some e.1) (find nat_cmp k es) ≡ Some v
    other k v is =
        on_test (eq_by_cmp nat_cmp k e.0)
        (λ here.
        let none : None ≡ Some v = sym (not_among e.0 es (left_of _ _ sorted))
        ∙ ap (λ i. find nat_cmp i es) (sym (same_address k e.0 here)) ∙ is in cc)
        (λ apart. ap (λ b. cond b (Some e.1) (find nat_cmp k es)) apart ∙ is)

-- two sums over a map together are a third, where they are of each value that is there
pub sum_by-both : {X : Type 0} (f g h : ℕ × X → ℕ) (m : FinMap nat_cmp X)
    → ((k : ℕ) (v : X) → get m k ≡ Some v → f (k, v) + g (k, v) ≡ h (k, v))
    → sum_by f (entries m) + sum_by g (entries m) ≡ sum_by h (entries m)
sum_by-both f g h m same =
    sum_by-found f g h (entries m) (entries_sorted m) (λ k v is. same k v (get-entries m k ∙ is))

sum_by-nothing : {X : Type 0} (xs : List X) → sum_by (λ x. 0) xs ≡ 0
sum_by-nothing [] = refl
sum_by-nothing (x ∷ xs) = omega (arith, sum_by-cons (λ x. 0) x xs, sum_by-nothing xs)

-- a sum over a map is nothing, where it is of each value that is there
pub sum_by-none : {X : Type 0} (f : ℕ × X → ℕ) (m : FinMap nat_cmp X)
    → ((k : ℕ) (v : X) → get m k ≡ Some v → f (k, v) ≡ 0) → sum_by f (entries m) ≡ 0
sum_by-none f m none =
    omega (
      arith,
      sum_by-both (λ e. 0) (λ e. 0) f m (λ k v is. omega (arith, none k v is)),
      sum_by-nothing (entries m),
    )

-- two sums over a map are the same, where they are of each value that is there
pub sum_by-there : {X : Type 0} (f g : ℕ × X → ℕ) (m : FinMap nat_cmp X)
    → ((k : ℕ) (v : X) → get m k ≡ Some v → f (k, v) ≡ g (k, v)) → sum_by f (entries m) ≡ sum_by g (entries m)
sum_by-there f g m same =
    omega (
      arith,
      sum_by-both f (λ e. 0) g m (λ k v is. omega (arith, same k v is)),
      sum_by-nothing (entries m),
    )
