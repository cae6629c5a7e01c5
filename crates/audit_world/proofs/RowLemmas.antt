-- What stands at the places of words, as a row of entries by rising place.
use Rattle.std.proofs.Common.{◌≡◌, ◌≢◌, ◌≤◌, ◌<◌, ◌+◌, ◌*◌, ◌==◌, ◌&&◌, ℕ, zero, suc, Bool, T, List, [], ◌∷◌, ◌++◌, true, false, cond, map, sum_by, arith, ap, ◌∙◌, refl, sym, subst, inl, inr}
use Rattle.std.specs.Prelude.{count_by, filter_map, Option, None, Some}
use Rattle.std.specs.Cmp.{nat_cmp_is}
use Rattle.std.specs.FinMap as finite
use Rattle.std.specs.FinMap.Entries.{below_all}
use Rattle.std.specs.List.{All, cons_option, flat_map, list_any, range_with_len}
use Rattle.std.specs.Option.{option_map}
use Rattle.std.specs.Ordering.{eq_by_cmp, is_eq, is_lt, nat_cmp}
use Rattle.std.specs.declared.cmp.Ordering.{Ordering}
use Rattle.std.specs.declared.cmp.Ordering.TheVariants.{Less, Equal, Greater}
use Rattle.std.proofs.lemmas.Bool.{cases_eq, eq-eqb, ne_eqb, or_left, or_right}
use Rattle.std.proofs.lemmas.List.Elements.{All-cons, All-nil}
use Rattle.std.proofs.lemmas.List.Sums.{sum_by-cons}
use Rattle.std.proofs.lemmas.Option.{none-some}
use Rattle.sdr_base.proofs.PoolsLemmas.{count_by-append, count_by-no, count_by-yes}
use Rattle.sdr_base.proofs.StandingLemmas.{times-append}
use Rattle.sdr_base.specs.Entries.{Entries, times}
use Rattle.law_steps.proofs.DistinctLemmas.{count_by-cons}

both : (a b : Bool) → T a → T b → T (a && b)
both true b x y = y
both false b x y = absurd x

is_less : (a b : ℕ) → a < b → T (is_lt (nat_cmp a b))
is_less a b less = subst (λ (o : Ordering). T (is_lt o)) (nat_cmp_is a b Less less) tt

same_tied : (a b : ℕ) → a ≡ b → eq_by_cmp nat_cmp a b ≡ true
same_tied a b same = sym (ap (λ (o : Ordering). is_eq o) (nat_cmp_is a b Equal same))

-- two numbers that differ don't tie
pub not_tied : (a b : ℕ) → a ≢ b → eq_by_cmp nat_cmp a b ≡ false
not_tied a b apart =
    elim (nat_cmp a b) as (λ o. nat_cmp a b ≡ o → is_eq o ≡ false) [
      | Less ↦ λ is. refl
      | Equal ↦ λ is. absurd (apart (finite.nat_cmp-IsAntisymmetric a b is))
      | Greater ↦ λ is. refl
    ] refl

module _ {X : Type 0} (f : ℕ → Option X) where
  -- what stands at a place, with the place
  abbrev pub listed : ℕ → Option (ℕ × X)
  listed addr = option_map (λ x. (addr, x)) (f addr)

  -- what stands at the places of so many words from one on
  abbrev pub row : ℕ → ℕ → List (ℕ × X)
  row a n = filter_map listed (map (λ word. 8 * word) (range_with_len a n))

  -- the same with this, or nothing, in front
  abbrev after : ℕ → Option X → List (ℕ × X) → List (ℕ × X)
  after addr o es = cons_option (option_map (λ x. (addr, x)) o) es

  below_row : (k a n : ℕ) → k < 8 * a → T (below_all nat_cmp k (row a n))
  below_row k a zero below = tt
  below_row k a (suc n) below =
      let rest : T (below_all nat_cmp k (row (a + 1) n)) = below_row k (a + 1) n (omega (arith, below)) in
      elim (f (8 * a)) as (λ o. T (below_all nat_cmp k (after (8 * a) o (row (a + 1) n)))) [
        | None ↦ rest
        | Some x ↦ both (is_lt (nat_cmp k (8 * a))) _ (is_less k (8 * a) below) rest
      ]

  -- the places rise
  pub row_sorted : (a n : ℕ) → T (finite.is_sorted nat_cmp (row a n))
  row_sorted a zero = tt
  row_sorted a (suc n) =
      let rest : T (finite.is_sorted nat_cmp (row (a + 1) n)) = row_sorted (a + 1) n in
      elim (f (8 * a)) as (λ o. T (finite.is_sorted nat_cmp (after (8 * a) o (row (a + 1) n)))) [
        | None ↦ rest
        | Some x ↦ both (below_all nat_cmp (8 * a) (row (a + 1) n)) _ (below_row (8 * a) (a + 1) n (omega arith)) rest
      ]

  -- where nothing stands, nothing is found
  pub find_none : (q a n : ℕ) → f q ≡ None → finite.find nat_cmp q (row a n) ≡ None
  find_none q a zero none = refl
  find_none q a (suc n) none =
      elim (f (8 * a)) as (λ o. f (8 * a) ≡ o → finite.find nat_cmp q (after (8 * a) o (row (a + 1) n)) ≡ None) [
        | None ↦ λ is. find_none q (a + 1) n none
        | Some x ↦ λ is.
            ap (λ (t : Bool). cond t (Some x) (finite.find nat_cmp q (row (a + 1) n)))
            (not_tied q (8 * a) (λ same. none-some x (sym none ∙ ap f same ∙ is)))
            ∙ find_none q (a + 1) n none
      ] refl

  -- what stands at one of the places is found there
  pub find_some : (word a n : ℕ) (x : X) → a ≤ word → word < a + n → f (8 * word) ≡ Some x → finite.find nat_cmp (8 * word) (row a n) ≡ Some x
  find_some word a zero x low high is = absurd (omega (arith, low, high))
  find_some word a (suc n) x low high is = elim (cases_eq word a) [
    | inl same ↦
        let here : f (8 * a) ≡ Some x = ap (λ (w : ℕ). f (8 * w)) (sym same) ∙ is in
        ap (λ (o : Option X). finite.find nat_cmp (8 * word) (after (8 * a) o (row (a + 1) n))) here
        ∙ ap (λ (t : Bool). cond t (Some x) (finite.find nat_cmp (8 * word) (row (a + 1) n)))
        (same_tied (8 * word) (8 * a) (ap (λ (w : ℕ). 8 * w) same))
    | inr off ↦
        let rest = find_some word (a + 1) n x (above word a low off) (omega (arith, high)) is in
        elim (f (8 * a)) as (λ o. finite.find nat_cmp (8 * word) (after (8 * a) o (row (a + 1) n)) ≡ Some x) [
          | None ↦ rest
          | Some y ↦
              ap (λ (t : Bool). cond t (Some y) (finite.find nat_cmp (8 * word) (row (a + 1) n)))
              (not_tied (8 * word) (8 * a) (apart word a off))
              ∙ rest
        ]
  ]
    where
      above : (word a : ℕ) → a ≤ word → (word ≡ a → ⊥) → a + 1 ≤ word
      above word a low off = omega (arith, low, off)

      apart : (word a : ℕ) → (word ≡ a → ⊥) → 8 * word ≢ 8 * a
      apart word a off same = off (omega (arith, same))

  -- what holds of all that stands anywhere holds of the row
  pub all_row : (P : ℕ × X → Type 0) → ((q : ℕ) (x : X) → f q ≡ Some x → P (q, x)) → (a n : ℕ) → All P (row a n)
  all_row P holds a zero = All-nil P
  all_row P holds a (suc n) =
      elim (f (8 * a)) as (λ o. f (8 * a) ≡ o → All P (after (8 * a) o (row (a + 1) n))) [
        | None ↦ λ is. all_row P holds (a + 1) n
        | Some x ↦ λ is. All-cons P (8 * a, x) (row (a + 1) n) (holds (8 * a) x is) (all_row P holds (a + 1) n)
      ] refl

  -- how often a place is listed
  abbrev pub own : ℕ → List (ℕ × X) → ℕ
  own q = count_by (λ e. e.0 == q)

  pub own_none : (q a n : ℕ) → f q ≡ None → own q (row a n) ≡ 0
  own_none q a zero none = refl
  own_none q a (suc n) none =
      elim (f (8 * a)) as (λ o. f (8 * a) ≡ o → own q (after (8 * a) o (row (a + 1) n)) ≡ 0) [
        | None ↦ λ is. own_none q (a + 1) n none
        | Some x ↦ λ is.
            count_by-no (λ e. e.0 == q) (8 * a, x) (row (a + 1) n) (ne_eqb (8 * a) q (λ same. none-some x (sym none ∙ ap f (sym same) ∙ is)))
            ∙ own_none q (a + 1) n none
      ] refl

  own_below : (q a n : ℕ) → q < 8 * a → own q (row a n) ≡ 0
  own_below q a zero below = refl
  own_below q a (suc n) below =
      let rest : own q (row (a + 1) n) ≡ 0 = own_below q (a + 1) n (omega (arith, below)) in
      elim (f (8 * a)) as (λ o. own q (after (8 * a) o (row (a + 1) n)) ≡ 0) [
        | None ↦ rest
        | Some x ↦ count_by-no (λ e. e.0 == q) (8 * a, x) (row (a + 1) n) (ne_eqb (8 * a) q (λ same. omega (arith, below, same))) ∙ rest
      ]

  -- what stands at one of the places is listed once
  pub own_one : (word a n : ℕ) (x : X) → a ≤ word → word < a + n → f (8 * word) ≡ Some x → own (8 * word) (row a n) ≡ 1
  own_one word a zero x low high is = absurd (omega (arith, low, high))
  own_one word a (suc n) x low high is = elim (cases_eq word a) [
    | inl same ↦
        let here : f (8 * a) ≡ Some x = ap (λ (w : ℕ). f (8 * w)) (sym same) ∙ is in
        ap (λ (o : Option X). own (8 * word) (after (8 * a) o (row (a + 1) n))) here
        ∙ count_by-yes (λ e. e.0 == 8 * word) (8 * a, x) (row (a + 1) n) (eq-eqb (8 * a) (8 * word) (ap (λ (w : ℕ). 8 * w) (sym same)))
        ∙ ap (λ (k : ℕ). 1 + k) (own_below (8 * word) (a + 1) n (omega (arith, same)))
    | inr off ↦
        let rest = own_one word (a + 1) n x (above word a low off) (omega (arith, high)) is in
        elim (f (8 * a)) as (λ o. own (8 * word) (after (8 * a) o (row (a + 1) n)) ≡ 1) [
          | None ↦ rest
          | Some y ↦ count_by-no (λ e. e.0 == 8 * word) (8 * a, y) (row (a + 1) n) (ne_eqb (8 * a) (8 * word) (apart word a off)) ∙ rest
        ]
  ]
    where
      above : (word a : ℕ) → a ≤ word → (word ≡ a → ⊥) → a + 1 ≤ word
      above word a low off = omega (arith, low, off)

      apart : (word a : ℕ) → (word ≡ a → ⊥) → 8 * a ≢ 8 * word
      apart word a off same = off (omega (arith, same))

  -- Where each thing that stands somewhere fills its own block and those inside of it, the blocks of the row are the places and what
  -- is inside of them.
  module _ (g : ℕ → X → Entries) (inner : ℕ → List ℕ)
      (some : (q p : ℕ) (x : X) → f p ≡ Some x → times q (g p x) ≡ cond (p == q) 1 0 + count_by (λ other. other == q) (inner p))
      (none : (p : ℕ) → f p ≡ None → inner p ≡ []) where
    pub times_row : (q a n : ℕ) →
        times q (flat_map (λ e. g e.0 e.1) (row a n))
        ≡ own q (row a n) + count_by (λ other. other == q) (flat_map (λ word. inner (8 * word)) (range_with_len a n))
    unfolding times
    times_row q a zero = refl
    times_row q a (suc n) =
        let inside : List ℕ = flat_map (λ word. inner (8 * word)) (range_with_len (a + 1) n) in
        let rest : times q (flat_map (λ e. g e.0 e.1) (row (a + 1) n)) ≡ own q (row (a + 1) n) + count_by (λ other. other == q) inside =
        times_row q (a + 1) n in
        let split : count_by (λ other. other == q) (inner (8 * a) ++ inside) ≡ count_by (λ other. other == q) (inner (8 * a)) + count_by (λ other. other == q) inside =
        count_by-append (λ other. other == q) (inner (8 * a)) inside in
        elim (f (8 * a)) as (λ o. f (8 * a) ≡ o →
        times q (flat_map (λ e. g e.0 e.1) (after (8 * a) o (row (a + 1) n)))
        ≡ own q (after (8 * a) o (row (a + 1) n)) + count_by (λ other. other == q) (inner (8 * a) ++ inside)) [
          | None ↦ λ is.
              let e = ap (λ (l : List ℕ). count_by (λ other. other == q) l) (none (8 * a) is) in
              let nil : count_by (λ other. other == q) [] ≡ 0 = refl in
              omega (arith, rest, split, e, nil)
          | Some x ↦ λ is.
              let here = some q (8 * a) x is in
              let both = times-append q (g (8 * a) x) (flat_map (λ e. g e.0 e.1) (row (a + 1) n)) in
              let one = count_by-cons (λ (e : ℕ × X). e.0 == q) (8 * a, x) (row (a + 1) n) in
              omega (arith, rest, split, here, both, one)
        ] refl

  -- what is summed up over the row is summed up over the places
  pub sum_row : (weight : ℕ × X → ℕ) (at : ℕ → ℕ) → ((p : ℕ) (x : X) → f p ≡ Some x → weight (p, x) ≡ at p) → ((p : ℕ) → f p ≡ None → at p ≡ 0) →
      (a n : ℕ) → sum_by weight (row a n) ≡ sum_by at (map (λ word. 8 * word) (range_with_len a n))
  sum_row weight at some none a zero = refl
  sum_row weight at some none a (suc n) =
      let places : List ℕ = map (λ word. 8 * word) (range_with_len (a + 1) n) in
      let rest : sum_by weight (row (a + 1) n) ≡ sum_by at places = sum_row weight at some none (a + 1) n in
      let more : sum_by at (8 * a ∷ places) ≡ at (8 * a) + sum_by at places = sum_by-cons at (8 * a) places in
      elim (f (8 * a)) as (λ o. f (8 * a) ≡ o → sum_by weight (after (8 * a) o (row (a + 1) n)) ≡ sum_by at (8 * a ∷ places)) [
        | None ↦ λ is. let z = none (8 * a) is in omega (arith, rest, more, z)
        | Some x ↦ λ is.
            let z = some (8 * a) x is in
            let one = sum_by-cons weight (8 * a, x) (row (a + 1) n) in
            omega (arith, rest, more, z, one)
      ] refl

  -- what stands at one of the places and passes a test is one that does
  pub any_row : (p : ℕ × X → Bool) (word a n : ℕ) (x : X) → a ≤ word → word < a + n → f (8 * word) ≡ Some x → p (8 * word, x) ≡ true →
      list_any p (row a n) ≡ true
  any_row p word a zero x low high is passes = absurd (omega (arith, low, high))
  any_row p word a (suc n) x low high is passes = elim (cases_eq word a) [
    | inl same ↦
        let here : f (8 * a) ≡ Some x = ap (λ (w : ℕ). f (8 * w)) (sym same) ∙ is in
        ap (λ (o : Option X). list_any p (after (8 * a) o (row (a + 1) n))) here
        ∙ or_left (p (8 * a, x)) _ (ap (λ (w : ℕ). p (8 * w, x)) (sym same) ∙ passes)
    | inr off ↦
        let rest = any_row p word (a + 1) n x (above word a low off) (omega (arith, high)) is passes in
        elim (f (8 * a)) as (λ o. list_any p (after (8 * a) o (row (a + 1) n)) ≡ true) [
          | None ↦ rest
          | Some y ↦ or_right (p (8 * a, y)) _ rest
        ]
  ]
    where
      above : (word a : ℕ) → a ≤ word → (word ≡ a → ⊥) → a + 1 ≤ word
      above word a low off = omega (arith, low, off)
