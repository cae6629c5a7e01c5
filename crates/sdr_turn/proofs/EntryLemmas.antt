-- Numbers, entries of these numbers, and beginnings of a list.
use Rattle.std.proofs.Common.{◌≡◌, ◌≢◌, ◌⊎◌, inl, inr, ⊎_elim, ℕ, zero, suc, ◌+◌, ◌-◌, ◌<◌, ◌≤◌, ◌==◌, Bool, true, false, List, [], ◌∷◌, ◌++◌, length, drop, refl, sym, ◌∙◌, ap, subst, arith, append-nil, append_assoc}
use Rattle.std.specs.Prelude.{All, cond, filter, ◌||◌}
use Rattle.std.proofs.Math.Seq.{drop-length, drop-append_seam}
use Rattle.std.proofs.lemmas.Bool.Decides.{nat_tests}
use Rattle.std.proofs.lemmas.List.Folds.{list_any-append}
use Rattle.std.proofs.lemmas.List.Elements.{All-head, All-tail, All-push, All-weaker, All-get_or}
use Rattle.std.proofs.lemmas.List.Quantifiers.{all_pairs_push}
use Rattle.std.proofs.lemmas.List.Sums.{sum_by-cons, sum_by-append}
use Rattle.std.specs.List.{range_with_len}
use mathlib.Core.List.{IsPrefix}
use mathlib.Core.Logic.{dite}
use native.Mathlib.Decide.{ℕ_discrete}
use Rattle.sdr_turn.specs.Entries.{has, own, made_at, times, Rise, AtMost, MayAdd}

-- each list begins with itself
pub prefix_self : {E : Type 0} (xs : List E) → IsPrefix xs xs
prefix_self xs = ([], append-nil xs)

pub prefix_trans : {E : Type 0} (xs ys zs : List E) → IsPrefix xs ys → IsPrefix ys zs → IsPrefix xs zs
prefix_trans xs ys zs p q = (p.0 ++ q.0, sym (append_assoc xs p.0 q.0) ∙ (ap (λ w. w ++ q.0) p.1 ∙ q.1))

pub or-cases : (a b : Bool) → (a || b) ≡ true → (a ≡ true) ⊎ (b ≡ true)
or-cases true b h = inl refl
or-cases false b h = inr h

pub or-left : (a b : Bool) → a ≡ true → (a || b) ≡ true
or-left true b h = refl
or-left false b h = absurd cc

pub or-right : (a b : Bool) → b ≡ true → (a || b) ≡ true
or-right true b h = refl
or-right false b h = h

-- where not one of two holds, neither does
pub or-neither : (a b : Bool) → (a || b) ≡ false → (a ≡ false) × (b ≡ false)
or-neither true b h = absurd cc
or-neither false b h = (refl, h)

pub or-last : (a : Bool) → (a || false) ≡ a
or-last true = refl
or-last false = refl

or-false : (a b : Bool) → b ≡ false → (a || (b || false)) ≡ a
or-false true b h = refl
or-false false b h = rw h refl

pub eq-on : (a b : ℕ) → a ≡ b → (a == b) ≡ true
eq-on a b same = grind (arith, nat_tests)

pub eq-off : (a b : ℕ) → a ≢ b → (a == b) ≡ false
eq-off a b ne = grind (arith, nat_tests)

-- where a number is among these, there is one
pub has-some : (numbers : List ℕ) (n : ℕ) → has numbers n ≡ true → 0 < length numbers
has-some [] n h = absurd cc
has-some (m ∷ ms) n h = omega arith

-- how often a number is in two lists together
pub times-append : (n : ℕ) (ms ns : List ℕ) → times n (ms ++ ns) ≡ times n ms + times n ns
times-append n ms ns = sum_by-append (λ (m : ℕ). cond (m == n) 1 0) ms ns

pub times-one : (n : ℕ) → times n (n ∷ []) ≡ 1
times-one n = rw (eq-on n n refl) refl

-- of the numbers from a on, the first is one and the others come behind it
pub range-first : (n a count : ℕ) → 0 < count → times n (range_with_len a count) ≡ times n (a ∷ []) + times n (range_with_len (a + 1) (count - 1))
range-first n a zero lt = absurd (omega (arith, lt))
range-first n a (suc count) lt =
    let less : suc count - 1 ≡ count = omega arith in
    let whole = sum_by-cons (λ (m : ℕ). cond (m == n) 1 0) a (range_with_len (a + 1) count) in
    let one = sum_by-cons (λ (m : ℕ). cond (m == n) 1 0) a [] in
    let tail = ap (λ k. times n (range_with_len (a + 1) k)) less in
    omega (arith, whole, one, tail)

pub range-has_first : (a count : ℕ) → 0 < count → 0 < times a (range_with_len a count)
range-has_first a count lt = omega (arith, range-first a a count lt, times-one a)

-- a number below all of them is not there
range-below : (n a count : ℕ) → n < a → times n (range_with_len a count) ≡ 0
range-below n a zero lt = refl
range-below n a (suc count) lt =
    let off : times n (a ∷ []) ≡ 0 = rw (eq-off a n (λ same. omega (arith, same, lt))) refl in
    let rest = range-below n (a + 1) count (omega (arith, lt)) in
    sum_by-cons (λ (m : ℕ). cond (m == n) 1 0) a (range_with_len (a + 1) count) ∙ omega (arith, off, rest)

-- each of them is there once
pub range-once : (n a count : ℕ) → times n (range_with_len a count) ≤ 1
range-once n a zero = omega arith
range-once n a (suc count) = dite (ℕ_discrete a n)
    (λ same.
    let rest = range-below n (a + 1) count (omega (arith, same)) in
    let first : times n (a ∷ []) ≡ 1 = ap (λ k. times n (k ∷ [])) same ∙ times-one n in
    omega (arith, sum_by-cons (λ (m : ℕ). cond (m == n) 1 0) a (range_with_len (a + 1) count), sum_by-cons (λ (m : ℕ). cond (m == n) 1 0) a [], rest, first))
    (λ ne.
    let off : times n (a ∷ []) ≡ 0 = rw (eq-off a n ne) refl in
    let rest = range-once n (a + 1) count in
    omega (arith, sum_by-cons (λ (m : ℕ). cond (m == n) 1 0) a (range_with_len (a + 1) count), sum_by-cons (λ (m : ℕ). cond (m == n) 1 0) a [], rest, off))

-- the next number comes behind them
pub range-push : (a count : ℕ) → range_with_len a (count + 1) ≡ range_with_len a count ++ (a + count) ∷ []
range-push a zero = ap (λ n. n ∷ []) (omega arith)
range-push a (suc count) =
    let more : suc count + 1 ≡ suc (count + 1) = omega arith in
    ap (range_with_len a) more ∙ ap (λ l. a ∷ l) (range-push (a + 1) count ∙ ap (λ n. range_with_len (a + 1) count ++ n ∷ []) (omega arith))

-- a number among these is at most what they are at most
pub has-most : (most n : ℕ) (numbers : List ℕ) → All (λ m. (0 < m) × (m ≤ most)) numbers → has numbers n ≡ true → n ≤ most
has-most most n [] all h = absurd cc
has-most most n (m ∷ ms) all h =
    ⊎_elim (λ t. let same : m ≡ n = grind (arith, nat_tests) in omega (arith, same, (All-head (λ k. (0 < k) × (k ≤ most)) m ms all).1))
    (λ t. has-most most n ms (All-tail (λ k. (0 < k) × (k ≤ most)) m ms all) t) (or-cases (m == n) (has ms n) h)

-- the last is among them
pub has-last : (numbers : List ℕ) (n : ℕ) → has (numbers ++ n ∷ []) n ≡ true
has-last [] n = grind (arith, nat_tests)
has-last (m ∷ ms) n = or-right (m == n) (has (ms ++ n ∷ []) n) (has-last ms n)

-- and no other is new
pub has-other : (numbers : List ℕ) (m n : ℕ) → m ≢ n → has (numbers ++ m ∷ []) n ≡ has numbers n
has-other numbers m n ne = list_any-append (λ (k : ℕ). k == n) numbers (m ∷ []) ∙ or-false (has numbers n) (m == n) (grind (arith, nat_tests))

-- numbers that rise still do with a higher one behind them
pub rise-push : (most n : ℕ) (numbers : List ℕ) → most < n → All (λ m. (0 < m) × (m ≤ most)) numbers → Rise (λ m. m) numbers → Rise (λ m. m) (numbers ++ n ∷ [])
rise-push most n numbers lt all rise =
    all_pairs_push (λ (x y : ℕ). x < y) numbers n rise
    (λ k d inside. let low = All-get_or (λ (m : ℕ). (0 < m) × (m ≤ most)) numbers k d inside all in omega (arith, low.1, lt))

module _ {E : Type 0} (number : E → ℕ) where
  pub own-none : (entries : List E) → own number [] entries ≡ []
  own-none [] = refl
  own-none (e ∷ es) = own-none es

  -- a number above all entries has none
  pub own-new : (numbers : List ℕ) (n most : ℕ) (entries : List E) → most < n → AtMost number most entries → own number (numbers ++ n ∷ []) entries ≡ own number numbers entries
  own-new numbers n most [] lt past = refl
  own-new numbers n most (e ∷ es) lt past =
      let low : number e ≤ most = All-head (λ (x : E). number x ≤ most) e es past in
      let same : has (numbers ++ n ∷ []) (number e) ≡ has numbers (number e) = has-other numbers n (number e) (λ is. omega arith) in
      let rest = own-new numbers n most es lt (All-tail (λ (x : E). number x ≤ most) e es past) in
      λ i. cond (same i) (e ∷ rest i) (rest i)

  -- an entry at which a test fails isn't among those that it keeps
  kept-off : (test : E → Bool) (entries : List E) (e : E) → test e ≡ false → filter test (entries ++ e ∷ []) ≡ filter test entries
  kept-off test [] e off = rw off refl
  kept-off test (x ∷ xs) e off = ap (λ l. cond (test x) (x ∷ l) l) (kept-off test xs e off)

  -- an entry at which it holds is the last of them
  kept-on : (test : E → Bool) (entries : List E) (e : E) → test e ≡ true → filter test (entries ++ e ∷ []) ≡ filter test entries ++ e ∷ []
  kept-on test [] e on = rw on refl
  kept-on test (x ∷ xs) e on = by_case (test x) (kept-on test xs e on)
    where
      by_case : (b : Bool) → filter test (xs ++ e ∷ []) ≡ filter test xs ++ e ∷ []
          → cond b (x ∷ filter test (xs ++ e ∷ [])) (filter test (xs ++ e ∷ [])) ≡ cond b (x ∷ filter test xs) (filter test xs) ++ e ∷ []
      by_case true same = ap (λ l. x ∷ l) same
      by_case false same = same

  module _ (maker : E → ℕ) (n place : ℕ) (before after : List E) (may : MayAdd number maker n place before after) where
    pub add-prefix : IsPrefix before after
    add-prefix = ⊎_elim (λ same. subst (IsPrefix before) (sym same) (prefix_self before)) (λ t. (t.0 ∷ [], sym t.3)) may

    pub add-rise : (most : ℕ) → most < n → AtMost number most before → Rise number before → Rise number after
    add-rise most lt past rise =
        ⊎_elim (λ same. subst (Rise number) (sym same) rise)
        (λ t.
        subst (Rise number) (sym t.3)
        (all_pairs_push (λ x y. number x < number y) before t.0 rise
        (λ k d inside. let low = All-get_or (λ (x : E). number x ≤ most) before k d inside past in omega (arith, low, t.1, lt))))
        may

    pub add-past : (most : ℕ) → most ≤ n → AtMost number most before → AtMost number n after
    add-past most le past =
        let before_is : AtMost number n before = All-weaker (λ (x : E). number x ≤ most) (λ (x : E). number x ≤ n) (λ x low. omega (arith, low, le)) before past in
        ⊎_elim (λ same. subst (AtMost number n) (sym same) before_is)
        (λ t. subst (AtMost number n) (sym t.3) (All-push (λ (x : E). number x ≤ n) before t.0 before_is (omega (arith, t.1)))) may

    -- a test that fails at what is added keeps what it kept
    add-other : (test : E → Bool) → ((e : E) → number e ≡ n → maker e ≡ place → test e ≡ false) → filter test after ≡ filter test before
    add-other test off =
        ⊎_elim (λ same. ap (filter test) same) (λ t. ap (filter test) t.3 ∙ kept-off test before t.0 (off t.0 t.1 t.2)) may

    -- one that holds there keeps that and no more
    add-own : (test : E → Bool) → ((e : E) → number e ≡ n → maker e ≡ place → test e ≡ true) → filter test after ≡ filter test before ++ drop (length before) after
    add-own test on =
        ⊎_elim
        (λ same. ap (filter test) same ∙ sym (ap (λ l. filter test before ++ l) (ap (drop (length before)) same ∙ drop-length before) ∙ append-nil (filter test before)))
        (λ t.
        ap (filter test) t.3 ∙ kept-on test before t.0 (on t.0 t.1 t.2)
        ∙ sym (ap (λ l. filter test before ++ l) (ap (drop (length before)) t.3 ∙ drop-append_seam before (t.0 ∷ []))))
        may

    -- who doesn't have the number has no entry more, and who has it has just what is new
    pub own-others : (numbers : List ℕ) → has numbers n ≡ false → own number numbers after ≡ own number numbers before
    own-others numbers off = add-other (λ e. has numbers (number e)) (λ e is by. ap (has numbers) is ∙ off)

    pub own-added : (numbers : List ℕ) → has numbers n ≡ true → own number numbers after ≡ own number numbers before ++ drop (length before) after
    own-added numbers on = add-own (λ e. has numbers (number e)) (λ e is by. ap (has numbers) is ∙ on)

    -- at another place no entry more was made, and at this one just what is new
    pub made-others : (other : ℕ) → other ≢ place → made_at maker other after ≡ made_at maker other before
    made-others other ne = add-other (λ e. maker e == other) (λ e is by. eq-off (maker e) other (λ same. ne (sym same ∙ by)))

    pub made-added : made_at maker place after ≡ made_at maker place before ++ drop (length before) after
    made-added = add-own (λ e. maker e == place) (λ e is by. eq-on (maker e) place by)
