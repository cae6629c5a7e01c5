-- One block taken out of the large blocks, or put among them: what passes a test afterwards.
use Rattle.std.proofs.Common.{◌≡◌, ◌≢◌, ◌≤◌, ◌<◌, ◌⊎◌, inl, inr, ℕ, ◌+◌, ◌*◌, Bool, true, false, not, cond, ◌&&◌, ◌==◌}
use Rattle.std.proofs.Common.{List, [], ◌∷◌, ◌++◌, refl, sym, ap, ◌∙◌, arith}
use Rattle.std.specs.Prelude.{filter, nat_lt}
use Rattle.std.specs.List.{count_by}
use Rattle.std.proofs.lemmas.Bool.{cases_Bool, lt-ltb, le-ltb}
use Rattle.std.proofs.lemmas.Bool.Decides.{nat_tests}
use Rattle.std.proofs.lemmas.List.Sums.{sum_by-cons}
use Rattle.sdr_base.specs.Pools.{PoolBlock, is_at, is_of, is_free_of, is_used_at}
use Rattle.sdr_base.specs.KeptLarge.{FollowsLarge, is_used_of}
use Rattle.sdr_base.specs.LargeGiving.{is_free_at}
use Rattle.sdr_base.specs.LargePool.{without, with_placed}
use Rattle.sdr_base.proofs.PoolsLemmas.{count_by-yes, count_by-no, is_at-true, is_at-other}
use Rattle.sdr_large.proofs.FollowsLemmas.{follows-le}

-- the elements kept of those that pass a test
module _ {X : Type 0} (keep : X → Bool) where
  -- a test that only kept ones pass
  pub filter_kept : (p : X → Bool) → ((x : X) → keep x ≡ false → p x ≡ false) → (xs : List X) →
      count_by p (filter keep xs) ≡ count_by p xs
  filter_kept p only [] = refl
  filter_kept p only (x ∷ xs) = elim (cases_Bool (keep x)) [
    | inl kept ↦
        ap (λ (v : Bool). count_by p (cond v (x ∷ filter keep xs) (filter keep xs))) kept
        ∙ grow (cases_Bool (p x)) (filter_kept p only xs)
    | inr left ↦
        ap (λ (v : Bool). count_by p (cond v (x ∷ filter keep xs) (filter keep xs))) left
        ∙ filter_kept p only xs ∙ sym (count_by-no p x xs (only x left))
  ]
    where
      grow : (p x ≡ true) ⊎ (p x ≡ false) → count_by p (filter keep xs) ≡ count_by p xs →
          count_by p (x ∷ filter keep xs) ≡ count_by p (x ∷ xs)
      grow (inl passes) same =
          count_by-yes p x (filter keep xs) passes ∙ ap (λ (n : ℕ). 1 + n) same ∙ sym (count_by-yes p x xs passes)
      grow (inr fails) same = count_by-no p x (filter keep xs) fails ∙ same ∙ sym (count_by-no p x xs fails)

  -- a test that no kept one passes
  pub filter_lost : (p : X → Bool) → ((x : X) → keep x ≡ true → p x ≡ false) → (xs : List X) →
      count_by p (filter keep xs) ≡ 0
  filter_lost p never [] = refl
  filter_lost p never (x ∷ xs) = elim (cases_Bool (keep x)) [
    | inl kept ↦
        ap (λ (v : Bool). count_by p (cond v (x ∷ filter keep xs) (filter keep xs))) kept
        ∙ count_by-no p x (filter keep xs) (never x kept) ∙ filter_lost p never xs
    | inr left ↦
        ap (λ (v : Bool). count_by p (cond v (x ∷ filter keep xs) (filter keep xs))) left ∙ filter_lost p never xs
  ]

  -- all are kept, where nothing passes a test that all others fail
  pub filter_all : (p : X → Bool) → ((x : X) → p x ≡ false → keep x ≡ true) → (xs : List X) → count_by p xs ≡ 0 →
      filter keep xs ≡ xs
  filter_all p keeps [] none = refl
  filter_all p keeps (x ∷ xs) none = elim (cases_Bool (p x)) [
    | inl passes ↦ absurd (omega (arith, none, count_by-yes p x xs passes))
    | inr fails ↦
        ap (λ (v : Bool). cond v (x ∷ filter keep xs) (filter keep xs)) (keeps x fails)
        ∙ ap (λ (l : List X). x ∷ l) (filter_all p keeps xs (sym (count_by-no p x xs fails) ∙ none))
  ]

-- a test of blocks that only one at an address passes
pub record IsTestAt (p : PoolBlock → Bool) (addr : ℕ) : Type 0 where
  pub only : (b : PoolBlock) → is_at addr b ≡ false → p b ≡ false

pub at_is : (addr : ℕ) → IsTestAt (is_at addr) addr
at_is addr = record { only = λ b other. other }

pub of_is : (words addr : ℕ) → IsTestAt (is_of words addr) addr
of_is words addr = record { only = λ b other. ap (λ (v : Bool). v && b.words == words) other }

pub free_of_is : (words addr : ℕ) → IsTestAt (is_free_of words addr) addr
free_of_is words addr = record { only = λ b other. ap (λ (v : Bool). v && b.words == words && not b.used) other }

pub used_of_is : (words addr : ℕ) → IsTestAt (is_used_of words addr) addr
used_of_is words addr = record { only = λ b other. ap (λ (v : Bool). v && b.words == words && b.used) other }

pub used_at_is : (addr : ℕ) → IsTestAt (is_used_at addr) addr
used_at_is addr = record { only = λ b other. ap (λ (v : Bool). v && b.used) other }

pub free_at_is : (addr : ℕ) → IsTestAt (is_free_at addr) addr
free_at_is addr = record { only = λ b other. ap (λ (v : Bool). v && not b.used) other }

-- a block at another address stays
pub without-other : (p : PoolBlock → Bool) (at addr : ℕ) (bs : List PoolBlock) → IsTestAt p at → at ≢ addr →
    count_by p (without addr bs) ≡ count_by p bs
unfolding without
without-other p at addr bs test apart = filter_kept (λ b. not (is_at addr b)) p (λ b gone. test.only b
    (let here : is_at addr b ≡ true = (grind (arith, nat_tests)) in
    is_at-other at b (omega (arith, is_at-true addr b here, apart)))) bs

-- none is left at its address
pub without-here : (p : PoolBlock → Bool) (addr : ℕ) (bs : List PoolBlock) → IsTestAt p addr →
    count_by p (without addr bs) ≡ 0
unfolding without
without-here p addr bs test = filter_lost (λ b. not (is_at addr b)) p (λ b kept. test.only b
    (grind (arith, nat_tests))) bs

-- no more pass a test than before
pub without-le : (p : PoolBlock → Bool) (addr : ℕ) (bs : List PoolBlock) →
    count_by p (without addr bs) ≤ count_by p bs
unfolding without
without-le p addr [] = omega arith
without-le p addr (b ∷ bs) = elim (cases_Bool (is_at addr b)) [
  | inl here ↦ omega (
    arith,
    ap (λ (v : Bool). count_by p (cond (not v) (b ∷ without addr bs) (without addr bs))) here,
    without-le p addr bs,
    sum_by-cons (λ x. cond (p x) 1 0) b bs,
  )
  | inr other ↦ omega (
    arith,
    ap (λ (v : Bool). count_by p (cond (not v) (b ∷ without addr bs) (without addr bs))) other,
    without-le p addr bs,
    sum_by-cons (λ x. cond (p x) 1 0) b bs,
    sum_by-cons (λ x. cond (p x) 1 0) b (without addr bs),
  )
]

-- where no block has the address, all stay
pub without-none : (addr : ℕ) (bs : List PoolBlock) → count_by (is_at addr) bs ≡ 0 → without addr bs ≡ bs
unfolding without
without-none addr bs none = filter_all (λ b. not (is_at addr b)) (is_at addr) (λ b other. ap not other) bs none

-- the block between others leaves them
pub without-between : (addr : ℕ) (b : PoolBlock) (xs ys : List PoolBlock) → count_by (is_at addr) xs ≡ 0 →
    is_at addr b ≡ true → count_by (is_at addr) ys ≡ 0 → without addr (xs ++ b ∷ ys) ≡ xs ++ ys
unfolding without
without-between addr b [] ys none_before here none_behind =
    ap (λ (v : Bool). cond (not v) (b ∷ without addr ys) (without addr ys)) here ∙ without-none addr ys none_behind
without-between addr b (x ∷ xs) ys none_before here none_behind = elim (cases_Bool (is_at addr x)) [
  | inl first ↦ absurd (omega (arith, none_before, count_by-yes (is_at addr) x xs first))
  | inr other ↦
      ap (λ (v : Bool). cond (not v) (x ∷ without addr (xs ++ b ∷ ys)) (without addr (xs ++ b ∷ ys))) other
      ∙ ap (λ (l : List PoolBlock). x ∷ l)
      (without-between addr b xs ys (sym (count_by-no (is_at addr) x xs other) ∙ none_before) here none_behind)
]

-- a block that is put stands first, or the first stays
with_placed-first : (b c : PoolBlock) (cs : List PoolBlock) →
    (with_placed b (c ∷ cs) ≡ b ∷ c ∷ cs) ⊎ (with_placed b (c ∷ cs) ≡ c ∷ with_placed b cs)
unfolding with_placed
with_placed-first b c cs = elim (cases_Bool (nat_lt b.addr c.addr)) [
  | inl before ↦ inl (ap (λ (v : Bool). cond v (b ∷ c ∷ cs) (c ∷ with_placed b cs)) before)
  | inr behind ↦ inr (ap (λ (v : Bool). cond v (b ∷ c ∷ cs) (c ∷ with_placed b cs)) behind)
]

-- what a block that was put adds
pub count_by-with_placed : (p : PoolBlock → Bool) (b : PoolBlock) (bs : List PoolBlock) →
    count_by p (with_placed b bs) ≡ cond (p b) 1 0 + count_by p bs
unfolding with_placed
count_by-with_placed p b [] = sum_by-cons (λ x. cond (p x) 1 0) b []
count_by-with_placed p b (c ∷ cs) = elim (with_placed-first b c cs) [
  | inl before ↦ ap (λ (l : List PoolBlock). count_by p l) before ∙ sum_by-cons (λ x. cond (p x) 1 0) b (c ∷ cs)
  | inr behind ↦
      let first = sum_by-cons (λ x. cond (p x) 1 0) c (with_placed b cs) in
      let was = sum_by-cons (λ x. cond (p x) 1 0) c cs in
      ap (λ (l : List PoolBlock). count_by p l) behind ∙ omega (arith, first, was, count_by-with_placed p b cs)
]

-- a block that is put stands behind those that end before it, and in front of those that begin behind it
pub with_placed-between : (b : PoolBlock) (from to end to' : ℕ) (xs ys : List PoolBlock) → FollowsLarge from xs to →
    to + 16 ≤ b.addr → b.addr < end + 16 → FollowsLarge end ys to' → with_placed b (xs ++ ys) ≡ xs ++ b ∷ ys
unfolding with_placed
with_placed-between b from to end to' [] [] before behind above follows = refl
with_placed-between b from to end to' [] (y ∷ ys) before behind above follows =
    ap (λ (v : Bool). cond v (b ∷ y ∷ ys) (y ∷ with_placed b ys))
    (lt-ltb b.addr y.addr (omega (arith, above, follows.0)))
with_placed-between b from to end to' (x ∷ xs) ys before behind above follows =
    ap (λ (v : Bool). cond v (b ∷ x ∷ (xs ++ ys)) (x ∷ with_placed b (xs ++ ys)))
    (le-ltb b.addr x.addr (omega (arith, behind, before.0, follows-le (from + 8 * (4 + x.words)) to xs before.2)))
    ∙ ap (λ (l : List PoolBlock). x ∷ l)
    (with_placed-between b (from + 8 * (4 + x.words)) to end to' xs ys before.2 behind above follows)
