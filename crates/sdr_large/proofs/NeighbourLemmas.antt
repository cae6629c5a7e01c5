-- The blocks beside the gap of a pool, and whether one of them is free.
use Rattle.std.proofs.Common.{◌≡◌, ◌≤◌, ◌<◌, ◌⊎◌, inl, inr, ℕ, ◌+◌, ◌*◌, Bool, true, false, not, cond, ◌&&◌, ◌==◌}
use Rattle.std.proofs.Common.{List, [], ◌∷◌, refl, sym, ap, ◌∙◌, arith, subst}
use Rattle.std.specs.Prelude.{Some, None}
use Rattle.std.specs.List.{count_by, find}
use Rattle.std.proofs.lemmas.Bool.{cases_Bool, cases_eq, eq-eqb, eqb-true, and_parts, and_from}
use Rattle.sdr_base.specs.Pools.{PoolBlock, is_of, is_free_of}
use Rattle.sdr_base.specs.LargeGiving.{is_free_at, is_free_below}
use Rattle.sdr_base.specs.KeptLarge.{FollowsLarge, is_used_of}
use Rattle.sdr_base.proofs.PoolsLemmas.{count_by-le, count_by-yes, count_by-no, is_of-true}
use Rattle.sdr_large.proofs.FollowsLemmas.{follows-le}

-- nothing passes where nothing is found, and the other way round
pub find-none : (p : PoolBlock → Bool) (bs : List PoolBlock) → find p bs ≡ None → count_by p bs ≡ 0
find-none p [] none = refl
find-none p (b ∷ bs) none = elim (cases_Bool (p b)) [
  | inl passes ↦ (let clash : Some b ≡ None = sym (ap (λ (v : Bool). cond v (Some b) (find p bs)) passes) ∙ none in cc)
  | inr fails ↦
      count_by-no p b bs fails
      ∙ find-none p bs (sym (ap (λ (v : Bool). cond v (Some b) (find p bs)) fails) ∙ none)
]

-- a free block that is found is there
pub record IsThere (p : PoolBlock → Bool) (bs : List PoolBlock) (d : PoolBlock) : Type 0 where
  pub passes : p d ≡ true
  pub free : 0 < count_by (is_free_of d.words d.addr) bs

own_test : (d : PoolBlock) → d.used ≡ false → is_free_of d.words d.addr d ≡ true
own_test d free =
    and_from (is_of d.words d.addr d) (not d.used)
    (and_from (d.addr == d.addr) (d.words == d.words) (eq-eqb d.addr d.addr refl) (eq-eqb d.words d.words refl))
    (ap not free)

pub find-some : (p : PoolBlock → Bool) → ((d : PoolBlock) → p d ≡ true → d.used ≡ false) → (bs : List PoolBlock)
    (d : PoolBlock) → find p bs ≡ Some d → IsThere p bs d
find-some p free [] d is = (let clash : None ≡ Some d = is in cc)
find-some p free (b ∷ bs) d is = elim (cases_Bool (p b)) [
  | inl passes ↦
      let same : b ≡ d = some_same (sym (ap (λ (v : Bool). cond v (Some b) (find p bs)) passes) ∙ is) in
      record {
        passes = subst (λ (e : PoolBlock). p e ≡ true) same passes;
        free = subst (λ (e : PoolBlock). 0 < count_by (is_free_of e.words e.addr) (b ∷ bs)) same
            (omega (arith, count_by-yes (is_free_of b.words b.addr) b bs (own_test b (free b passes))));
      }
  | inr fails ↦
      let rest = find-some p free bs d (sym (ap (λ (v : Bool). cond v (Some b) (find p bs)) fails) ∙ is) in
      record { passes = rest.passes; free = later (cases_Bool (is_free_of d.words d.addr b)) rest.free }
]
  where
    some_same : {a c : PoolBlock} → Some a ≡ Some c → a ≡ c
    some_same is = cc

    later : (is_free_of d.words d.addr b ≡ true) ⊎ (is_free_of d.words d.addr b ≡ false) →
        0 < count_by (is_free_of d.words d.addr) bs → 0 < count_by (is_free_of d.words d.addr) (b ∷ bs)
    later (inl yes_it) some = omega (arith, count_by-yes (is_free_of d.words d.addr) b bs yes_it)
    later (inr no_it) some = omega (arith, some, count_by-no (is_free_of d.words d.addr) b bs no_it)

-- what the two tests of neighbours say
pub below_says : (addr : ℕ) (d : PoolBlock) → is_free_below addr d ≡ true →
    (d.addr + 8 * (4 + d.words) ≡ addr) × (d.used ≡ false)
below_says addr d is =
    let parts = and_parts (d.addr + 8 * (4 + d.words) == addr) (not d.used) is in
    (eqb-true (d.addr + 8 * (4 + d.words)) addr parts.0, not_true d.used parts.1)
  where
    not_true : (v : Bool) → not v ≡ true → v ≡ false
    not_true true is = sym is
    not_true false is = refl

pub above_says : (addr : ℕ) (d : PoolBlock) → is_free_at addr d ≡ true → (d.addr ≡ addr) × (d.used ≡ false)
above_says addr d is =
    let parts = and_parts (d.addr == addr) (not d.used) is in
    (eqb-true d.addr addr parts.0, not_true d.used parts.1)
  where
    not_true : (v : Bool) → not v ≡ true → v ≡ false
    not_true true is = sym is
    not_true false is = refl

-- a free block is one below the place where it ends
pub free_of-le-below : (w b addr : ℕ) (bs : List PoolBlock) → b + 8 * (4 + w) ≡ addr →
    count_by (is_free_of w b) bs ≤ count_by (is_free_below addr) bs
free_of-le-below w b addr bs ends = count_by-le _ _ each bs
  where
    each : (d : PoolBlock) → cond (is_free_of w b d) 1 0 ≤ cond (is_free_below addr d) 1 0
    each d = elim (cases_Bool (is_free_of w b d)) [
      | inr fails ↦ omega (arith, ap (λ (v : Bool). cond {A = ℕ} v 1 0) fails)
      | inl is_it ↦
          let parts = and_parts (is_of w b d) (not d.used) is_it in
          let same = is_of-true w b d parts.0 in
          let at : (d.addr + 8 * (4 + d.words) == addr) ≡ true =
          eq-eqb (d.addr + 8 * (4 + d.words)) addr (omega (arith, same.0, same.1, ends)) in
          omega (
            arith,
            ap (λ (v : Bool). cond {A = ℕ} v 1 0) is_it,
            ap (λ (v : Bool). cond {A = ℕ} (v && not d.used) 1 0) at,
            ap (λ (v : Bool). cond {A = ℕ} (true && v) 1 0) parts.1,
          )
    ]

-- a block is free or in use
pub free_or_used : (w a : ℕ) (bs : List PoolBlock) → 0 < count_by (is_of w a) bs →
    (0 < count_by (is_free_of w a) bs) ⊎ (0 < count_by (is_used_of w a) bs)
free_or_used w a [] some = absurd (omega (arith, some))
free_or_used w a (b ∷ bs) some = cases (cases_Bool (is_of w a b)) (cases_Bool b.used)
    (λ rest. free_or_used w a bs rest)
  where
    grow_free : 0 < count_by (is_free_of w a) bs → 0 < count_by (is_free_of w a) (b ∷ bs)
    grow_free more = elim (cases_Bool (is_free_of w a b)) [
      | inl passes ↦ omega (arith, count_by-yes (is_free_of w a) b bs passes)
      | inr fails ↦ omega (arith, more, count_by-no (is_free_of w a) b bs fails)
    ]

    grow_used : 0 < count_by (is_used_of w a) bs → 0 < count_by (is_used_of w a) (b ∷ bs)
    grow_used more = elim (cases_Bool (is_used_of w a b)) [
      | inl passes ↦ omega (arith, count_by-yes (is_used_of w a) b bs passes)
      | inr fails ↦ omega (arith, more, count_by-no (is_used_of w a) b bs fails)
    ]

    cases : (is_of w a b ≡ true) ⊎ (is_of w a b ≡ false) → (b.used ≡ true) ⊎ (b.used ≡ false) →
        (0 < count_by (is_of w a) bs → (0 < count_by (is_free_of w a) bs) ⊎ (0 < count_by (is_used_of w a) bs)) →
        (0 < count_by (is_free_of w a) (b ∷ bs)) ⊎ (0 < count_by (is_used_of w a) (b ∷ bs))
    cases (inl is) (inl used) rest =
        inr (omega (arith, count_by-yes (is_used_of w a) b bs (and_from (is_of w a b) b.used is used)))
    cases (inl is) (inr free) rest =
        inl (omega (arith, count_by-yes (is_free_of w a) b bs (and_from (is_of w a b) (not b.used) is (ap not free))))
    cases (inr no_it) either rest = elim (rest (omega (arith, some, count_by-no (is_of w a) b bs no_it))) [
      | inl free ↦ inl (grow_free free)
      | inr used ↦ inr (grow_used used)
    ]

-- the last of the blocks that follow one another to a place, and the first from a place
pub record IsEdge (place : ℕ) (bs : List PoolBlock) (ends : ℕ → ℕ → ℕ) : Type 0 where
  pub words : ℕ
  pub addr : ℕ
  pub there : 0 < count_by (is_of words addr) bs
  pub at : ends words addr ≡ place

of_own : (d : PoolBlock) → is_of d.words d.addr d ≡ true
of_own d = and_from (d.addr == d.addr) (d.words == d.words) (eq-eqb d.addr d.addr refl) (eq-eqb d.words d.words refl)

pub last_of : (from to : ℕ) (bs : List PoolBlock) → FollowsLarge from bs to → from < to →
    IsEdge to bs (λ w a. a + 8 * w + 16)
last_of from to [] f less = absurd (omega (arith, f, less))
last_of from to (b ∷ bs) f less = elim (cases_eq (from + 8 * (4 + b.words)) to) [
  | inl ends ↦ record {
    words = b.words;
    addr = b.addr;
    there = omega (arith, count_by-yes (is_of b.words b.addr) b bs (of_own b));
    at = omega (arith, f.0, ends);
  }
  | inr more ↦
      let e = last_of (from + 8 * (4 + b.words)) to bs f.2
      (omega (arith, more, follows-le (from + 8 * (4 + b.words)) to bs f.2)) in
      record {
        words = e.words;
        addr = e.addr;
        there = later e.words e.addr (cases_Bool (is_of e.words e.addr b)) e.there;
        at = e.at;
      }
]
  where
    later : (w a : ℕ) → (is_of w a b ≡ true) ⊎ (is_of w a b ≡ false) → 0 < count_by (is_of w a) bs →
        0 < count_by (is_of w a) (b ∷ bs)
    later w a (inl yes_it) some = omega (arith, count_by-yes (is_of w a) b bs yes_it)
    later w a (inr no_it) some = omega (arith, some, count_by-no (is_of w a) b bs no_it)

pub first_of : (from to : ℕ) (bs : List PoolBlock) → FollowsLarge from bs to → from < to → IsEdge (from + 16) bs (λ w a. a)
first_of from to [] f less = absurd (omega (arith, f, less))
first_of from to (b ∷ bs) f less = record {
  words = b.words;
  addr = b.addr;
  there = omega (arith, count_by-yes (is_of b.words b.addr) b bs (of_own b));
  at = f.0;
}
