-- The block that the rule finds is free, and has as many words as were asked for.
use Rattle.std.proofs.Common.{◌≡◌, ◌≤◌, ◌<◌, ◌⊎◌, inl, inr, ℕ, zero, suc, ◌+◌, ◌-◌, ◌^◌, Bool, cond}
use Rattle.std.proofs.Common.{List, [], ◌∷◌, refl, sym, ap, ◌∙◌, arith, subst}
use Rattle.std.specs.Prelude.{Option, Some, None, nat_le}
use Rattle.std.specs.List.{count_by, find}
use Rattle.std.specs.Option.{option_or}
use Rattle.std.proofs.lemmas.Bool.{cases_Bool, cases_lt, leb-true, leb-false}
use Rattle.std.proofs.Math.Pow.{pow_mono}
use Rattle.sdr_base.specs.Pools.{Pools}
use Rattle.sdr_base.specs.LargePool.{has_words, front_from, front_or, order_upto, order_of, found_large}
use Rattle.sdr_base.specs.KeptLarge.{TilesLarge, KeepsLarge, is_entry}
use Rattle.sdr_large.specs.declared.block.Block.{Block}
use Rattle.sdr_large.specs.Gap.{IsFree}
use Rattle.sdr_large.specs.Steps.{FindsIn, FindsAbove, Finds}
use Rattle.sdr_large.proofs.LinksLemmas.{first_entry, later_entry}
use Rattle.sdr_large.proofs.ListsLemmas.{entry_free, order_of-le}

order_upto-power : (most words : ℕ) → 1 ≤ words → 2 ^ order_upto most words ≤ words
order_upto-power zero words some = omega (arith, some)
order_upto-power (suc most) words some = elim (cases_Bool (nat_le (2 ^ suc most) words)) [
  | inl reaches ↦
      subst (λ (v : Bool). 2 ^ cond v (suc most) (order_upto most words) ≤ words) (sym reaches)
      (leb-true (2 ^ suc most) words reaches)
  | inr short ↦
      subst (λ (v : Bool). 2 ^ cond v (suc most) (order_upto most words) ≤ words) (sym short)
      (order_upto-power most words some)
]

order_upto-next : (most words : ℕ) → order_upto most words < most → words < 2 ^ (order_upto most words + 1)
order_upto-next zero words less = absurd (omega (arith, less))
order_upto-next (suc most) words less = elim (cases_Bool (nat_le (2 ^ suc most) words)) [
  | inl reaches ↦ absurd (omega (
    arith,
    less,
    ap (λ (v : Bool). cond v (suc most) (order_upto most words)) reaches,
  ))
  | inr short ↦
      subst (λ (v : Bool). words < 2 ^ (cond v (suc most) (order_upto most words) + 1)) (sym short)
      (at_most (cases_lt (order_upto most words) most) (leb-false (2 ^ suc most) words short)
      (λ below. order_upto-next most words below))
]
  where
    at_most : (order_upto most words < most) ⊎ (most ≤ order_upto most words) → words < 2 ^ suc most →
        (order_upto most words < most → words < 2 ^ (order_upto most words + 1)) →
        words < 2 ^ (order_upto most words + 1)
    at_most (inl below) short next = next below
    at_most (inr all) short next =
        let power : 2 ^ suc most ≤ 2 ^ (order_upto most words + 1) =
        pow_mono {i = suc most} {j = order_upto most words + 1} (omega (arith, all)) in
        omega (arith, power, short)

-- a block of a higher order than a number of words has more
pub higher_order : (words other : ℕ) → 1 ≤ other → order_of words < order_of other → words ≤ other
unfolding order_of
higher_order words other some less =
    let power : 2 ^ (order_of words + 1) ≤ 2 ^ order_of other =
    pow_mono {i = order_of words + 1} {j = order_of other} (omega (arith, less)) in
    let next = order_upto-next 20 words (omega (arith, less, order_of-le other)) in
    let own = order_upto-power 20 other some in
    omega (arith, power, next, own)

find_in : (words : ℕ) (b : ℕ × ℕ) (l : List (ℕ × ℕ)) → find (has_words words) l ≡ Some b →
    (0 < count_by (is_entry b.1 b.0) l) × (words ≤ b.1)
find_in words b [] is = (let clash : None ≡ Some b = is in cc)
find_in words b (e ∷ l) is = elim (cases_Bool (has_words words e)) [
  | inl fits ↦
      let same : e ≡ b = some_same (sym (ap (λ (v : Bool). cond v (Some e) (find (has_words words) l)) fits) ∙ is) in (
        subst (λ (d : ℕ × ℕ). 0 < count_by (is_entry d.1 d.0) (e ∷ l)) same (first_entry e l),
        subst (λ (d : ℕ × ℕ). words ≤ d.1) same (leb-true words e.1 fits),
      )
  | inr short ↦
      let rest = find_in words b l
      (sym (ap (λ (v : Bool). cond v (Some e) (find (has_words words) l)) short) ∙ is) in
      (later_entry b.1 b.0 e l rest.0, rest.1)
]
  where
    some_same : {a c : ℕ × ℕ} → Some a ≡ Some c → a ≡ c
    some_same is = cc

-- in which list the front was found
record IsFrontOf (lists : ℕ → List (ℕ × ℕ)) (from count : ℕ) (b : ℕ × ℕ) : Type 0 where
  pub order : ℕ
  pub low : from ≤ order
  pub high : order < from + count
  pub entered : 0 < count_by (is_entry b.1 b.0) (lists order)

front_in : (lists : ℕ → List (ℕ × ℕ)) (from count : ℕ) (b : ℕ × ℕ) → front_from lists from count ≡ Some b →
    IsFrontOf lists from count b
unfolding front_from
front_in lists from zero b is = (let clash : None ≡ Some b = is in cc)
front_in lists from (suc count) b is = cases (lists from) refl is (λ rest. front_in lists (from + 1) count b rest)
  where
    some_same : {a c : ℕ × ℕ} → Some a ≡ Some c → a ≡ c
    some_same is = cc

    cases : (l : List (ℕ × ℕ)) → lists from ≡ l → front_or l (front_from lists (from + 1) count) ≡ Some b →
        (front_from lists (from + 1) count ≡ Some b → IsFrontOf lists (from + 1) count b) →
        IsFrontOf lists from (suc count) b
    cases [] here is behind =
        let f = behind is in
        record {
          order = f.order;
          low = omega (arith, f.low);
          high = omega (arith, f.high);
          entered = f.entered;
        }
    cases (e ∷ l) here is behind =
        let same : e ≡ b = some_same is in
        record {
          order = from;
          low = omega arith;
          high = omega arith;
          entered = subst (λ (d : ℕ × ℕ). 0 < count_by (is_entry d.1 d.0) (lists from)) same
              (subst (λ (k : List (ℕ × ℕ)). 0 < count_by (is_entry e.1 e.0) k) (sym here) (first_entry e l));
        }

-- what the rule finds
pub record IsFound (P : Pools) (words : ℕ) (b : ℕ × ℕ) : Type 0 where
  pub free : IsFree P b.1 b.0
  pub enough : words ≤ b.1

pub found_is : (P : Pools) (words : ℕ) (b : ℕ × ℕ) → TilesLarge P → ((w a : ℕ) → IsFree P w a → 1 ≤ w) →
    found_large P words ≡ Some b → IsFound P words b
found_is P words b tiles some is = cases (find (has_words words) (P.large_lists (order_of words))) refl is
  where
    some_same : {a c : ℕ × ℕ} → Some a ≡ Some c → a ≡ c
    some_same is = cc

    cases : (o : Option (ℕ × ℕ)) → find (has_words words) (P.large_lists (order_of words)) ≡ o →
        option_or o (front_from P.large_lists (order_of words + 1) (20 - order_of words)) ≡ Some b → IsFound P words b
    cases None here is =
        let f = front_in P.large_lists (order_of words + 1) (20 - order_of words) b is in
        let e = entry_free P tiles.lists f.order b.1 b.0 f.entered in
        record {
          free = e.1;
          enough = higher_order words b.1 (some b.1 b.0 e.1) (omega (arith, f.low, e.0));
        }
    cases (Some d) here is =
        let same : d ≡ b = some_same is in
        let f = find_in words b (P.large_lists (order_of words)) (here ∙ ap (λ (k : ℕ × ℕ). Some k) same) in
        record { free = (entry_free P tiles.lists (order_of words) b.1 b.0 f.0).1; enough = f.1 }

-- the block of the own list is what the rule finds
pub finds_own : (x : List ℕ) (words order : ℕ) (block : Block) → order ≡ order_of words →
    FindsIn order words (Some block) x → Finds words (Some block) x
finds_own x words order block order_is finds = record {
  rule = λ P keeps.
      ap (λ (o : Option (ℕ × ℕ)). option_or o (front_from P.large_lists (order_of words + 1) (20 - order_of words)))
      (finds.rule P keeps ∙ ap (λ (o : ℕ). find (has_words words) (P.large_lists o)) order_is);
}

-- or else that of a higher one
pub finds_higher : (x y : List ℕ) (words order : ℕ) (found : Option Block) → order ≡ order_of words →
    FindsIn order words None x → y ≡ x → FindsAbove order found y → Finds words found x
finds_higher x y words order found order_is none same above = record {
  rule = λ P keeps.
      above.rule P (subst (λ (l : List ℕ). KeepsLarge l P) (sym same) keeps)
      ∙ ap (λ (o : ℕ). front_from P.large_lists (o + 1) (20 - o)) order_is
      ∙ ap (λ (o : Option (ℕ × ℕ)). option_or o (front_from P.large_lists (order_of words + 1) (20 - order_of words)))
      (none.rule P keeps ∙ ap (λ (o : ℕ). find (has_words words) (P.large_lists o)) order_is);
}
