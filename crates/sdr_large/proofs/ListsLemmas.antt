-- The lists of free blocks, when one leaves or comes.
use Rattle.std.proofs.Common.{◌≡◌, ◌≢◌, ◌≤◌, ◌<◌, ◌⊎◌, inl, inr, ℕ, zero, suc, min, ◌+◌, ◌*◌, ◌^◌, Bool, true, false, not, cond, ◌&&◌, ◌==◌}
use Rattle.std.proofs.Common.{List, ◌∷◌, refl, sym, ap, ◌∙◌, arith, subst}
use Rattle.std.specs.Prelude.{nat_le}
use Rattle.std.specs.List.{count_by}
use Rattle.std.proofs.lemmas.Bool.{cases_Bool, cases_eq, eq-eqb, ne_eqb, eqb-true, le-leb, lt-leb, cases_lt, and_parts}
use Rattle.std.proofs.lemmas.Bool.Decides.{nat_tests}
use Rattle.std.proofs.lemmas.List.Sums.{sum_by-cons}
use Rattle.std.proofs.lemmas.Grind.{pow_more}
use Rattle.std.proofs.Math.Pow.{pow_mono}
use Rattle.sdr_base.specs.Pools.{PoolBlock, Pools, is_at, is_of, is_free_of}
use Rattle.sdr_base.specs.SmallPool.{with_list}
use Rattle.sdr_base.specs.LargePool.{order_upto, order_of, without, unlisted, with_unlinked, with_used_large}
use Rattle.sdr_base.specs.LargePool.{with_free_large}
use Rattle.sdr_base.specs.KeptLarge.{ListsFree, is_entry}
use Rattle.sdr_base.proofs.PoolsLemmas.{free-free-le-at}
use Rattle.sdr_base.proofs.SmallPoolLemmas.{with_list-here, with_list-other}
use Rattle.sdr_large.specs.Gap.{IsFree}
use Rattle.sdr_large.proofs.BlocksLemmas.{filter_kept, filter_lost, without-other, without-here, free_of_is, count_by-with_placed}

-- the order of a number of words is the place of its highest bit
order_upto-le : (most words : ℕ) → order_upto most words ≤ most
order_upto-le zero words = omega arith
order_upto-le (suc most) words = elim (cases_Bool (nat_le (2 ^ suc most) words)) [
  | inl reaches ↦ omega (arith, ap (λ (v : Bool). cond v (suc most) (order_upto most words)) reaches)
  | inr short ↦ omega (
    arith,
    order_upto-le most words,
    ap (λ (v : Bool). cond v (suc most) (order_upto most words)) short,
  )
]

pub order_of-le : (words : ℕ) → order_of words ≤ 20
unfolding order_of
order_of-le words = order_upto-le 20 words

order_upto-is : (most order words : ℕ) → order ≤ most → 2 ^ order ≤ words → words < 2 ^ (order + 1) →
    order_upto most words ≡ order
order_upto-is zero order words le low high = omega (arith, le)
order_upto-is (suc most) order words le low high = elim (cases_eq order (suc most)) [
  | inl same ↦
      ap (λ (v : Bool). cond v (suc most) (order_upto most words))
      (le-leb (2 ^ suc most) words (subst (λ (o : ℕ). 2 ^ o ≤ words) same low)) ∙ sym same
  | inr below ↦
      let power : 2 ^ (order + 1) ≤ 2 ^ suc most = pow_mono (omega (arith, le, below)) in
      ap (λ (v : Bool). cond v (suc most) (order_upto most words)) (lt-leb (2 ^ suc most) words (omega (arith, power, high)))
      ∙ order_upto-is most order words (omega (arith, le, below)) low high
]

pub order_of-is : (order words : ℕ) → order ≤ 20 → 2 ^ order ≤ words → words < 2 ^ (order + 1) → order_of words ≡ order
unfolding order_of
order_of-is order words le low high = order_upto-is 20 order words le low high

-- so many words or more are of the highest order
pub order_of-most : (words : ℕ) → 2 ^ 20 ≤ words → order_of words ≡ 20
unfolding order_of
order_of-most words le = ap (λ (v : Bool). cond v 20 (order_upto 19 words)) (le-leb (2 ^ 20) words le)

-- a chosen count, or none
cond_zero : (v : Bool) → cond {A = ℕ} v 0 0 ≡ 0
cond_zero true = refl
cond_zero false = refl

module _ (P : Pools) (lists : ListsFree P) where
  -- an entry of a list is that of a free block of its order
  pub entry_free : (order words addr : ℕ) → 0 < count_by (is_entry words addr) (P.large_lists order) →
      (order ≡ order_of words) × IsFree P words addr
  entry_free order words addr some = elim (cases_Bool (order == order_of words)) [
    | inl same ↦ (
      eqb-true order (order_of words) same,
      omega (
        arith,
        some,
        lists.listed order words addr
            ∙ ap (λ (v : Bool). cond v (count_by (is_free_of words addr) P.large) 0) same,
      ),
    )
    | inr differ ↦ absurd (omega (
      arith,
      some,
      lists.listed order words addr
          ∙ ap (λ (v : Bool). cond v (count_by (is_free_of words addr) P.large) 0) differ,
    ))
  ]

  -- a free block is an entry of the list of its order
  pub free_entry : (words addr : ℕ) →
      count_by (is_entry words addr) (P.large_lists (order_of words)) ≡ count_by (is_free_of words addr) P.large
  free_entry words addr =
      lists.listed (order_of words) words addr
      ∙ ap (λ (v : Bool). cond v (count_by (is_free_of words addr) P.large) 0)
      (eq-eqb (order_of words) (order_of words) refl)

-- an entry at an address, and one at another
entry_at : (words addr : ℕ) (e : ℕ × ℕ) → (e.0 == addr) ≡ false → is_entry words addr e ≡ false
entry_at words addr e other = ap (λ (v : Bool). v && e.1 == words) other

-- a list without the entry at an address
pub unlisted-other : (words at addr : ℕ) (l : List (ℕ × ℕ)) → at ≢ addr →
    count_by (is_entry words at) (unlisted addr l) ≡ count_by (is_entry words at) l
unfolding unlisted
unlisted-other words at addr l apart = filter_kept (λ e. not (e.0 == addr)) (is_entry words at) (λ e gone.
    entry_at words at e (let here : (e.0 == addr) ≡ true = (grind (arith, nat_tests)) in
    ne_eqb e.0 at (λ same. apart (sym same ∙ eqb-true e.0 addr here)))) l

pub unlisted-here : (words addr : ℕ) (l : List (ℕ × ℕ)) → count_by (is_entry words addr) (unlisted addr l) ≡ 0
unfolding unlisted
unlisted-here words addr l = filter_lost (λ e. not (e.0 == addr)) (is_entry words addr) (λ e kept.
    entry_at words addr e (grind (arith, nat_tests))) l

-- without the free block in pool and lists
pub lists_unlinked : (P : Pools) (words addr : ℕ) → ListsFree P → IsFree P words addr →
    ((at : ℕ) → count_by (is_at at) P.large ≤ 1) → ListsFree (with_unlinked P addr words)
lists_unlinked P words addr lists free once = record {
  listed = λ order w at. elim (cases_eq at addr) [
    | inl same ↦
        subst (λ (a : ℕ). count_by (is_entry w a) (with_list (order_of words) new P.large_lists order)
        ≡ cond (order == order_of w) (count_by (is_free_of w a) (without addr P.large)) 0) (sym same)
        (gone order w (cases_eq order (order_of words)) (cases_eq w words)
        ∙ sym (ap (λ (n : ℕ). cond (order == order_of w) n 0)
        (without-here (is_free_of w addr) addr P.large (free_of_is w addr)) ∙ cond_zero (order == order_of w)))
    | inr apart ↦
        stays order w at apart (cases_eq order (order_of words)) ∙ lists.listed order w at
        ∙ ap (λ (n : ℕ). cond (order == order_of w) n 0)
        (sym (without-other (is_free_of w at) at addr P.large (free_of_is w at) apart))
  ];
}
  where
    new : List (ℕ × ℕ)
    new = unlisted addr (P.large_lists (order_of words))

    here : (order w at : ℕ) → order ≡ order_of words →
        count_by (is_entry w at) (with_list (order_of words) new P.large_lists order) ≡ count_by (is_entry w at) new
    here order w at same =
        ap (λ (o : ℕ). count_by (is_entry w at) (with_list (order_of words) new P.large_lists o)) same
        ∙ ap (λ (l : List (ℕ × ℕ)). count_by (is_entry w at) l) (with_list-here (order_of words) new P.large_lists)

    stays : (order w at : ℕ) → at ≢ addr → (order ≡ order_of words) ⊎ (order ≢ order_of words) →
        count_by (is_entry w at) (with_list (order_of words) new P.large_lists order)
        ≡ count_by (is_entry w at) (P.large_lists order)
    stays order w at apart (inl same) =
        here order w at same ∙ unlisted-other w at addr (P.large_lists (order_of words)) apart
        ∙ ap (λ (o : ℕ). count_by (is_entry w at) (P.large_lists o)) (sym same)
    stays order w at apart (inr differ) =
        ap (λ (l : List (ℕ × ℕ)). count_by (is_entry w at) l)
        (with_list-other (order_of words) order new P.large_lists differ)

    gone : (order w : ℕ) → (order ≡ order_of words) ⊎ (order ≢ order_of words) → (w ≡ words) ⊎ (w ≢ words) →
        count_by (is_entry w addr) (with_list (order_of words) new P.large_lists order) ≡ 0
    gone order w (inl same) either =
        here order w addr same ∙ unlisted-here w addr (P.large_lists (order_of words))
    gone order w (inr differ) (inl same) =
        ap (λ (l : List (ℕ × ℕ)). count_by (is_entry w addr) l)
        (with_list-other (order_of words) order new P.large_lists differ)
        ∙ lists.listed order w addr
        ∙ ap (λ (v : Bool). cond v (count_by (is_free_of w addr) P.large) 0)
        (ne_eqb order (order_of w) (λ is. differ (is ∙ ap order_of same)))
    gone order w (inr differ) (inr other) =
        ap (λ (l : List (ℕ × ℕ)). count_by (is_entry w addr) l)
        (with_list-other (order_of words) order new P.large_lists differ)
        ∙ lists.listed order w addr
        ∙ ap (λ (n : ℕ). cond (order == order_of w) n 0)
        (omega (arith, free, once addr, free-free-le-at words w addr P.large other))
        ∙ cond_zero (order == order_of w)

-- with a block in use more
pub lists_used : (P : Pools) (words addr : ℕ) → ListsFree P → ListsFree (with_used_large P addr words)
lists_used P words addr lists = record {
  listed = λ order w at.
      lists.listed order w at
      ∙ ap (λ (n : ℕ). cond (order == order_of w) n 0)
      (sym (count_by-with_placed (is_free_of w at) (record { addr = addr; words = words; used = true }) P.large
      ∙ ap (λ (v : Bool). cond v 1 0 + count_by (is_free_of w at) P.large) (never (is_of w at (block true)))
      ∙ zero_add (count_by (is_free_of w at) P.large)));
}
  where
    block : Bool → PoolBlock
    block used = record { addr = addr; words = words; used = used }

    never : (v : Bool) → (v && false) ≡ false
    never true = refl
    never false = refl

    zero_add : (n : ℕ) → 0 + n ≡ n
    zero_add n = omega arith

-- with a free block more, at the front of its list
pub lists_pushed : (P : Pools) (words addr : ℕ) → ListsFree P → ListsFree (with_free_large P addr words)
lists_pushed P words addr lists = record {
  listed = λ order w at.
      count_list order w at (cases_eq order (order_of words))
      ∙ sym (ap (λ (n : ℕ). cond (order == order_of w) n 0)
      (count_by-with_placed (is_free_of w at) block P.large
      ∙ ap (λ (v : Bool). cond v 1 0 + count_by (is_free_of w at) P.large) (always (is_of w at block))));
}
  where
    block : PoolBlock
    block = record { addr = addr; words = words; used = false }

    new : List (ℕ × ℕ)
    new = (addr, words) ∷ P.large_lists (order_of words)

    always : (v : Bool) → (v && true) ≡ v
    always true = refl
    always false = refl

    count_list : (order w at : ℕ) → (order ≡ order_of words) ⊎ (order ≢ order_of words) →
        count_by (is_entry w at) (with_list (order_of words) new P.large_lists order)
        ≡ cond (order == order_of w) (cond (is_of w at block) 1 0 + count_by (is_free_of w at) P.large) 0
    count_list order w at (inl same) =
        ap (λ (o : ℕ). count_by (is_entry w at) (with_list (order_of words) new P.large_lists o)) same
        ∙ ap (λ (l : List (ℕ × ℕ)). count_by (is_entry w at) l) (with_list-here (order_of words) new P.large_lists)
        ∙ sum_by-cons (λ (e : ℕ × ℕ). cond (is_entry w at e) 1 0) (addr, words) (P.large_lists (order_of words))
        ∙ ap (λ (n : ℕ). cond (is_of w at block) 1 0 + n) (lists.listed (order_of words) w at)
        ∙ joined (cases_Bool (is_of w at block))
        ∙ ap (λ (o : ℕ). cond (o == order_of w)
        (cond (is_of w at block) 1 0 + count_by (is_free_of w at) P.large) 0) (sym same)
      where
        joined : (is_of w at block ≡ true) ⊎ (is_of w at block ≡ false) →
            cond (is_of w at block) 1 0 + cond (order_of words == order_of w) (count_by (is_free_of w at) P.large) 0
            ≡ cond (order_of words == order_of w) (cond (is_of w at block) 1 0 + count_by (is_free_of w at) P.large) 0
        joined (inl is) =
            let named : (words == w) ≡ true = (and_parts (addr == at) (words == w) is).1 in
            let order_is : (order_of words == order_of w) ≡ true =
            eq-eqb (order_of words) (order_of w) (ap order_of (eqb-true words w named)) in
            ap (λ (v : Bool). cond (is_of w at block) 1 0 + cond v (count_by (is_free_of w at) P.large) 0) order_is
            ∙ sym (ap (λ (v : Bool). cond v (cond (is_of w at block) 1 0 + count_by (is_free_of w at) P.large) 0) order_is)
        joined (inr not_it) =
            ap (λ (v : Bool). cond v 1 0 + cond (order_of words == order_of w) (count_by (is_free_of w at) P.large) 0) not_it
            ∙ zero_add (cond (order_of words == order_of w) (count_by (is_free_of w at) P.large) 0)
            ∙ sym (ap (λ (v : Bool). cond (order_of words == order_of w)
            (cond v 1 0 + count_by (is_free_of w at) P.large) 0) not_it
            ∙ ap (λ (n : ℕ). cond (order_of words == order_of w) n 0) (zero_add (count_by (is_free_of w at) P.large)))
          where
            zero_add : (n : ℕ) → 0 + n ≡ n
            zero_add n = omega arith
    count_list order w at (inr differ) =
        ap (λ (l : List (ℕ × ℕ)). count_by (is_entry w at) l)
        (with_list-other (order_of words) order new P.large_lists differ)
        ∙ lists.listed order w at
        ∙ ap (λ (n : ℕ). n) (joined (cases_Bool (is_of w at block)))
      where
        zero_add : (n : ℕ) → 0 + n ≡ n
        zero_add n = omega arith

        joined : (is_of w at block ≡ true) ⊎ (is_of w at block ≡ false) →
            cond (order == order_of w) (count_by (is_free_of w at) P.large) 0
            ≡ cond (order == order_of w) (cond (is_of w at block) 1 0 + count_by (is_free_of w at) P.large) 0
        joined (inl is) =
            let named : (words == w) ≡ true = (and_parts (addr == at) (words == w) is).1 in
            let order_not : (order == order_of w) ≡ false =
            ne_eqb order (order_of w) (λ o. differ (o ∙ sym (ap order_of (eqb-true words w named)))) in
            ap (λ (v : Bool). cond v (count_by (is_free_of w at) P.large) 0) order_not
            ∙ sym (ap (λ (v : Bool). cond v (cond (is_of w at block) 1 0 + count_by (is_free_of w at) P.large) 0) order_not)
        joined (inr not_it) =
            sym (ap (λ (v : Bool). cond (order == order_of w)
            (cond v 1 0 + count_by (is_free_of w at) P.large) 0) not_it
            ∙ ap (λ (n : ℕ). cond (order == order_of w) n 0) (zero_add (count_by (is_free_of w at) P.large)))

-- without a block in use
pub lists_loosened : (P : Pools) (addr : ℕ) → ListsFree P →
    ((w : ℕ) → count_by (is_free_of w addr) P.large ≡ 0) → ListsFree (record P { large = without addr P.large })
lists_loosened P addr lists none = record {
  listed = λ order w at.
      lists.listed order w at
      ∙ ap (λ (n : ℕ). cond (order == order_of w) n 0) (sym (stays w at (cases_eq at addr)));
}
  where
    stays : (w at : ℕ) → (at ≡ addr) ⊎ (at ≢ addr) →
        count_by (is_free_of w at) (without addr P.large) ≡ count_by (is_free_of w at) P.large
    stays w at (inl same) =
        ap (λ (a : ℕ). count_by (is_free_of w a) (without addr P.large)) same
        ∙ without-here (is_free_of w addr) addr P.large (free_of_is w addr)
        ∙ sym (ap (λ (a : ℕ). count_by (is_free_of w a) P.large) same ∙ none w)
    stays w at (inr apart) = without-other (is_free_of w at) at addr P.large (free_of_is w at) apart

-- the place of the highest bit, or the highest order
pub order_is_least : (words bit least : ℕ) → 2 ^ bit ≤ words → words < 2 * 2 ^ bit → least ≡ min bit 20 →
    least ≡ order_of words
order_is_least words bit least low high is = elim (cases_lt bit 21) [
  | inl few ↦
      omega (arith, is, few)
      ∙ sym (order_of-is bit words (omega (arith, few)) low (subst (λ (n : ℕ). words < n) (twice bit) high))
  | inr many ↦
      let power : 2 ^ 20 ≤ 2 ^ bit = pow_mono {i = 20} {j = bit} (omega (arith, many)) in
      omega (arith, is, many, order_of-most words (omega (arith, power, low)))
]
  where
    twice : (bit : ℕ) → 2 * 2 ^ bit ≡ 2 ^ (bit + 1)
    twice bit = omega (arith, pow_more 2 bit)
