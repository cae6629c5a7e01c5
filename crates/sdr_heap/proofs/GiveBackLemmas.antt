-- A block given back to its pool, which is told by `low`.
use Rattle.std.proofs.Common.{◌≡◌, ◌≤◌, ◌<◌, inl, inr, ℕ, ◌-◌, Bool, true, false, cond}
use Rattle.std.proofs.Common.{List, sym, ap, ◌∙◌, arith, subst}
use Rattle.std.specs.Prelude.{None, nat_lt}
use Rattle.std.specs.List.{count_by}
use Rattle.std.proofs.Math.Path.{fun_ext}
use Rattle.std.proofs.lemmas.Bool.{cases_eq, lt-ltb, le-ltb}
use Rattle.sdr_base.specs.Blocks.{Uses, with_block}
use Rattle.sdr_base.specs.LargeGiving.{give_large}
use Rattle.sdr_base.specs.Pools.{Pools, IsUsed, is_used_at}
use Rattle.sdr_base.specs.Rules.{give_of}
use Rattle.sdr_base.specs.SmallPool.{give_small}
use Rattle.sdr_base.specs.Stored.{number_at}
use Rattle.sdr_base.proofs.KeptPoolsLemmas.{in_order}
use Rattle.sdr_base.proofs.ObjectsLemmas.{with_block-here, with_block-apart}
use Rattle.sdr_small.specs.Calls.{GivesSmall as SmallGives, KeepsUsedSmall}
use Rattle.sdr_large.specs.Calls.{GivesLarge, KeepsUsedLarge}
use Rattle.sdr_heap.specs.Calls.{GivesBack}
use Rattle.sdr_base.specs.KeptHeap.{KeepsHeap, KeepsSomeHeap, block_in}
use Rattle.sdr_heap.proofs.BesideLemmas.{IsWithout}
use Rattle.sdr_heap.proofs.BlockInLemmas.{small_block, large_block, in_use}
use Rattle.sdr_heap.proofs.UsedLemmas.{none_small}
use Rattle.sdr_heap.proofs.GiveSmallLemmas.{small_given}
use Rattle.sdr_heap.proofs.GiveLargeLemmas.{large_given}

-- a block in use begins below `low`, or two words above `high` or more
low_small : (x : List ℕ) (P : Pools) (addr : ℕ) → KeepsHeap x P → Uses (block_in x) addr →
    addr - 8 < number_at 16 x → IsUsed P.small addr
low_small x P addr keeps uses low = elim (in_use x P keeps.small keeps.large addr uses) [
  | inl used ↦ used
  | inr used ↦ absurd (omega (
    arith,
    low,
    keeps.small.low,
    keeps.small.tiles.bounds.order,
    (large_block x P keeps.small keeps.large addr used).first,
  ))
]

high_large : (x : List ℕ) (P : Pools) (addr : ℕ) → KeepsHeap x P → Uses (block_in x) addr →
    number_at 16 x ≤ addr - 8 → IsUsed P.large addr
high_large x P addr keeps uses high = elim (in_use x P keeps.small keeps.large addr uses) [
  | inr used ↦ used
  | inl used ↦ absurd (omega (
    arith,
    high,
    keeps.small.low,
    (small_block x P keeps.small keeps.large addr used).first,
    (small_block x P keeps.small keeps.large addr used).some,
    (small_block x P keeps.small keeps.large addr used).last,
  ))
]

-- the rule gives it back to its pool
small_rule : (P : Pools) (addr : ℕ) → IsUsed P.small addr → give_small P addr ≡ give_of P addr
small_rule P addr used =
    let is : nat_lt 0 (count_by (is_used_at addr) P.small) ≡ true =
    lt-ltb 0 (count_by (is_used_at addr) P.small) used.used in
    sym (ap (λ (v : Bool). cond v (give_small P addr) (give_large P addr)) is)

large_rule : (P : Pools) (addr : ℕ) → count_by (is_used_at addr) P.small ≡ 0 → give_large P addr ≡ give_of P addr
large_rule P addr none =
    let is : nat_lt 0 (count_by (is_used_at addr) P.small) ≡ false =
    le-ltb 0 (count_by (is_used_at addr) P.small) (omega (arith, none)) in
    sym (ap (λ (v : Bool). cond v (give_small P addr) (give_large P addr)) is)

-- so the block is back, whatever pools the heap has
module _ (x y : List ℕ) (addr : ℕ) (kept : KeepsSomeHeap x) (uses : Uses (block_in x) addr)
    (given : (P : Pools) → KeepsHeap x P → IsWithout (give_of P addr) addr x y) where
  given_blocks : (other : ℕ) → block_in y other ≡ with_block (block_in x) addr None other
  given_blocks other = elim (cases_eq other addr) [
    | inl same ↦
        ap (block_in y) same ∙ (given kept.pools kept.keeps).gone
        ∙ sym (ap (with_block (block_in x) addr None) same ∙ with_block-here (block_in x) addr None)
    | inr differ ↦
        (given kept.pools kept.keeps).beside.blocks other differ
        ∙ sym (with_block-apart (block_in x) addr None other differ)
  ]

  given_back : GivesBack addr x y
  given_back = record {
    rule = λ P keeps. (given P keeps).keeps;
    used = λ P keeps. in_use x P keeps.small keeps.large addr uses;
    blocks = fun_ext given_blocks;
    roots = (given kept.pools kept.keeps).beside.roots;
  }

-- a block below `low` is given back to the small pool
pub small_back : (x mid y : List ℕ) (addr : ℕ) → KeepsSomeHeap x → Uses (block_in x) addr → addr - 8 < number_at 16 x →
    mid ≡ x → SmallGives addr mid y → GivesBack addr x y
small_back x mid y addr kept uses low same gives = given_back x y addr kept uses (λ P keeps.
    let used = low_small x P addr keeps uses low in
    subst (λ (Q : Pools). IsWithout Q addr x y) (small_rule P addr used)
    (small_given P addr x y keeps used (subst (λ (l : List ℕ). SmallGives addr l y) same gives)))

-- and one above to the large pool
pub large_back : (x mid y : List ℕ) (addr : ℕ) → KeepsSomeHeap x → Uses (block_in x) addr → number_at 16 x ≤ addr - 8 →
    mid ≡ x → GivesLarge addr mid y → GivesBack addr x y
large_back x mid y addr kept uses high same gives = given_back x y addr kept uses (λ P keeps.
    let used = high_large x P addr keeps uses high in
    subst (λ (Q : Pools). IsWithout Q addr x y)
    (large_rule P addr (none_small x P addr keeps.small (omega (
      arith,
      (large_block x P keeps.small keeps.large addr used).first,
      keeps.small.tiles.bounds.order,
    ))))
    (large_given P addr x y keeps used (subst (λ (l : List ℕ). GivesLarge addr l y) same gives)))

-- and so it can be given back there
pub small_can : (x y : List ℕ) (addr : ℕ) → KeepsSomeHeap x → Uses (block_in x) addr → addr - 8 < number_at 16 x →
    y ≡ x → KeepsUsedSmall addr y
small_can x y addr kept uses low same = subst (KeepsUsedSmall addr) (sym same) (record {
  pools = kept.pools;
  keeps = kept.keeps.small;
  used = low_small x kept.pools addr kept.keeps uses low;
})

pub large_can : (x y : List ℕ) (addr : ℕ) → KeepsSomeHeap x → Uses (block_in x) addr → number_at 16 x ≤ addr - 8 →
    y ≡ x → KeepsUsedLarge addr y
large_can x y addr kept uses high same = subst (KeepsUsedLarge addr) (sym same) (record {
  pools = kept.pools;
  keeps = kept.keeps.large;
  used = high_large x kept.pools addr kept.keeps uses high;
})

-- a block in use stands behind the control words
pub used_above : (x : List ℕ) (addr : ℕ) → KeepsSomeHeap x → Uses (block_in x) addr → 1024 ≤ addr
used_above x addr kept uses =
    let k = kept.keeps in
    let o = in_order x kept.pools k.small in
    elim (in_use x kept.pools k.small k.large addr uses) [
      | inl used ↦ omega (arith, o.control, (small_block x kept.pools k.small k.large addr used).first)
      | inr used ↦
          omega (arith, o.control, o.small, o.order, (large_block x kept.pools k.small k.large addr used).first)
    ]
