-- The blocks in use of a heap are few: one for 16 bytes at most.
use Rattle.std.proofs.Common.{◌≡◌, ◌≢◌, ◌≤◌, ◌<◌, inl, inr, ℕ, ◌+◌, Bool, cond, not, ◌==◌}
use Rattle.std.proofs.Common.{List, [], ◌∷◌, ◌++◌, length, refl, sym, ap, ◌∙◌, arith, length-append}
use Rattle.std.specs.Prelude.{Some, None}
use Rattle.std.specs.List.{count_by}
use Rattle.std.proofs.lemmas.Bool.{cases_Bool, cases_lt, eq-eqb}
use Rattle.sdr_base.specs.Blocks.{Block}
use Rattle.sdr_base.specs.Entries.{Entries, Few, BlocksAre, at, times}
use Rattle.sdr_base.specs.LargePool.{without}
use Rattle.sdr_base.specs.Pools.{PoolBlock, Pools, is_at}
use Rattle.sdr_base.proofs.FewLemmas.{Tiles-few}
use Rattle.sdr_base.proofs.PoolsLemmas.{count_by-append, count_by-yes, count_by-no, used-le-at}
use Rattle.sdr_large.proofs.BlocksLemmas.{without-other, at_is}
use Rattle.sdr_base.specs.KeptHeap.{KeepsHeap, block_in}
use Rattle.sdr_heap.proofs.BlockInLemmas.{none_in}

-- the blocks without those at an address are as many fewer
without-length : (addr : ℕ) (bs : List PoolBlock) → length (without addr bs) + count_by (is_at addr) bs ≡ length bs
unfolding without
without-length addr [] = refl
without-length addr (b ∷ bs) = elim (cases_Bool (is_at addr b)) [
  | inl here ↦ omega (
    arith,
    ap (λ (v : Bool). length (cond (not v) (b ∷ without addr bs) (without addr bs))) here,
    count_by-yes (is_at addr) b bs here,
    without-length addr bs,
  )
  | inr other ↦ omega (
    arith,
    ap (λ (v : Bool). length (cond (not v) (b ∷ without addr bs) (without addr bs))) other,
    count_by-no (is_at addr) b bs other,
    without-length addr bs,
  )
]

-- an address is listed once more where the first entry has it
times-first : (e : ℕ × Block) (es : Entries) → times e.0 (e ∷ es) ≡ 1 + times e.0 es
unfolding times
times-first e es = ap (λ (v : Bool). cond v 1 0 + times e.0 es) (eq-eqb e.0 e.0 refl)

times-le : (addr : ℕ) (e : ℕ × Block) (es : Entries) → times addr es ≤ times addr (e ∷ es)
unfolding times
times-le addr e es = omega arith

-- where nothing stands at an address, it isn't listed
at-none : (es : Entries) (addr : ℕ) → at es addr ≡ None → times addr es ≡ 0
unfolding at times
at-none [] addr none = refl
at-none (e ∷ es) addr none = elim (cases_Bool (e.0 == addr)) [
  | inl here ↦
      let some : Some e.1 ≡ None = sym (ap (λ (v : Bool). cond v (Some e.1) (at es addr)) here) ∙ none in absurd cc
  | inr other ↦
      let rest = at-none es addr (sym (ap (λ (v : Bool). cond v (Some e.1) (at es addr)) other) ∙ none) in
      omega (arith, rest, ap (λ (v : Bool). cond v 1 0 + times addr es) other)
]

-- distinct addresses, each of which is that of a block, are as many as the blocks at most
entries-few : (es : Entries) (bs : List PoolBlock) → ((addr : ℕ) → times addr es ≤ 1) →
    ((addr : ℕ) → 0 < times addr es → 0 < count_by (is_at addr) bs) → length es ≤ length bs
entries-few [] bs once each = omega arith
entries-few (e ∷ es) bs once each =
    let first = times-first e es in
    let rest = entries-few es (without e.0 bs) (λ addr. omega (arith, once addr, times-le addr e es))
    (λ addr some. omega (
      arith,
      each addr (omega (arith, some, times-le addr e es)),
      without-other (is_at addr) addr e.0 bs (at_is addr) (apart addr some),
    )) in
    omega (arith, rest, without-length e.0 bs, each e.0 (omega (arith, first)))
  where
    apart : (addr : ℕ) → 0 < times addr es → addr ≢ e.0
    apart addr some same =
        omega (arith, some, ap (λ (a : ℕ). times a es) same, times-first e es, once e.0)

-- so the blocks in use are few
pub block_in-few : (x : List ℕ) (P : Pools) → KeepsHeap x P → Few (length x) (block_in x)
block_in-few x P keeps = record {
  few = λ es stands.
      let some = entries-few es (P.small ++ P.large) stands.once (λ addr listed. is_there es stands addr listed) in
      omega (
        arith,
        some,
        length-append P.small P.large,
        Tiles-few P (record { small = keeps.small.tiles; large = keeps.large.tiles }),
        keeps.small.size,
      );
}
  where
    is_there : (es : Entries) → BlocksAre (block_in x) es → (addr : ℕ) → 0 < times addr es →
        0 < count_by (is_at addr) (P.small ++ P.large)
    is_there es stands addr listed = elim (cases_lt 0 (count_by (is_at addr) (P.small ++ P.large))) [
      | inl some ↦ some
      | inr none ↦
          let both = count_by-append (is_at addr) P.small P.large in
          absurd (omega (
            arith,
            listed,
            at-none es addr (sym (stands.same addr)
                ∙ none_in x P keeps.small keeps.large addr
                (omega (arith, none, both, used-le-at addr P.small))
                (omega (arith, none, both, used-le-at addr P.large))),
          ))
    ]
