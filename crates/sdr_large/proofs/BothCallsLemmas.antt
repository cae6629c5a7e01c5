-- The calls of each pool on bytes that keep both: they keep both.
use Rattle.std.proofs.Common.{◌≡◌, ◌≤◌, ℕ, ◌+◌, ◌-◌, ◌*◌, ◌/◌, Bool, true, false, cond, nat_lt}
use Rattle.std.proofs.Common.{List, [], ◌∷◌, refl, sym, ap, arith, subst}
use Rattle.std.specs.Prelude.{Option, Some, None}
use Rattle.std.specs.List.{count_by}
use Rattle.std.proofs.lemmas.Bool.{ltb-false}
use Rattle.sdr_base.specs.FreshHeap.{fresh_heap}
use Rattle.sdr_base.specs.Pools.{PoolBlock, Pools, IsUsed, is_used_at, fresh_pools}
use Rattle.sdr_base.specs.SmallPool.{take_from, with_front_taken, with_new_small, give_small, words_at}
use Rattle.sdr_base.specs.LargePool.{extent_of, found_large, take_found, with_cut, with_new_large}
use Rattle.sdr_base.specs.LargeGiving.{give_large}
use Rattle.sdr_base.specs.KeptPools.{KeepsSmall, StaysBeside}
use Rattle.sdr_base.specs.KeptLarge.{KeepsLarge}
use Rattle.sdr_base.proofs.FreshPoolsLemmas.{fresh_keeps}
use Rattle.sdr_base.proofs.FreshLargeLemmas.{fresh_keeps_large}
use Rattle.sdr_base.proofs.KeptPoolsLemmas.{in_order, is_block, free_is, front_free, large_stays}
use Rattle.sdr_base.proofs.SmallPoolLemmas.{words_at-is}
use Rattle.sdr_small.specs.Calls.{TakesBy as SmallTakesBy, TakesSmall, GivesSmall as SmallGives, KeepsUsedSmall}
use Rattle.sdr_large.specs.Both.{KeepsBoth}
use Rattle.sdr_large.specs.Calls.{Becomes, TakesBy, TakesLarge, KeepsUsedLarge, KeepsOthers, GivesLarge}
use Rattle.sdr_large.proofs.BothPoolsLemmas.{SameSmall, SameLarge, small_kept, large_kept, cut_same, new_same, give_same}
use Rattle.sdr_large.proofs.CallsLemmas.{used_in}

-- a fresh heap keeps both pools
pub fresh_both : (lines : ℕ) → 32 ≤ lines → lines ≤ 262144 → KeepsBoth (fresh_heap lines)
fresh_both lines least most = record {
  pools = fresh_pools lines;
  small = fresh_keeps lines least most;
  large = fresh_keeps_large lines least most;
}

-- both pools are kept after a call of the small one, and the large one is the same
record AfterSmall (P : Pools) (y : List ℕ) : Type 0 where
  pub pools : Pools
  pub small : KeepsSmall y pools
  pub large : KeepsLarge y pools
  pub same : SameLarge P pools

-- so it is where nothing changed
after_nothing : (x y : List ℕ) (k : KeepsBoth x) → y ≡ x → AfterSmall k.pools y
after_nothing x y k is = subst (AfterSmall k.pools) (sym is) (record {
  pools = k.pools;
  small = k.small;
  large = k.large;
  same = record { start = refl; end = refl; high = refl; large = refl; large_lists = refl };
})

-- and where a block below `high` changed
after_small : (Q : Pools) (x y : List ℕ) (words addr : ℕ) (k : KeepsBoth x) → SameLarge k.pools Q → KeepsSmall y Q →
    k.pools.start + 8 ≤ addr → addr + 8 * words ≤ k.pools.high → StaysBeside k.pools.start addr words x y →
    AfterSmall k.pools y
after_small Q x y words addr k same small first last stays = record {
  pools = Q;
  small = small;
  large = large_kept k.pools Q x y k.large
      (large_stays x y k.pools words addr k.small (omega (arith, first)) first last stays) same small;
  same = same;
}

-- so it is where a block was taken from the small pool
after_taking : (x y : List ℕ) (words : ℕ) (found : Option ℕ) (k : KeepsBoth x) → TakesSmall words found x y →
    AfterSmall k.pools y
after_taking x y words found k takes = few (nat_lt 64 words) (takes.rule k.pools k.small)
  where
    cut : (full : Bool) → nat_lt k.pools.high (k.pools.low + 8 * (1 + words)) ≡ full →
        SmallTakesBy k.pools words
        (cond full None (Some (record { addr = k.pools.low + 8; pools = with_new_small k.pools words }))) found x y →
        AfterSmall k.pools y
    cut true is by = after_nothing x y k by.1
    cut false is by =
        let o = in_order x k.pools k.small in
        let fits = ltb-false k.pools.high (k.pools.low + 8 * (1 + words)) is in
        after_small (with_new_small k.pools words) x y words (k.pools.low + 8) k
        (record { start = refl; end = refl; high = refl; large = refl; large_lists = refl }) by.keeps
        (omega (arith, o.small)) (omega (arith, fits)) by.others

    listed : (l : List ℕ) → k.pools.small_lists words ≡ l →
        SmallTakesBy k.pools words (take_from k.pools words l) found x y → AfterSmall k.pools y
    listed [] is by = cut (nat_lt k.pools.high (k.pools.low + 8 * (1 + words))) refl by
    listed (a ∷ rest) is by =
        let b = is_block x k.pools words a k.small
        (free_is k.pools words a (front_free x k.pools words a rest k.small is)) in
        let o = in_order x k.pools k.small in
        after_small (with_front_taken k.pools words a rest) x y words a k
        (record { start = refl; end = refl; high = refl; large = refl; large_lists = refl }) by.keeps
        b.first (omega (arith, b.last, o.order)) by.others

    few : (many : Bool) → SmallTakesBy k.pools words
        (cond many None (take_from k.pools words (k.pools.small_lists words))) found x y → AfterSmall k.pools y
    few true by = after_nothing x y k by.1
    few false by = listed (k.pools.small_lists words) refl by

-- whether a small block is in use is told by its start bit, whatever pools the bytes keep
small_used_in : (x : List ℕ) (P Q : Pools) (addr : ℕ) → KeepsSmall x P → KeepsSmall x Q → IsUsed P.small addr →
    IsUsed Q.small addr
small_used_in x P Q addr p q used =
    let o = in_order x P p in
    let b = is_block x P (words_at addr P.small) addr p (words_at-is addr P.small used.used) in
    let one = p.bits ((addr - 8) / 8) (omega (arith, b.bit))
    (omega (arith, b.whole, b.last, b.some, o.order)) in
    let same = q.bits ((addr - 8) / 8) (omega (arith, b.bit, p.start, q.start))
    (omega (arith, b.whole, b.last, b.some, o.order, p.high, q.high)) in
    record {
      used = omega (
        arith,
        used.used,
        one,
        same,
        ap (λ (n : ℕ). count_by (is_used_at n) P.small) b.whole,
        ap (λ (n : ℕ). count_by (is_used_at n) Q.small) b.whole,
      );
    }

-- and where one was given back
after_giving : (x y : List ℕ) (addr : ℕ) (k : KeepsBoth x) → KeepsUsedSmall addr x → SmallGives addr x y →
    AfterSmall k.pools y
after_giving x y addr k u gives =
    let used = small_used_in x u.pools k.pools addr u.keeps k.small u.used in
    let b = is_block x k.pools (words_at addr k.pools.small) addr k.small
    (words_at-is addr k.pools.small used.used) in
    let o = in_order x k.pools k.small in
    let given = gives.rule k.pools k.small used in
    after_small (give_small k.pools addr) x y (words_at addr k.pools.small) addr k
    (record { start = refl; end = refl; high = refl; large = refl; large_lists = refl }) given.keeps b.first
    (omega (arith, b.last, o.order)) given.others

-- the large blocks in use go on being in use
AfterSmall-others : (x y : List ℕ) (k : KeepsBoth x) → AfterSmall k.pools y → KeepsOthers 0 x y
AfterSmall-others x y k a = record {
  still = λ other differ u. record {
    pools = a.pools;
    keeps = a.large;
    used = subst (λ (l : List PoolBlock). IsUsed l other) (sym a.same.large)
        (used_in x u.pools k.pools other u.keeps k.large u.used);
  };
}

-- taking from the small pool keeps both
pub small_taken : (x y : List ℕ) (words : ℕ) (found : Option ℕ) → KeepsBoth x → TakesSmall words found x y → KeepsBoth y
small_taken x y words found k takes =
    let a = after_taking x y words found k takes in record { pools = a.pools; small = a.small; large = a.large }

-- and the large blocks in use
pub small_taken-others : (x y : List ℕ) (words : ℕ) (found : Option ℕ) → KeepsBoth x → TakesSmall words found x y →
    KeepsOthers 0 x y
small_taken-others x y words found k takes = AfterSmall-others x y k (after_taking x y words found k takes)

-- giving back to the small pool keeps both
pub small_given : (x y : List ℕ) (addr : ℕ) → KeepsBoth x → KeepsUsedSmall addr x → SmallGives addr x y → KeepsBoth y
small_given x y addr k u gives =
    let a = after_giving x y addr k u gives in record { pools = a.pools; small = a.small; large = a.large }

-- and the large blocks in use
pub small_given-others : (x y : List ℕ) (addr : ℕ) → KeepsBoth x → KeepsUsedSmall addr x → SmallGives addr x y →
    KeepsOthers 0 x y
small_given-others x y addr k u gives = AfterSmall-others x y k (after_giving x y addr k u gives)

-- what a call of the large pool makes of both
after_large : (Q : Pools) (addr : ℕ) (x y : List ℕ) (k : KeepsBoth x) → SameSmall k.pools Q →
    Becomes k.pools Q addr x y → KeepsBoth y
after_large Q addr x y k same becomes = record {
  pools = Q;
  small = small_kept k.pools Q x y same k.small becomes.small becomes.keeps;
  large = becomes.keeps;
}

-- taking from the large pool keeps both
pub large_taken : (x y : List ℕ) (words : ℕ) (found : Option ℕ) → KeepsBoth x → TakesLarge words found x y → KeepsBoth y
large_taken x y words found k takes = either (found_large k.pools words) (takes.rule k.pools k.large)
  where
    new : (full : Bool) → TakesBy k.pools (cond full None (Some (record {
      addr = k.pools.high - extent_of words + 16;
      pools = with_new_large k.pools words;
    }))) found x y → KeepsBoth y
    new true by = subst KeepsBoth (sym by.1) k
    new false by = after_large (with_new_large k.pools words) (k.pools.high - extent_of words + 16) x y k
        (new_same k.pools words) by.becomes

    either : (o : Option (ℕ × ℕ)) → TakesBy k.pools (take_found k.pools words o) found x y → KeepsBoth y
    either None by = new (nat_lt k.pools.high (k.pools.low + extent_of words)) by
    either (Some block) by =
        after_large (with_cut k.pools words block) block.0 x y k (cut_same k.pools words block) by.becomes

-- giving back to the large pool keeps both
pub large_given : (x y : List ℕ) (addr : ℕ) → KeepsBoth x → KeepsUsedLarge addr x → GivesLarge addr x y → KeepsBoth y
large_given x y addr k u gives =
    after_large (give_large k.pools addr) addr x y k (give_same k.pools addr)
    (gives.rule k.pools k.large (used_in x u.pools k.pools addr u.keeps k.large u.used))
