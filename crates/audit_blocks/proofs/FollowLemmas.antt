-- Blocks that follow one another.
use Rattle.std.proofs.Common.{◌≡◌, ◌≤◌, ◌<◌, ◌+◌, ◌*◌, ℕ, Bool, List, [], ◌∷◌, ◌++◌, None, Some, cond, true, arith, ap, ◌∙◌, refl, sym, subst}
use Rattle.std.proofs.lemmas.Bool.{ne_eqb}
use Rattle.sdr_base.specs.LargePool.{extent_of}
use Rattle.sdr_base.specs.Pools.{PoolBlock}
use Rattle.audit_blocks.specs.Spots.{begun_in}
use Rattle.audit_blocks.specs.Walk.{LargeFollow, SmallFollow, is_large_at, is_small_at, large_at, small_at}

-- a small block follows those that come up to it
pub small_then : (bytes : List ℕ) (done : List PoolBlock) (from to : ℕ) → SmallFollow bytes from done to → is_small_at bytes to ≡ true →
    SmallFollow bytes from (done ++ (small_at bytes to ∷ [])) (to + 8 * (1 + (small_at bytes to).words))
small_then bytes [] from to at is =
    subst (λ (n : ℕ). SmallFollow bytes n (small_at bytes to ∷ []) (to + 8 * (1 + (small_at bytes to).words))) (sym at) (is, refl, refl)
small_then bytes (block ∷ done) from to (here, block_is, more) is = (here, block_is, small_then bytes done _ to more is)

-- a large block follows those that come up to it
pub large_then : (bytes : List ℕ) (done : List PoolBlock) (from to : ℕ) → LargeFollow bytes from done to → is_large_at bytes to ≡ true →
    LargeFollow bytes from (done ++ (large_at bytes to ∷ [])) (to + extent_of (large_at bytes to).words)
large_then bytes [] from to at is =
    subst (λ (n : ℕ). LargeFollow bytes n (large_at bytes to ∷ []) (to + extent_of (large_at bytes to).words)) (sym at) (is, refl, refl)
large_then bytes (block ∷ done) from to (here, block_is, more) is = (here, block_is, large_then bytes done _ to more is)

-- blocks come up to a place that isn't before where they begin
pub small_rises : (bytes : List ℕ) (done : List PoolBlock) (from to : ℕ) → SmallFollow bytes from done to → from ≤ to
small_rises bytes [] from to at = omega (arith, at)
small_rises bytes (block ∷ done) from to (here, block_is, more) = let later = small_rises bytes done _ to more in omega (arith, later)

pub large_rises : (bytes : List ℕ) (done : List PoolBlock) (from to : ℕ) → LargeFollow bytes from done to → from ≤ to
large_rises bytes [] from to at = omega (arith, at)
large_rises bytes (block ∷ done) from to (here, block_is, more) = let later = large_rises bytes done _ to more in omega (arith, later)

-- none of those that come up to a place begins there or behind it
pub small_ends : (bytes : List ℕ) (done : List PoolBlock) (from to place : ℕ) → SmallFollow bytes from done to → to ≤ place → begun_in 8 done place ≡ None
small_ends bytes [] from to place at behind = refl
small_ends bytes (block ∷ done) from to place (here, block_is, more) behind =
    let later = small_rises bytes done _ to more in
    let addr : block.addr ≡ from + 8 = ap (λ (b : PoolBlock). b.addr) block_is in
    ap (λ (t : Bool). cond t (Some block) (begun_in 8 done place)) (ne_eqb block.addr (place + 8) (λ e. omega (arith, e, addr, later, behind)))
    ∙ small_ends bytes done _ to place more behind

pub large_ends : (bytes : List ℕ) (done : List PoolBlock) (from to place : ℕ) → LargeFollow bytes from done to → to ≤ place → begun_in 16 done place ≡ None
large_ends bytes [] from to place at behind = refl
large_ends bytes (block ∷ done) from to place (here, block_is, more) behind =
    let later = large_rises bytes done _ to more in
    let addr : block.addr ≡ from + 16 = ap (λ (b : PoolBlock). b.addr) block_is in
    ap (λ (t : Bool). cond t (Some block) (begun_in 16 done place)) (ne_eqb block.addr (place + 16) (λ e. omega (arith, e, addr, later, behind)))
    ∙ large_ends bytes done _ to place more behind

-- none of those that come from a place on begins before it
pub large_begins : (bytes : List ℕ) (done : List PoolBlock) (from to place : ℕ) → LargeFollow bytes from done to → place < from → begun_in 16 done place ≡ None
large_begins bytes [] from to place at before = refl
large_begins bytes (block ∷ done) from to place (here, block_is, more) before =
    let addr : block.addr ≡ from + 16 = ap (λ (b : PoolBlock). b.addr) block_is in
    ap (λ (t : Bool). cond t (Some block) (begun_in 16 done place)) (ne_eqb block.addr (place + 16) (λ e. omega (arith, e, addr, before)))
    ∙ large_begins bytes done _ to place more (omega (arith, before))
