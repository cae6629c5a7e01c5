-- Where the blocks in use stand, by their words.
use Rattle.std.proofs.Common.{◌≡◌, ◌≤◌, ◌<◌, inl, inr, ℕ, ◌+◌}
use Rattle.std.proofs.Common.{List, arith}
use Rattle.std.specs.List.{count_by}
use Rattle.sdr_base.specs.KeptLarge.{KeepsLarge, is_used_of}
use Rattle.sdr_base.specs.KeptPools.{KeepsSmall}
use Rattle.sdr_base.specs.Pools.{PoolBlock, Pools, is_at, is_of, is_used_at}
use Rattle.sdr_base.specs.SmallPool.{words_at}
use Rattle.sdr_base.proofs.KeptPoolsLemmas.{IsBlock, is_block}
use Rattle.sdr_base.proofs.PoolsLemmas.{at-last, used-le-at, free-used-le-at}
use Rattle.sdr_base.proofs.SmallPoolLemmas.{words_at-is}
use Rattle.sdr_large.proofs.FollowsLemmas.{at_first}
use Rattle.sdr_large.proofs.NeighbourLemmas.{free_or_used}
use Rattle.sdr_large.proofs.PartedLemmas.{IsBeside}
use Rattle.sdr_large.proofs.PlacesLemmas.{at_block, used_of-le-of}
use Rattle.sdr_large.proofs.WalkLemmas.{tiles_whole}

-- a block of so many words at an address where one is in use is that one
pub used_of_both : (words addr : ℕ) (bs : List PoolBlock) → 0 < count_by (is_used_at addr) bs →
    0 < count_by (is_of words addr) bs → count_by (is_at addr) bs ≤ 1 → 0 < count_by (is_used_of words addr) bs
used_of_both words addr bs used there once = elim (free_or_used words addr bs there) [
  | inl free ↦ absurd (omega (arith, free, used, free-used-le-at words addr bs, once))
  | inr is ↦ is
]

-- a block in use has the words that are found at its address
pub used_words : (addr : ℕ) (bs : List PoolBlock) → 0 < count_by (is_used_at addr) bs →
    count_by (is_at addr) bs ≤ 1 → 0 < count_by (is_used_of (words_at addr bs) addr) bs
used_words addr bs used once = used_of_both (words_at addr bs) addr bs used (words_at-is addr bs used) once

-- where a small block in use of so many words stands
pub small_at : (x : List ℕ) (P : Pools) → KeepsSmall x P → (words addr : ℕ) →
    0 < count_by (is_used_of words addr) P.small → IsBlock x P words addr
small_at x P small words addr used =
    is_block x P words addr small (omega (arith, used, used_of-le-of words addr P.small))

-- where a large one does
pub large_at : (x : List ℕ) (P : Pools) → KeepsLarge x P → (words addr : ℕ) →
    0 < count_by (is_used_of words addr) P.large → IsBeside P.high P.end P.end P.end words addr P.large
large_at x P large words addr used =
    at_block P P.end P.end (tiles_whole P large.tiles) words addr
    (omega (arith, used, used_of-le-of words addr P.large))

-- no small block is in use so far up
pub none_small : (x : List ℕ) (P : Pools) (addr : ℕ) → KeepsSmall x P → P.low < addr + 8 →
    count_by (is_used_at addr) P.small ≡ 0
none_small x P addr small above =
    omega (arith, used-le-at addr P.small, at-last P.start P.low addr P.small small.tiles.follow above)

-- and no large one so far down
pub none_large : (x : List ℕ) (P : Pools) (addr : ℕ) → KeepsLarge x P → addr < P.high + 16 →
    count_by (is_used_at addr) P.large ≡ 0
none_large x P addr large below =
    omega (arith, used-le-at addr P.large, at_first P.high P.end addr P.large large.tiles.follow below)
