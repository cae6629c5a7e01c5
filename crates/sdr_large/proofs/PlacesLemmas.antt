-- Where the blocks of a pool with a gap stand, and which words of theirs lie apart.
use Rattle.std.proofs.Common.{◌≡◌, ◌≢◌, ◌≤◌, ◌<◌, ◌⊎◌, inl, inr, ℕ, ◌+◌, ◌-◌, ◌*◌, ◌/◌, ◌%◌, Bool, true, false, cond, ◌&&◌, ◌==◌}
use Rattle.std.proofs.Common.{List, ap, arith, subst}
use Rattle.std.specs.List.{count_by}
use Rattle.std.proofs.lemmas.Bool.{cases_eq}
use Rattle.std.proofs.lemmas.Bool.Decides.{nat_tests}
use Rattle.sdr_base.specs.Pools.{PoolBlock, Pools, is_at, is_of, is_free_of, is_used_at}
use Rattle.sdr_base.specs.KeptLarge.{is_used_of, is_entry}
use Rattle.sdr_base.proofs.PoolsLemmas.{count_by-le, count_by-both, of-le-at, free-le-of, free-used-le-at}
use Rattle.sdr_large.specs.Gap.{TilesAround, IsFree}
use Rattle.sdr_large.proofs.FollowsLemmas.{follows-le, follows-whole}
use Rattle.sdr_large.proofs.PartedLemmas.{IsBeside, beside, blocks_apart}
use Rattle.sdr_large.proofs.ListsLemmas.{entry_free, free_entry}

-- two words lie apart
abbrev pub IsApart : ℕ → ℕ → Type 0
IsApart p q = (p + 8 ≤ q) ⊎ (q + 8 ≤ p)

left_part : (a b c : Bool) → cond (a && b && c) 1 0 ≤ cond (a && c) 1 0
left_part true true true = omega arith
left_part true true false = omega arith
left_part true false c = omega arith
left_part false b c = omega arith

left_two : (a b c : Bool) → cond (a && b && c) 1 0 ≤ cond (a && b) 1 0
left_two true true true = omega arith
left_two true true false = omega arith
left_two true false c = omega arith
left_two false b c = omega arith

one_of : (a b c : Bool) → (b && c) ≡ false → cond (a && b) 1 0 + cond (a && c) 1 0 ≤ cond a 1 0
one_of true true true not_both = cc
one_of true true false not_both = omega arith
one_of true false true not_both = omega arith
one_of true false false not_both = omega arith
one_of false b c not_both = omega arith

-- a block in use is a block in use at its address
pub used_of-le-at : (words addr : ℕ) (bs : List PoolBlock) →
    count_by (is_used_of words addr) bs ≤ count_by (is_used_at addr) bs
used_of-le-at words addr bs = count_by-le _ _ (λ b. left_part (is_at addr b) (b.words == words) b.used) bs

pub used_of-le-of : (words addr : ℕ) (bs : List PoolBlock) →
    count_by (is_used_of words addr) bs ≤ count_by (is_of words addr) bs
used_of-le-of words addr bs = count_by-le _ _ (λ b. left_two (is_at addr b) (b.words == words) b.used) bs

-- no block has two numbers of words
of-of-le-at : (words other addr : ℕ) (bs : List PoolBlock) → other ≢ words →
    count_by (is_of words addr) bs + count_by (is_of other addr) bs ≤ count_by (is_at addr) bs
of-of-le-at words other addr bs apart =
    count_by-both _ _ _ (λ b. one_of (is_at addr b) (b.words == words) (b.words == other) (differ b)) bs
  where
    differ : (b : PoolBlock) → (b.words == words && b.words == other) ≡ false
    differ b = grind (arith, nat_tests)

-- the places of the region stand in order, and it is not large
pub record InOrder (P : Pools) (from to : ℕ) : Type 0 where
  pub control : 1024 ≤ P.start
  pub small : P.start ≤ P.low
  pub order : P.low ≤ P.high
  pub first : P.high ≤ from
  pub gap : from ≤ to
  pub second : to ≤ P.end
  pub most : P.end ≤ 16777216
  pub whole : P.high % 8 ≡ 0
  pub from_whole : from % 8 ≡ 0
  pub end : P.end % 8 ≡ 0
  pub bits : (place : ℕ) → place < P.end → 1024 + place / 8 / 8 < P.start

module _ (P : Pools) (from to : ℕ) (tiles : TilesAround P from to) where
  pub in_order : InOrder P from to
  in_order =
      let region = tiles.bounds.region in
      let p = tiles.parted in
      record {
        control = omega (arith, tiles.bounds.start);
        small = tiles.least;
        order = tiles.bounds.order;
        first = follows-le P.high from p.below p.first;
        gap = p.gap;
        second = follows-le to P.end p.above p.second;
        most = omega (arith, region.whole, region.most);
        whole = tiles.whole;
        from_whole = omega (
          arith,
          tiles.whole,
          follows-whole P.high from p.below p.first,
          follows-le P.high from p.below p.first,
        );
        end = omega (arith, region.whole);
        bits = λ place lt. omega (arith, lt, region.whole, tiles.bounds.start);
      }

  pub at_block : (words addr : ℕ) → 0 < count_by (is_of words addr) P.large →
      IsBeside P.high P.end from to words addr P.large
  at_block words addr some = beside P.high P.end from to P.large tiles.parted words addr some

  -- a free block and one in use are blocks
  pub free_of : (words addr : ℕ) → IsFree P words addr → 0 < count_by (is_of words addr) P.large
  free_of words addr some = omega (arith, some, free-le-of words addr P.large)

  pub used_of : (words addr : ℕ) → 0 < count_by (is_used_of words addr) P.large →
      0 < count_by (is_of words addr) P.large
  used_of words addr some = omega (arith, some, used_of-le-of words addr P.large)

  -- the words of a block are those of its address
  pub same_words : (words other addr : ℕ) → 0 < count_by (is_of words addr) P.large →
      0 < count_by (is_of other addr) P.large → words ≡ other
  same_words words other addr some some' = elim (cases_eq words other) [
    | inl same ↦ same
    | inr differ ↦ absurd (omega (
      arith,
      some,
      some',
      (at_block words addr some).once,
      of-of-le-at other words addr P.large differ,
    ))
  ]

  pub unique : (w w' b : ℕ) → 0 < count_by (is_free_of w b) P.large → 0 < count_by (is_free_of w' b) P.large → w ≡ w'
  unique w w' b some some' = same_words w w' b (free_of w b some) (free_of w' b some')

  pub nonzero : (w b : ℕ) → 0 < count_by (is_free_of w b) P.large → b ≢ 0
  nonzero w b some is = omega (arith, is, (at_block w b (free_of w b some)).first)

  -- no address has a free block and one in use
  pub never_both : (w w' b : ℕ) → IsFree P w b → 0 < count_by (is_used_of w' b) P.large → ⊥
  never_both w w' b free used =
      omega (
        arith,
        free,
        used,
        used_of-le-at w' b P.large,
        free-used-le-at w b P.large,
        (at_block w b (free_of w b free)).once,
      )

  -- a block is entered once in its list
  pub entered_once : (order w b : ℕ) → count_by (is_entry w b) (P.large_lists order) ≤ 1
  entered_once order w b = elim (cases_lt0 (count_by (is_entry w b) (P.large_lists order))) [
    | inr none ↦ omega (arith, none)
    | inl some ↦
        let f = entry_free P tiles.lists order w b some in
        omega (
          arith,
          ap (λ (o : ℕ). count_by (is_entry w b) (P.large_lists o)) f.0,
          free_entry P tiles.lists w b,
          free-le-of w b P.large,
          of-le-at w b P.large,
          (at_block w b (free_of w b f.1)).once,
        )
  ]
    where
      cases_lt0 : (n : ℕ) → (0 < n) ⊎ (n ≡ 0)
      cases_lt0 n = grind arith

  -- an entry of a list is a free block
  pub entered_free : (order w b : ℕ) → 0 < count_by (is_entry w b) (P.large_lists order) → IsFree P w b
  entered_free order w b some = (entry_free P tiles.lists order w b some).1

  -- two blocks are one or lie apart
  pub one_or_apart : (w b w' b' : ℕ) → 0 < count_by (is_of w b) P.large → 0 < count_by (is_of w' b') P.large →
      ((b' ≡ b) × (w' ≡ w)) ⊎ ((b' + 8 * w' + 32 ≤ b) ⊎ (b + 8 * w + 32 ≤ b'))
  one_or_apart w b w' b' some some' = elim (cases_eq b' b) [
    | inl same ↦ inl (
      same,
      same_words w' w b
          (subst (λ (a : ℕ). 0 < count_by (is_of w' a) P.large) same some') some,
    )
    | inr differ ↦ inr (blocks_apart P.high P.end from to P.large tiles.parted w b w' b' some some' differ)
  ]

  -- the words of links that lie apart

  pub next_next : (w b w' b' : ℕ) → IsFree P w b → IsFree P w' b' → b' ≢ b → IsApart (b - 8) (b' - 8)
  next_next w b w' b' free free' differ = elim (one_or_apart w b w' b' (free_of w b free) (free_of w' b' free')) [
    | inl same ↦ absurd (differ same.0)
    | inr sides ↦ elim sides [
      | inl below ↦ inr (omega (arith, below, (at_block w b (free_of w b free)).first, (at_block w' b' (free_of w' b' free')).first))
      | inr above ↦ inl (omega (arith, above, (at_block w b (free_of w b free)).first, (at_block w' b' (free_of w' b' free')).first))
    ]
  ]

  pub next_back : (w b w' b' : ℕ) → IsFree P w b → IsFree P w' b' → IsApart (b - 8) (b' + 8 * w')
  next_back w b w' b' free free' = elim (one_or_apart w b w' b' (free_of w b free) (free_of w' b' free')) [
    | inl same ↦ inl (omega (arith, same.0, (at_block w b (free_of w b free)).first))
    | inr sides ↦ elim sides [
      | inl below ↦ inr (omega (arith, below, (at_block w b (free_of w b free)).first))
      | inr above ↦ inl (omega (arith, above, (at_block w b (free_of w b free)).first))
    ]
  ]

  pub back_back : (w b w' b' : ℕ) → IsFree P w b → IsFree P w' b' → b' ≢ b → IsApart (b + 8 * w) (b' + 8 * w')
  back_back w b w' b' free free' differ = elim (one_or_apart w b w' b' (free_of w b free) (free_of w' b' free')) [
    | inl same ↦ absurd (differ same.0)
    | inr sides ↦ elim sides [
      | inl below ↦ inr (omega (arith, below))
      | inr above ↦ inl (omega (arith, above))
    ]
  ]
