-- What each step of giving a block back needs, and does.
use Rattle.std.proofs.Common.{◌≡◌, ◌≢◌, ◌≤◌, ◌<◌, ℕ, ◌+◌, ◌-◌, ◌*◌, ◌/◌, ◌%◌, ◌^◌, Bool, true, false, cond}
use Rattle.std.proofs.Common.{List, length, sym, ap, ◌∙◌, arith, subst}
use Rattle.std.specs.Prelude.{Option, None, nat_le}
use Rattle.std.specs.List.{find}
use Rattle.std.proofs.lemmas.Bool.{eq-eqb, ne_eqb}
use Rattle.sdr_base.specs.Pools.{PoolBlock}
use Rattle.sdr_base.specs.LargePool.{with_unlinked, with_free_large}
use Rattle.sdr_base.specs.LargeGiving.{Loose, is_free_at, is_free_below, with_below, with_above, joined_below, joined_above}
use Rattle.sdr_base.specs.KeptLarge.{HoldsLarge}
use Rattle.sdr_base.specs.Stored.{number_at, with_number, leader_words}
use Rattle.sdr_large.specs.declared.block.Block.{Block}
use Rattle.sdr_large.specs.Gap.{IsFree, Steps}
use Rattle.sdr_large.specs.Giving.{IsLoose, Names, HoldsLoose, JoinsBelow, JoinsAbove, SetsFree}
use Rattle.sdr_large.specs.Steps.{HoldsFree, HoldsGap, Unlinks, PutsFree}
use Rattle.sdr_large.proofs.HighLemmas.{high_holds, high_below, high_used}
use Rattle.sdr_large.proofs.JoinLemmas.{steps_same, IsFound, none_at_high, none_below, found_below, below_words}
use Rattle.sdr_large.proofs.JoinLemmas.{none_at_end, none_above, found_above, above_leader}
use Rattle.sdr_large.proofs.LooseLemmas.{below_there, above_there, below_ends, above_begins}
use Rattle.sdr_large.proofs.PlacesLemmas.{in_order, at_block, free_of}

-- where a loose block stands
pub record CanJoin (block : Block) (x : List ℕ) : Type 0 where
  pub least : 1040 ≤ block.addr
  pub whole : block.addr % 8 ≡ 0
  pub inside : block.addr + 8 * block.words + 16 ≤ length x
  pub short : length x ≤ 16777216
  pub high : number_at 24 x ≤ block.addr - 16
  pub at_high : 1024 ≤ number_at 24 x

pub can_join : (block : Block) (x z : List ℕ) → HoldsLoose block x → z ≡ x → CanJoin block z
can_join block x z k same =
    let o = in_order k.loose.pools k.from k.to k.is.tiles in
    subst (CanJoin block) (sym same) (record {
      least = omega (arith, k.names.addr, k.is.at, o.control, o.small, o.order, o.first);
      whole = omega (arith, k.names.addr, k.is.at, o.from_whole);
      inside = omega (arith, k.names.addr, k.names.words, k.is.at, k.is.ends, o.second, k.holds.size);
      short = omega (arith, o.most, k.holds.size);
      high = omega (arith, k.holds.high, k.names.addr, k.is.at, o.first);
      at_high = omega (arith, k.holds.high, o.control, o.small, o.order);
    })

-- the loose block is free of neighbours below
none_joined : (block : Block) (x y : List ℕ) → y ≡ x →
    ((loose : Loose) (from to : ℕ) → IsLoose loose from to → HoldsLarge x loose.pools → Names block loose →
    find (is_free_below loose.addr) loose.pools.large ≡ None) → JoinsBelow block block x y
none_joined block x y same none = record {
  rule = λ loose from to is holds names.
      subst (λ (o : Option PoolBlock). Names block (with_below o loose)
      × Steps loose.pools (with_below o loose).pools 0 x y) (sym (none loose from to is holds names))
      (names, steps_same loose.pools x y holds same);
}

pub joins_at_high : (block : Block) (x y : List ℕ) (high : ℕ) → high ≡ number_at 24 x → y ≡ x →
    block.addr - 16 ≡ high → JoinsBelow block block x y
joins_at_high block x y high high_is same at = none_joined block x y same (λ loose from to is holds names.
    none_at_high loose from to x is holds (omega (arith, at, high_is, holds.high, names.addr, is.at)))

pub joins_used : (block : Block) (x a y : List ℕ) (used : Bool) → a ≡ x →
    used ≡ nat_le (2 ^ 56) (number_at (block.addr - 16 - 8) a) → used ≡ true → y ≡ x → JoinsBelow block block x y
joins_used block x a y used same read is_used same' = none_joined block x y same' (λ loose from to is holds names.
    none_below loose from to x is holds
    (ap (λ (n : ℕ). nat_le (2 ^ 56) (number_at n x)) (omega (arith, names.addr, is.at))
    ∙ ap (λ (l : List ℕ). nat_le (2 ^ 56) (number_at (block.addr - 16 - 8) l)) (sym same) ∙ sym read ∙ is_used))

-- the block below that is read off its last word
module _ (block : Block) (x : List ℕ) (high words : ℕ) (high_is : high ≡ number_at 24 x)
    (differ : block.addr - 16 ≢ high) (free : nat_le (2 ^ 56) (number_at (block.addr - 16 - 8) x) ≡ false)
    (words_is : words ≡ number_at (block.addr - 16 - 8) x / 2 ^ 32 % 2 ^ 24)
    (loose : Loose) (from to : ℕ) (is : IsLoose loose from to) (holds : HoldsLarge x loose.pools)
    (names : Names block loose) where
  last_at : from - 8 ≡ block.addr - 16 - 8
  last_at = omega (arith, names.addr, is.at)

  below_found : IsFound (is_free_below loose.addr) loose.pools.large
  below_found =
      let o = in_order loose.pools from to is.tiles in
      found_below loose from to x is holds
      (omega (arith, differ, high_is, holds.high, names.addr, is.at, o.first))
      (ap (λ (n : ℕ). nat_le (2 ^ 56) (number_at n x)) last_at ∙ free)

  has_words : words ≡ below_found.block.words
  has_words = words_is ∙ ap (λ (n : ℕ). number_at n x / 2 ^ 32 % 2 ^ 24) (sym last_at)
      ∙ below_words loose from to x is holds below_found

  has_addr : block.addr - 16 - 8 * words - 16 ≡ below_found.block.addr
  has_addr = omega (
    arith,
    has_words,
    names.addr,
    is.at,
    below_ends loose from to is below_found.block below_found.is,
  )

  is_free : IsFree loose.pools words (block.addr - 16 - 8 * words - 16)
  is_free = subst (λ (w : ℕ). IsFree loose.pools w (block.addr - 16 - 8 * words - 16)) (sym has_words)
      (subst (λ (a : ℕ). IsFree loose.pools below_found.block.words a) (sym has_addr)
      (below_there loose from to is below_found.block below_found.is).free)

  pub below_fits : 8 * words + 16 + 1024 ≤ block.addr - 16
  below_fits =
      let o = in_order loose.pools from to is.tiles in
      omega (
        arith,
        has_words,
        names.addr,
        is.at,
        below_ends loose from to is below_found.block below_found.is,
        (at_block loose.pools from to is.tiles below_found.block.words below_found.block.addr
            (free_of loose.pools from to is.tiles below_found.block.words below_found.block.addr
            (below_there loose from to is below_found.block below_found.is).free)).first,
        o.control,
        o.small,
        o.order,
      )

  pub below_holds : HoldsFree words (block.addr - 16 - 8 * words - 16) x
  below_holds = record {
    pools = loose.pools;
    from = from;
    to = to;
    tiles = is.tiles;
    holds = holds;
    free = is_free;
  }

  pub below_joined : (y : List ℕ) → Unlinks words (block.addr - 16 - 8 * words - 16) x y →
      Names (record { addr = block.addr - 16 - 8 * words - 16; words = words + 4 + block.words }) (joined_below loose)
      × Steps loose.pools (joined_below loose).pools 0 x y
  below_joined y unlinks =
      subst (λ (o : Option PoolBlock). Names
      (record { addr = block.addr - 16 - 8 * words - 16; words = words + 4 + block.words }) (with_below o loose)
      × Steps loose.pools (with_below o loose).pools 0 x y) (sym below_found.is) (
        record { addr = has_addr; words = omega (arith, has_words, names.words) },
        subst (λ (w : ℕ). Steps loose.pools (with_unlinked loose.pools below_found.block.addr w) 0 x y) has_words
            (subst (λ (a : ℕ). Steps loose.pools (with_unlinked loose.pools a words) 0 x y) has_addr
            (unlinks.rule loose.pools from to is.tiles holds is_free)),
      )

-- the loose block is free of neighbours above
none_joined_above : (block : Block) (x y : List ℕ) → y ≡ x →
    ((loose : Loose) (from to : ℕ) → IsLoose loose from to → HoldsLarge x loose.pools → Names block loose →
    find (is_free_at (loose.addr + 8 * (4 + loose.words))) loose.pools.large ≡ None) → JoinsAbove block block x y
none_joined_above block x y same none = record {
  rule = λ loose from to is holds names.
      subst (λ (o : Option PoolBlock). Names block (with_above o loose)
      × Steps loose.pools (with_above o loose).pools 0 x y) (sym (none loose from to is holds names))
      (names, steps_same loose.pools x y holds same);
}

pub joins_at_end : (block : Block) (x y : List ℕ) → y ≡ x → block.addr + 8 * block.words + 16 ≡ length x →
    JoinsAbove block block x y
joins_at_end block x y same at = none_joined_above block x y same (λ loose from to is holds names.
    none_at_end loose from to x is holds
    (omega (arith, at, holds.size, names.addr, names.words, is.at, is.ends)))

pub joins_used_above : (block : Block) (x a y : List ℕ) (words : ℕ) (used : Bool) → a ≡ x →
    words ≡ leader_words (block.addr + 8 * block.words + 16) x →
    used ≡ nat_le (2 ^ 56) (number_at (block.addr + 8 * block.words + 16 + 8 * words + 24) a) → used ≡ true → y ≡ x →
    JoinsAbove block block x y
joins_used_above block x a y words used same words_is read is_used same' =
    none_joined_above block x y same' (λ loose from to is holds names.
    none_above loose from to x is holds
    (ap (λ (n : ℕ). nat_le (2 ^ 56) (number_at n x)) (place loose from to is names)
    ∙ ap (λ (l : List ℕ). nat_le (2 ^ 56) (number_at (block.addr + 8 * block.words + 16 + 8 * words + 24) l)) (sym same)
    ∙ sym read ∙ is_used))
  where
    place : (loose : Loose) (from to : ℕ) → IsLoose loose from to → Names block loose →
        to + 8 * leader_words to x + 24 ≡ block.addr + 8 * block.words + 16 + 8 * words + 24
    place loose from to is names =
        let end : to ≡ block.addr + 8 * block.words + 16 = omega (arith, names.addr, names.words, is.at, is.ends) in
        ap (λ (n : ℕ). n + 8 * leader_words n x + 24) end
        ∙ ap (λ (w : ℕ). block.addr + 8 * block.words + 16 + 8 * w + 24) (sym words_is)

-- the block above that is read off its leader and its last word
module _ (block : Block) (x : List ℕ) (words : ℕ)
    (words_is : words ≡ leader_words (block.addr + 8 * block.words + 16) x)
    (loose : Loose) (from to : ℕ) (is : IsLoose loose from to) (holds : HoldsLarge x loose.pools)
    (names : Names block loose) where
  end_is : to ≡ block.addr + 8 * block.words + 16
  end_is = omega (arith, names.addr, names.words, is.at, is.ends)

  module _ (free : nat_le (2 ^ 56) (number_at (block.addr + 8 * block.words + 16 + 8 * words + 24) x) ≡ false)
      (less : block.addr + 8 * block.words + 16 ≢ length x) where
    above_found : IsFound (is_free_at (loose.addr + 8 * (4 + loose.words))) loose.pools.large
    above_found =
        let o = in_order loose.pools from to is.tiles in
        found_above loose from to x is holds (omega (arith, less, end_is, o.second, holds.size))
        (ap (λ (n : ℕ). nat_le (2 ^ 56) (number_at (n + 8 * leader_words n x + 24) x)) end_is
        ∙ ap (λ (w : ℕ). nat_le (2 ^ 56) (number_at (block.addr + 8 * block.words + 16 + 8 * w + 24) x)) (sym words_is)
        ∙ free)

    above_has : words ≡ above_found.block.words
    above_has = words_is ∙ ap (λ (n : ℕ). leader_words n x) (sym end_is)
        ∙ above_leader loose from to x is holds above_found.block above_found.is

    above_at : block.addr + 8 * block.words + 16 + 16 ≡ above_found.block.addr
    above_at = omega (arith, end_is, above_begins loose from to is above_found.block above_found.is)

    above_free : IsFree loose.pools words (block.addr + 8 * block.words + 16 + 16)
    above_free = subst (λ (w : ℕ). IsFree loose.pools w (block.addr + 8 * block.words + 16 + 16)) (sym above_has)
        (subst (λ (a : ℕ). IsFree loose.pools above_found.block.words a) (sym above_at)
        (above_there loose from to is above_found.block above_found.is).free)

    pub above_holds : HoldsFree words (block.addr + 8 * block.words + 16 + 16) x
    above_holds = record {
      pools = loose.pools;
      from = from;
      to = to;
      tiles = is.tiles;
      holds = holds;
      free = above_free;
    }

    pub above_joined : (y : List ℕ) → Unlinks words (block.addr + 8 * block.words + 16 + 16) x y →
        Names (record { addr = block.addr; words = block.words + 4 + words }) (joined_above loose)
        × Steps loose.pools (joined_above loose).pools 0 x y
    above_joined y unlinks =
        subst (λ (o : Option PoolBlock). Names
        (record { addr = block.addr; words = block.words + 4 + words }) (with_above o loose)
        × Steps loose.pools (with_above o loose).pools 0 x y) (sym above_found.is) (
          record { addr = names.addr; words = omega (arith, above_has, names.words) },
          subst (λ (w : ℕ). Steps loose.pools (with_unlinked loose.pools above_found.block.addr w) 0 x y) above_has
              (subst (λ (a : ℕ). Steps loose.pools (with_unlinked loose.pools a words) 0 x y) above_at
              (unlinks.rule loose.pools from to is.tiles holds above_free)),
        )

-- `high` was raised over the block
pub puts_high : (block : Block) (x y : List ℕ) (high : ℕ) → high ≡ number_at 24 x → block.addr ≡ high + 16 →
    y ≡ with_number 24 (block.addr + 8 * block.words + 16) x → SetsFree block x y
puts_high block x y high high_is at written = record {
  rule = λ loose from to is holds names.
      let o = in_order loose.pools from to is.tiles in
      let to_is : block.addr + 8 * block.words + 16 ≡ loose.addr - 16 + 8 * (4 + loose.words) =
      omega (arith, names.addr, names.words, is.at) in
      let small : loose.addr - 16 + 8 * (4 + loose.words) < 2 ^ 64 = omega (arith, is.at, is.ends, o.second, o.most) in
      subst (λ (v : Bool). Steps loose.pools
      (cond v (record loose.pools { high = loose.addr - 16 + 8 * (4 + loose.words) })
      (with_free_large loose.pools loose.addr loose.words)) 0 x y)
      (sym (eq-eqb loose.addr (loose.pools.high + 16) (omega (arith, names.addr, at, high_is, holds.high))))
      (subst (λ (l : List ℕ). Steps loose.pools
      (record loose.pools { high = loose.addr - 16 + 8 * (4 + loose.words) }) 0 x l)
      (sym (written ∙ ap (λ (n : ℕ). with_number 24 n x) to_is))
      (record {
        holds = high_holds loose.pools from to (loose.addr - 16 + 8 * (4 + loose.words)) x is.tiles holds small;
        below = high_below loose.pools from to (loose.addr - 16 + 8 * (4 + loose.words)) x is.tiles holds small
            loose.pools.high;
        used = record {
          blocks = λ w b there other i ge lt.
              high_used loose.pools from to (loose.addr - 16 + 8 * (4 + loose.words)) x is.tiles holds small w b there i
              ge;
        };
      }));
}

-- what putting the loose block into the gap needs
pub loose_gap : (block : Block) (x z : List ℕ) → HoldsLoose block x → z ≡ x → HoldsGap block.words block.addr z
loose_gap block x z k same = subst (HoldsGap block.words block.addr) (sym same) (record {
  pools = k.loose.pools;
  from = k.from;
  to = k.to;
  tiles = k.is.tiles;
  holds = k.holds;
  at = k.names.addr ∙ k.is.at;
  fits = omega (arith, k.is.ends, k.names.words);
  some = omega (arith, k.is.some, k.names.words);
})

-- it was put there
pub puts_free_back : (block : Block) (x z y : List ℕ) (high : ℕ) → high ≡ number_at 24 x → z ≡ x →
    block.addr ≢ high + 16 → PutsFree block.words block.addr z y → SetsFree block x y
puts_free_back block x z y high high_is same differ puts = record {
  rule = λ loose from to is holds names.
      subst (λ (v : Bool). Steps loose.pools
      (cond v (record loose.pools { high = loose.addr - 16 + 8 * (4 + loose.words) })
      (with_free_large loose.pools loose.addr loose.words)) 0 x y)
      (sym (ne_eqb loose.addr (loose.pools.high + 16)
      (λ at. differ (omega (arith, at, names.addr, high_is, holds.high)))))
      (subst (λ (a : ℕ). Steps loose.pools (with_free_large loose.pools a loose.words) 0 x y) names.addr
      (subst (λ (w : ℕ). Steps loose.pools (with_free_large loose.pools block.addr w) 0 x y) names.words
      (subst (λ (l : List ℕ). Steps loose.pools (with_free_large loose.pools block.addr block.words) 0 l y) same
      (puts.rule loose.pools from to is.tiles (subst (λ (l : List ℕ). HoldsLarge l loose.pools) (sym same) holds)
      (names.addr ∙ is.at) (omega (arith, is.ends, names.words)) (omega (arith, is.some, names.words))))));
}
