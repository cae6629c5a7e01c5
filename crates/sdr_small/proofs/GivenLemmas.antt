-- A block given back: the blocks tile the heap as before, and it stands in the list of its words.
use Rattle.std.proofs.Common.{◌≡◌, ◌≢◌, ◌≤◌, ◌<◌, ◌⊎◌, inl, inr, ℕ, false, ◌==◌}
use Rattle.std.proofs.Common.{List, ◌∷◌, sym, ap, ◌∙◌, arith, subst}
use Rattle.std.specs.List.{count_by}
use Rattle.std.proofs.lemmas.Bool.{cases_eq, cases_lt}
use Rattle.std.proofs.lemmas.Bool.Decides.{nat_tests}
use Rattle.sdr_base.specs.Pools.{Pools, IsUsed, is_at, is_of, is_free_of, TilesSmall}
use Rattle.sdr_base.specs.SmallPool.{with_used, with_list}
use Rattle.sdr_base.proofs.PoolsLemmas.{count_by-no, of-le-at, free-used-le-at}
use Rattle.sdr_base.proofs.SmallPoolLemmas.{with_list-here, with_list-other, Follows-with_used}
use Rattle.sdr_base.proofs.SmallPoolLemmas.{free-with_used_other, free-with_used_given}
use Rattle.sdr_base.proofs.KeptPoolsLemmas.{front_is}

-- the pools with a block of so many words given back
abbrev pub given : Pools → ℕ → ℕ → Pools
given P words addr = record P {
  small = with_used addr false P.small;
  small_lists = with_list words (addr ∷ P.small_lists words) P.small_lists;
}

-- the block at an address, which is in use and has so many words
module _ (P : Pools) (words addr : ℕ) (tiled : TilesSmall P) (once : count_by (is_at addr) P.small ≡ 1)
    (used : IsUsed P.small addr) (is : 0 < count_by (is_of words addr) P.small)
    (its_words : (other : ℕ) → 0 < count_by (is_of other addr) P.small → other ≡ words) where
  -- the block was not free
  not_free : (other : ℕ) → count_by (is_free_of other addr) P.small ≡ 0
  not_free other = omega (arith, free-used-le-at other addr P.small, once, used.used)

  listed : (other a : ℕ) →
      count_by (λ b. b == a) (with_list words (addr ∷ P.small_lists words) P.small_lists other)
      ≡ count_by (is_free_of other a) (with_used addr false P.small)
  listed other a = elim (cases_eq a addr) [
    | inl here ↦
        subst (λ (n : ℕ). count_by (λ b. b == n) (with_list words (addr ∷ P.small_lists words) P.small_lists other)
        ≡ count_by (is_free_of other n) (with_used addr false P.small)) (sym here)
        (comes (cases_eq other words) ∙ sym (free-with_used_given addr other P.small))
    | inr differ ↦ stays differ (cases_eq other words) ∙ sym (free-with_used_other addr false other a P.small differ)
  ]
    where
      comes : (other ≡ words) ⊎ (other ≢ words) →
          count_by (λ b. b == addr) (with_list words (addr ∷ P.small_lists words) P.small_lists other)
          ≡ count_by (is_of other addr) P.small
      comes (inl same) =
          ap (λ (w : ℕ). count_by (λ b. b == addr) (with_list words (addr ∷ P.small_lists words) P.small_lists w)) same
          ∙ ap (λ (l : List ℕ). count_by (λ b. b == addr) l)
          (with_list-here words (addr ∷ P.small_lists words) P.small_lists)
          ∙ omega (arith, front_is addr (P.small_lists words), tiled.listed words addr, not_free words, of_one)
          ∙ ap (λ (w : ℕ). count_by (is_of w addr) P.small) (sym same)
        where
          of_one : count_by (is_of words addr) P.small ≡ 1
          of_one = omega (arith, is, once, of-le-at words addr P.small)
      comes (inr differ) =
          ap (λ (l : List ℕ). count_by (λ b. b == addr) l)
          (with_list-other words other (addr ∷ P.small_lists words) P.small_lists differ)
          ∙ tiled.listed other addr ∙ not_free other
          ∙ sym (none (cases_lt 0 (count_by (is_of other addr) P.small)))
        where
          none : (0 < count_by (is_of other addr) P.small) ⊎ (count_by (is_of other addr) P.small ≤ 0) →
              count_by (is_of other addr) P.small ≡ 0
          none (inl there) = absurd (differ (its_words other there))
          none (inr le) = omega (arith, le)

      stays : a ≢ addr → (other ≡ words) ⊎ (other ≢ words) →
          count_by (λ b. b == a) (with_list words (addr ∷ P.small_lists words) P.small_lists other)
          ≡ count_by (is_free_of other a) P.small
      stays differ (inl same) =
          ap (λ (w : ℕ). count_by (λ b. b == a) (with_list words (addr ∷ P.small_lists words) P.small_lists w)) same
          ∙ ap (λ (l : List ℕ). count_by (λ b. b == a) l)
          (with_list-here words (addr ∷ P.small_lists words) P.small_lists)
          ∙ count_by-no (λ b. b == a) addr (P.small_lists words) (other_front differ)
          ∙ tiled.listed words a
          ∙ ap (λ (w : ℕ). count_by (is_free_of w a) P.small) (sym same)
        where
          other_front : a ≢ addr → (addr == a) ≡ false
          other_front apart_from = grind (arith, nat_tests)
      stays differ (inr other_list) =
          ap (λ (l : List ℕ). count_by (λ b. b == a) l)
          (with_list-other words other (addr ∷ P.small_lists words) P.small_lists other_list)
          ∙ tiled.listed other a

  pub tiles_given : TilesSmall (given P words addr)
  tiles_given = record {
    bounds = record {
      region = tiled.bounds.region;
      start = tiled.bounds.start;
      order = tiled.bounds.order;
      end = tiled.bounds.end;
    };
    follow = Follows-with_used P.start P.low addr false P.small tiled.follow;
    listed = listed;
  }
