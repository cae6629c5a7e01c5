-- Whether the blocks beside a loose one are free, from the words that are read.
use Rattle.std.proofs.Common.{◌≡◌, ◌<◌, inl, inr, ℕ, ◌+◌, ◌-◌, ◌*◌, ◌/◌, ◌%◌, ◌^◌, Bool, true, false}
use Rattle.std.proofs.Common.{List, refl, sym, ap, ◌∙◌, arith, subst}
use Rattle.std.specs.Prelude.{Option, Some, None, nat_le}
use Rattle.std.specs.List.{count_by, find}
use Rattle.std.proofs.lemmas.Bool.{le-leb, lt-leb}
use Rattle.sdr_base.specs.Pools.{PoolBlock, Pools, is_of}
use Rattle.sdr_base.specs.LargeGiving.{Loose, is_free_at, is_free_below}
use Rattle.sdr_base.specs.KeptLarge.{HoldsLarge, last_word}
use Rattle.sdr_base.specs.Stored.{number_at, leader_words}
use Rattle.sdr_large.specs.Gap.{Steps}
use Rattle.sdr_large.specs.Giving.{IsLoose}
use Rattle.sdr_large.proofs.LooseLemmas.{below_there, above_there, below_ends, above_begins, free_of-le-at}
use Rattle.sdr_large.proofs.NeighbourLemmas.{find-none, free_or_used, last_of, first_of, free_of-le-below}
use Rattle.sdr_large.proofs.PartedLemmas.{IsBeside, both_sides}
use Rattle.sdr_large.proofs.PlacesLemmas.{InOrder, in_order, at_block, free_of}

-- nothing changes
pub steps_same : (P : Pools) (x y : List ℕ) → HoldsLarge x P → y ≡ x → Steps P P 0 x y
steps_same P x y holds same = subst (λ (l : List ℕ). Steps P P 0 x l) (sym same) (record {
  holds = holds;
  below = record {
    size = refl;
    front = λ i lt. refl;
    lists = λ i ge lt. refl;
    control = λ i ge lt. refl;
    blocks = λ i ge lt. refl;
    bits = λ word within lt. refl;
  };
  used = record { blocks = λ w b there other i ge lt. refl };
})

-- what the last word says
last_free : (w : ℕ) → w < 2 ^ 24 → nat_le (2 ^ 56) (last_word false w) ≡ false
last_free w few = lt-leb (2 ^ 56) (last_word false w) (omega (arith, few))

last_used : (w : ℕ) → nat_le (2 ^ 56) (last_word true w) ≡ true
last_used w = le-leb (2 ^ 56) (last_word true w) (omega arith)

last_words : (w : ℕ) → w < 2 ^ 24 → last_word false w / 2 ^ 32 % 2 ^ 24 ≡ w
last_words w few = omega (arith, few)

true_or_false : {v : Bool} → v ≡ true → v ≡ false → ⊥
true_or_false is no_it = cc

-- a free block that is found
pub record IsFound (p : PoolBlock → Bool) (bs : List PoolBlock) : Type 0 where
  pub block : PoolBlock
  pub is : find p bs ≡ Some block

module _ (loose : Loose) (from to : ℕ) (x : List ℕ) (is : IsLoose loose from to) (holds : HoldsLarge x loose.pools) where
  abbrev P : Pools
  P = loose.pools

  order : InOrder P from to
  order = in_order P from to is.tiles

  place : (w a : ℕ) → 0 < count_by (is_of w a) P.large → IsBeside P.high P.end from to w a P.large
  place w a some = at_block P from to is.tiles w a some

  few : (w a : ℕ) → 0 < count_by (is_of w a) P.large → w < 2 ^ 24
  few w a some = omega (arith, (place w a some).last, order.most)

  -- the last word of a free block that ends at the gap
  below_last : (d : PoolBlock) → find (is_free_below loose.addr) P.large ≡ Some d →
      number_at (from - 8) x ≡ last_word false d.words
  below_last d found =
      ap (λ (n : ℕ). number_at n x) (omega (arith, below_ends loose from to is d found))
      ∙ (holds.free d.words d.addr (below_there loose from to is d found).free).last

  below_few : (d : PoolBlock) → find (is_free_below loose.addr) P.large ≡ Some d → d.words < 2 ^ 24
  below_few d found =
      few d.words d.addr (free_of P from to is.tiles d.words d.addr (below_there loose from to is d found).free)

  -- no free block is below, where the gap begins at `high`
  pub none_at_high : from ≡ P.high → find (is_free_below loose.addr) P.large ≡ None
  none_at_high at = cases (find (is_free_below loose.addr) P.large) refl
    where
      cases : (o : Option PoolBlock) → find (is_free_below loose.addr) P.large ≡ o → o ≡ None
      cases None found = refl
      cases (Some d) found = absurd (omega (
        arith,
        at,
        below_ends loose from to is d found,
        (place d.words d.addr (free_of P from to is.tiles d.words d.addr
            (below_there loose from to is d found).free)).first,
      ))

  -- nor where the last word there is that of a block in use
  pub none_below : nat_le (2 ^ 56) (number_at (from - 8) x) ≡ true → find (is_free_below loose.addr) P.large ≡ None
  none_below used = cases (find (is_free_below loose.addr) P.large) refl
    where
      cases : (o : Option PoolBlock) → find (is_free_below loose.addr) P.large ≡ o → o ≡ None
      cases None found = refl
      cases (Some d) found = absurd (true_or_false used
          (ap (λ (n : ℕ). nat_le (2 ^ 56) n) (below_last d found) ∙ last_free d.words (below_few d found)))

  -- else one is found
  pub found_below : P.high < from → nat_le (2 ^ 56) (number_at (from - 8) x) ≡ false →
      IsFound (is_free_below loose.addr) P.large
  found_below more free = cases (find (is_free_below loose.addr) P.large) refl
    where
      cases : (o : Option PoolBlock) → find (is_free_below loose.addr) P.large ≡ o →
          IsFound (is_free_below loose.addr) P.large
      cases (Some d) found = record { block = d; is = found }
      cases None found =
          let e = last_of P.high from is.tiles.parted.below is.tiles.parted.first more in
          let there : 0 < count_by (is_of e.words e.addr) P.large = omega (
            arith,
            e.there,
            both_sides P.high P.end from to P.large is.tiles.parted (is_of e.words e.addr),
          ) in
          absurd (elim (free_or_used e.words e.addr P.large there) [
            | inl is_free ↦ omega (
              arith,
              is_free,
              find-none (is_free_below loose.addr) P.large found,
              free_of-le-below e.words e.addr loose.addr P.large (omega (arith, e.at, is.at)),
            )
            | inr is_used ↦ true_or_false
                (ap (λ (n : ℕ). nat_le (2 ^ 56) n)
                (ap (λ (n : ℕ). number_at n x) (omega (arith, e.at)) ∙ (holds.used e.words e.addr is_used).last)
                ∙ last_used e.words) free
          ])

  -- with the words and the address that are read off its last word
  pub below_words : (f : IsFound (is_free_below loose.addr) P.large) →
      number_at (from - 8) x / 2 ^ 32 % 2 ^ 24 ≡ f.block.words
  below_words f =
      ap (λ (n : ℕ). n / 2 ^ 32 % 2 ^ 24) (below_last f.block f.is) ∙ last_words f.block.words (below_few f.block f.is)

  -- where the block above stands
  above_of : (d : PoolBlock) → find (is_free_at (loose.addr + 8 * (4 + loose.words))) P.large ≡ Some d →
      0 < count_by (is_of d.words d.addr) P.large
  above_of d found = free_of P from to is.tiles d.words d.addr (above_there loose from to is d found).free

  pub above_leader : (d : PoolBlock) → find (is_free_at (loose.addr + 8 * (4 + loose.words))) P.large ≡ Some d →
      leader_words to x ≡ d.words
  above_leader d found =
      ap (λ (n : ℕ). leader_words n x) (omega (arith, above_begins loose from to is d found))
      ∙ holds.leaders d.words d.addr (above_of d found)

  -- no free block is above, where the gap ends at the end of the heap
  pub none_at_end : to ≡ P.end → find (is_free_at (loose.addr + 8 * (4 + loose.words))) P.large ≡ None
  none_at_end at = cases (find (is_free_at (loose.addr + 8 * (4 + loose.words))) P.large) refl
    where
      cases : (o : Option PoolBlock) → find (is_free_at (loose.addr + 8 * (4 + loose.words))) P.large ≡ o → o ≡ None
      cases None found = refl
      cases (Some d) found = absurd (omega (
        arith,
        at,
        above_begins loose from to is d found,
        (place d.words d.addr (above_of d found)).last,
      ))

  -- nor where the block there is in use by its last word
  pub none_above : nat_le (2 ^ 56) (number_at (to + 8 * leader_words to x + 24) x) ≡ true →
      find (is_free_at (loose.addr + 8 * (4 + loose.words))) P.large ≡ None
  none_above used = cases (find (is_free_at (loose.addr + 8 * (4 + loose.words))) P.large) refl
    where
      cases : (o : Option PoolBlock) → find (is_free_at (loose.addr + 8 * (4 + loose.words))) P.large ≡ o → o ≡ None
      cases None found = refl
      cases (Some d) found = absurd (true_or_false used
          (ap (λ (n : ℕ). nat_le (2 ^ 56) n)
          (ap (λ (n : ℕ). number_at n x)
          (omega (arith, above_begins loose from to is d found, above_leader d found))
          ∙ (holds.free d.words d.addr (above_there loose from to is d found).free).last)
          ∙ last_free d.words (few d.words d.addr (above_of d found))))

  -- else one is found
  pub found_above : to < P.end → nat_le (2 ^ 56) (number_at (to + 8 * leader_words to x + 24) x) ≡ false →
      IsFound (is_free_at (loose.addr + 8 * (4 + loose.words))) P.large
  found_above less free = cases (find (is_free_at (loose.addr + 8 * (4 + loose.words))) P.large) refl
    where
      cases : (o : Option PoolBlock) → find (is_free_at (loose.addr + 8 * (4 + loose.words))) P.large ≡ o →
          IsFound (is_free_at (loose.addr + 8 * (4 + loose.words))) P.large
      cases (Some d) found = record { block = d; is = found }
      cases None found =
          let e = first_of to P.end is.tiles.parted.above is.tiles.parted.second less in
          let there : 0 < count_by (is_of e.words e.addr) P.large = omega (
            arith,
            e.there,
            both_sides P.high P.end from to P.large is.tiles.parted (is_of e.words e.addr),
          ) in
          let leader : leader_words to x ≡ e.words =
          ap (λ (n : ℕ). leader_words n x) (omega (arith, e.at)) ∙ holds.leaders e.words e.addr there in
          let at : e.addr ≡ loose.addr + 8 * (4 + loose.words) = omega (arith, e.at, is.at, is.ends) in
          absurd (elim (free_or_used e.words e.addr P.large there) [
            | inl is_free ↦ omega (
              arith,
              is_free,
              find-none (is_free_at (loose.addr + 8 * (4 + loose.words))) P.large found,
              free_of-le-at e.words e.addr P.large,
              ap (λ (n : ℕ). count_by (is_free_at n) P.large) at,
            )
            | inr is_used ↦ true_or_false
                (ap (λ (n : ℕ). nat_le (2 ^ 56) n)
                (ap (λ (n : ℕ). number_at n x) (omega (arith, e.at, leader))
                ∙ (holds.used e.words e.addr is_used).last) ∙ last_used e.words) free
          ])
