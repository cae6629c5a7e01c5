-- A block of so many words in the gap of a pool: what it is to the blocks that are there.
use Rattle.std.proofs.Common.{◌≡◌, ◌≢◌, ◌≤◌, ◌<◌, ◌⊎◌, inl, inr, ℕ, ◌+◌, ◌-◌, ◌*◌, Bool, true, false, cond}
use Rattle.std.proofs.Common.{List, [], ◌∷◌, sym, ap, ◌∙◌, arith, subst}
use Rattle.std.specs.List.{count_by}
use Rattle.std.proofs.lemmas.Bool.{cases_Bool}
use Rattle.sdr_base.specs.Pools.{PoolBlock, Pools, is_at, is_used_at}
use Rattle.sdr_base.specs.LargePool.{with_placed, order_of}
use Rattle.sdr_base.specs.KeptPools.{IsOutside}
use Rattle.sdr_base.specs.KeptLarge.{Links, HoldsLarge, is_entry, large_place}
use Rattle.sdr_base.specs.Stored.{number_at}
use Rattle.sdr_base.proofs.PoolsLemmas.{used-le-at}
use Rattle.sdr_large.specs.Gap.{TilesAround, IsFree}
use Rattle.sdr_large.proofs.BlocksLemmas.{count_by-with_placed}
use Rattle.sdr_large.proofs.FollowsLemmas.{at_first, at_last}
use Rattle.sdr_large.proofs.LinksLemmas.{FreeAt, first_entry}
use Rattle.sdr_large.proofs.ListsLemmas.{entry_free}
use Rattle.sdr_large.proofs.PartedLemmas.{both_sides}
use Rattle.sdr_large.proofs.PlacesLemmas.{InOrder, in_order, at_block, free_of, entered_free, unique}

-- what a block that is put among others passes, or they pass before
pub put_or_was : (p : PoolBlock → Bool) (b : PoolBlock) (bs : List PoolBlock) → 0 < count_by p (with_placed b bs) →
    (p b ≡ true) ⊎ (0 < count_by p bs)
put_or_was p b bs some = elim (cases_Bool (p b)) [
  | inl here ↦ inl here
  | inr other ↦ inr (omega (
    arith,
    some,
    count_by-with_placed p b bs,
    ap (λ (v : Bool). cond v 1 0 + count_by p bs) other,
  ))
]

-- a test that the block fails
pub not_put : (p : PoolBlock → Bool) (b : PoolBlock) (bs : List PoolBlock) → p b ≡ false →
    count_by p (with_placed b bs) ≡ count_by p bs
not_put p b bs fails =
    omega (arith, count_by-with_placed p b bs, ap (λ (v : Bool). cond v 1 0 + count_by p bs) fails)

-- an entry at an address
pub record IsEntered (list : List (ℕ × ℕ)) (addr : ℕ) : Type 0 where
  pub words : ℕ
  pub entered : 0 < count_by (is_entry words addr) list

module _ (P : Pools) (from to : ℕ) (x : List ℕ) (tiles : TilesAround P from to) (holds : HoldsLarge x P)
    (words addr : ℕ) (at : addr ≡ from + 16) (fits : from + 8 * (4 + words) ≤ to) where
  order : InOrder P from to
  order = in_order P from to tiles

  pub none_there : count_by (is_at addr) P.large ≡ 0
  none_there =
      omega (
        arith,
        both_sides P.high P.end from to P.large tiles.parted (is_at addr),
        at_last P.high from addr tiles.parted.below tiles.parted.first (omega (arith, at)),
        at_first to P.end addr tiles.parted.above tiles.parted.second (omega (arith, at, fits)),
      )

  pub none_used : count_by (is_used_at addr) P.large ≡ 0
  none_used = omega (arith, none_there, used-le-at addr P.large)

  pub positive : addr ≢ 0
  positive is = omega (arith, is, at)

  pub other_addr : (w b : ℕ) → IsFree P w b → b ≢ addr
  other_addr w b f is =
      elim (at_block P from to tiles w b (free_of P from to tiles w b f)).side [
        | inl below ↦ omega (arith, below, is, at)
        | inr above ↦ omega (arith, above, is, at, fits)
      ]

  -- a byte of a free block's links is outside of the gap and of the start bits
  pub next_out : (w b i : ℕ) → IsFree P w b → b - 8 ≤ i → i < b - 8 + 8 → IsOutside from to i
  next_out w b i f ge lt =
      let k = at_block P from to tiles w b (free_of P from to tiles w b f) in
      elim k.side [
        | inl below ↦ inl (omega (arith, below, lt, k.first, order.control, order.small, order.order))
        | inr above ↦ inr (omega (arith, above, ge))
      ]

  pub back_out : (w b i : ℕ) → IsFree P w b → b + 8 * w ≤ i → i < b + 8 * w + 8 → IsOutside from to i
  back_out w b i f ge lt =
      let k = at_block P from to tiles w b (free_of P from to tiles w b f) in
      elim k.side [
        | inl below ↦ inl (omega (arith, below, lt))
        | inr above ↦ inr (omega (arith, above, ge))
      ]

  -- the front of a list that isn't empty is an entry of it
  pub front_entry : (o : ℕ) → o ≤ 20 → number_at (large_place o) x ≢ 0 →
      IsEntered (P.large_lists o) (number_at (large_place o) x)
  unfolding Links
  front_entry o le some = cases (P.large_lists o) (holds.lists o le)
    where
      cases : (l : List (ℕ × ℕ)) → Links x (large_place o) 0 l → IsEntered l (number_at (large_place o) x)
      cases [] links = absurd (some links)
      cases (e ∷ l) links =
          subst (IsEntered (e ∷ l)) (sym links.0) (record { words = e.1; entered = first_entry e l })

  -- and so a free block of the list's order
  pub front_free : (o : ℕ) → o ≤ 20 → number_at (large_place o) x ≢ 0 → FreeAt P.large (number_at (large_place o) x)
  front_free o le some =
      let e = front_entry o le some in
      record { words = e.words; free = entered_free P from to tiles o e.words (number_at (large_place o) x) e.entered }

  pub front_order : (o w : ℕ) → o ≤ 20 → number_at (large_place o) x ≢ 0 → IsFree P w (number_at (large_place o) x) →
      order_of w ≡ o
  front_order o w le some f =
      let e = front_entry o le some in
      let is = entry_free P tiles.lists o e.words (number_at (large_place o) x) e.entered in
      ap order_of (unique P from to tiles w e.words (number_at (large_place o) x) f is.1) ∙ sym is.0
