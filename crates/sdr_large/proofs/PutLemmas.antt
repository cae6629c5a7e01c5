-- What putting a block into a gap needs of the bytes, and what it does to them.
use Rattle.std.proofs.Common.{◌≡◌, ◌≢◌, ◌≤◌, ◌<◌, inl, inr, ℕ, ◌+◌, ◌-◌, ◌*◌, ◌/◌, ◌%◌, ◌^◌, true, false}
use Rattle.std.proofs.Common.{List, length, refl, sym, ap, ◌∙◌, arith, subst}
use Rattle.std.proofs.lemmas.Bool.{cases_eq}
use Rattle.sdr_base.specs.Stored.{number_at, with_number, SetsStartBit}
use Rattle.sdr_base.specs.LargePool.{order_of}
use Rattle.sdr_base.specs.KeptLarge.{large_place}
use Rattle.sdr_base.proofs.StoredLemmas.{leader_kind-same, leader_length-same}
use Rattle.sdr_large.specs.Frame.{HasFrame}
use Rattle.sdr_large.specs.Steps.{link_place, with_before, ReachesBack, HoldsGap, PutsUsed, PutsFree}
use Rattle.sdr_large.proofs.PartedLemmas.{IsBeside}
use Rattle.sdr_large.proofs.PlacesLemmas.{InOrder, in_order, at_block, free_of}
use Rattle.sdr_large.proofs.PutUsedLemmas.{own, used_put}
use Rattle.sdr_large.proofs.PutFreeLemmas.{first, first_fits, pushed}
use Rattle.sdr_large.proofs.PutFreedLemmas.{free_put}

-- what putting a block needs
pub record CanPut (x : List ℕ) (words addr : ℕ) : Type 0 where
  pub least : 16 ≤ addr
  pub whole : addr % 8 ≡ 0
  pub few : words < 2 ^ 24
  pub small : addr < 2 ^ 32
  pub inside : addr + 8 * words + 16 ≤ length x
  pub bit : 1024 + (addr - 16) / 8 / 8 < length x
  pub some : 1 ≤ words
  pub control : 1024 ≤ length x

pub can_put : (x z : List ℕ) (words addr : ℕ) → HoldsGap words addr x → length z ≡ length x → CanPut z words addr
can_put x z words addr k size =
    let order = in_order k.pools k.from k.to k.tiles in
    record {
      least = omega (arith, k.at);
      whole = omega (arith, k.at, order.from_whole);
      few = omega (arith, k.fits, order.second, order.most);
      small = omega (arith, k.at, k.fits, order.second, order.most);
      inside = omega (arith, k.at, k.fits, order.second, k.holds.size, size);
      bit = omega (
        arith,
        order.bits (addr - 16) (omega (arith, k.at, k.fits, order.second)),
        order.small,
        order.order,
        order.first,
        order.gap,
        order.second,
        k.holds.size,
        size,
      );
      some = k.some;
      control = omega (
        arith,
        order.control,
        order.small,
        order.order,
        order.first,
        order.gap,
        order.second,
        k.holds.size,
        size,
      );
    }

-- what linking the front of a list back to a new one needs
pub record CanLinkBack (x : List ℕ) (front : ℕ) : Type 0 where
  pub fits : front ≢ 0 → ReachesBack front x
  pub whole : front % 8 ≡ 0
  pub small : front < 2 ^ 32

pub can_link_back : (x z : List ℕ) (words addr order front : ℕ) → HoldsGap words addr x → order ≡ order_of words →
    front ≡ number_at (large_place order) x → z ≡ x → CanLinkBack z front
can_link_back x z words addr order front k order_is front_is same =
    let at : front ≡ number_at (large_place (order_of words)) x =
    front_is ∙ ap (λ (o : ℕ). number_at (large_place o) x) order_is in
    subst (λ (l : List ℕ). CanLinkBack l front) (sym same)
    (subst (λ (n : ℕ). CanLinkBack x n) (sym at) (record {
      fits = first_fits k.pools k.from k.to x k.tiles k.holds words addr k.at k.fits k.some;
      whole = elim (cases_eq (number_at (large_place (order_of words)) x) 0) [
        | inl none ↦ omega (arith, none)
        | inr some ↦ (beside some).whole places.whole places.end
      ];
      small = elim (cases_eq (number_at (large_place (order_of words)) x) 0) [
        | inl none ↦ omega (arith, none)
        | inr some ↦ omega (arith, (beside some).last, places.most)
      ];
    }))
  where
    places : InOrder k.pools k.from k.to
    places = in_order k.pools k.from k.to k.tiles

    beside : (some : number_at (large_place (order_of words)) x ≢ 0) →
        IsBeside k.pools.high k.pools.end k.from k.to
        (first k.pools k.from k.to x k.tiles k.holds words addr k.at k.fits k.some some).words
        (number_at (large_place (order_of words)) x) k.pools.large
    beside some =
        let f = first k.pools k.from k.to x k.tiles k.holds words addr k.at k.fits k.some some in
        at_block k.pools k.from k.to k.tiles f.words (number_at (large_place (order_of words)) x)
        (free_of k.pools k.from k.to k.tiles f.words (number_at (large_place (order_of words)) x) f.free)

-- the frame was written, and the start bit set
pub puts_used : (x z y : List ℕ) (words addr : ℕ) → HoldsGap words addr x → HasFrame true words addr 0 x z →
    SetsStartBit ((addr - 16) / 8) 1 z y → PutsUsed words addr x y
puts_used x z y words addr k frame sets =
    let least : 16 ≤ addr = (can_put x x words addr k refl).least in
    record {
      kind = leader_kind-same (addr - 16) z y (λ i ge lt.
          own x z y words addr least frame sets k.pools k.from k.to k.tiles k.holds k.at k.fits k.some i ge) ∙ frame.kind;
      length = leader_length-same (addr - 16) z y (λ i ge lt.
          own x z y words addr least frame sets k.pools k.from k.to k.tiles k.holds k.at k.fits k.some i ge)
          ∙ frame.bare;
      rule = λ P from to tiles holds at fits some.
          used_put x z y words addr least frame sets P from to tiles holds at fits some;
    }

-- the links and the frame were written
pub puts_free : (x z v w y : List ℕ) (words addr order front : ℕ) → order ≡ order_of words →
    front ≡ number_at (large_place order) x → z ≡ x → v ≡ with_before front addr z →
    w ≡ with_number (link_place order 0) addr v → HasFrame false words addr front w y → PutsFree words addr x y
puts_free x z v w y words addr order front order_is front_is same v_is w_is frame = record {
  rule = λ P from to tiles holds at fits some.
      let f = subst (λ (n : ℕ). HasFrame false words addr n
      (with_number (large_place (order_of words)) addr (with_before n addr x)) y)
      (front_is ∙ ap (λ (o : ℕ). number_at (large_place o) x) order_is)
      (subst (λ (l : List ℕ). HasFrame false words addr front l y) written frame) in
      free_put P from to x y
      (with_number (large_place (order_of words)) addr
      (with_before (number_at (large_place (order_of words)) x) addr x))
      tiles holds words addr at fits some f (pushed P from to x tiles holds words addr at fits some y f);
}
  where
    written : w ≡ with_number (large_place (order_of words)) addr (with_before front addr x)
    written = w_is ∙ ap (λ (o : ℕ). with_number (large_place o) addr v) order_is
        ∙ ap (λ (l : List ℕ). with_number (large_place (order_of words)) addr l)
        (v_is ∙ ap (λ (l : List ℕ). with_before front addr l) same)
