-- What a step needs of the bytes, from the pool that they hold.
use Rattle.std.proofs.Common.{◌≡◌, ◌≢◌, ◌≤◌, ◌<◌, inl, inr, ℕ, ◌+◌, ◌-◌, ◌*◌, ◌%◌, ◌^◌}
use Rattle.std.proofs.Common.{List, length, sym, ap, ◌∙◌, arith, subst}
use Rattle.std.proofs.lemmas.Bool.{cases_eq}
use Rattle.sdr_base.specs.Stored.{number_at, with_number}
use Rattle.sdr_base.specs.LargePool.{order_of}
use Rattle.sdr_large.specs.Gap.{IsFree}
use Rattle.sdr_large.specs.Steps.{link_place, with_before, ReachesBack, HoldsFree, Unlinks}
use Rattle.sdr_large.proofs.PartedLemmas.{IsBeside}
use Rattle.sdr_large.proofs.PlacesLemmas.{in_order, at_block, free_of}
use Rattle.sdr_large.proofs.UnlinkLemmas.{links, next_fits, relinked}
use Rattle.sdr_large.proofs.UnlinkedLemmas.{unlinked}

-- what unlinking a block needs
pub record CanUnlink (x : List ℕ) (words addr : ℕ) : Type 0 where
  pub control : 1024 ≤ length x
  pub short : length x < 2 ^ 32
  pub least : 16 ≤ addr
  pub inside : addr + 8 * words + 16 ≤ length x
  pub some : 1 ≤ words
  pub next_fits : number_at (addr - 8) x ≢ 0 → ReachesBack (number_at (addr - 8) x) x
  pub next_whole : number_at (addr - 8) x % 8 ≡ 0
  pub next_small : number_at (addr - 8) x < 2 ^ 32
  pub before_whole : number_at (addr + 8 * words) x % 8 ≡ 0
  pub before_least : number_at (addr + 8 * words) x ≢ 0 → 8 ≤ number_at (addr + 8 * words) x
  pub before_in : number_at (addr + 8 * words) x ≤ length x

pub can_unlink : (x : List ℕ) (words addr : ℕ) → HoldsFree words addr x → CanUnlink x words addr
can_unlink x words addr k =
    let order = in_order k.pools k.from k.to k.tiles in
    let b = at_block k.pools k.from k.to k.tiles words addr (free_of k.pools k.from k.to k.tiles words addr k.free) in
    let l = links k.pools k.from k.to x k.tiles k.holds words addr k.free in
    record {
      control = omega (arith, order.control, order.small, order.order, order.first, order.gap, order.second, k.holds.size);
      short = omega (arith, order.most, k.holds.size);
      least = omega (arith, b.first, order.control, order.small, order.order);
      inside = omega (arith, b.last, k.holds.size);
      some = b.some;
      next_fits = next_fits k.pools k.from k.to x k.tiles k.holds words addr k.free;
      next_whole = elim (cases_eq (number_at (addr - 8) x) 0) [
        | inl none ↦ omega (arith, none)
        | inr some ↦ (at (l.next some).words (number_at (addr - 8) x) (l.next some).free).whole order.whole order.end
      ];
      next_small = elim (cases_eq (number_at (addr - 8) x) 0) [
        | inl none ↦ omega (arith, none)
        | inr some ↦ omega (
          arith,
          (at (l.next some).words (number_at (addr - 8) x) (l.next some).free).last,
          order.most,
        )
      ];
      before_whole = elim (cases_eq (number_at (addr + 8 * words) x) 0) [
        | inl none ↦ omega (arith, none)
        | inr some ↦ (at (l.before some).words (number_at (addr + 8 * words) x) (l.before some).free).whole order.whole
            order.end
      ];
      before_least = λ some. omega (
        arith,
        (at (l.before some).words (number_at (addr + 8 * words) x) (l.before some).free).first,
        order.control,
        order.small,
        order.order,
      );
      before_in = elim (cases_eq (number_at (addr + 8 * words) x) 0) [
        | inl none ↦ omega (arith, none)
        | inr some ↦ omega (
          arith,
          (at (l.before some).words (number_at (addr + 8 * words) x) (l.before some).free).last,
          k.holds.size,
        )
      ];
    }
  where
    at : (w b : ℕ) → IsFree k.pools w b → IsBeside k.pools.high k.pools.end k.from k.to w b k.pools.large
    at w b f = at_block k.pools k.from k.to k.tiles w b (free_of k.pools k.from k.to k.tiles w b f)

-- the links were written
pub unlinks : (x y : List ℕ) (words addr : ℕ) →
    y ≡ with_number (link_place (order_of words) (number_at (addr + 8 * words) x)) (number_at (addr - 8) x)
    (with_before (number_at (addr - 8) x) (number_at (addr + 8 * words) x) x) → Unlinks words addr x y
unlinks x y words addr is = record {
  rule = λ P from to tiles holds free. unlinked P from to x y tiles holds words addr free
      (relinked P from to x tiles holds words addr free y is);
}

-- what writing the links needs, after both were read
pub record CanLink (x : List ℕ) (next before words : ℕ) : Type 0 where
  pub next_fits : next ≢ 0 → ReachesBack next x
  pub next_whole : next % 8 ≡ 0
  pub next_small : next < 2 ^ 32
  pub before_whole : before % 8 ≡ 0
  pub before_least : before ≢ 0 → 8 ≤ before
  pub before_in : before ≤ length x
  pub control : 1024 ≤ length x
  pub some : 1 ≤ words

pub can_link : (x z w : List ℕ) (words addr next before : ℕ) → HoldsFree words addr x → next ≡ number_at (addr - 8) x →
    z ≡ x → before ≡ number_at (addr + 8 * words) z → w ≡ z → CanLink w next before words
can_link x z w words addr next before k next_is same before_is same' =
    let c = can_unlink x words addr k in
    let at : before ≡ number_at (addr + 8 * words) x = before_is ∙ ap (λ (l : List ℕ). number_at (addr + 8 * words) l) same in
    subst (λ (l : List ℕ). CanLink l next before words) (sym (same' ∙ same))
    (subst (λ (n : ℕ). CanLink x n before words) (sym next_is)
    (subst (λ (n : ℕ). CanLink x (number_at (addr - 8) x) n words) (sym at) (record {
      next_fits = c.next_fits;
      next_whole = c.next_whole;
      next_small = c.next_small;
      before_whole = c.before_whole;
      before_least = c.before_least;
      before_in = c.before_in;
      control = c.control;
      some = c.some;
    })))

pub unlinks_read : (x z w v y : List ℕ) (words addr next before order : ℕ) → next ≡ number_at (addr - 8) x → z ≡ x →
    before ≡ number_at (addr + 8 * words) z → w ≡ z → v ≡ with_before next before w → order ≡ order_of words →
    y ≡ with_number (link_place order before) next v → Unlinks words addr x y
unlinks_read x z w v y words addr next before order next_is same before_is same' back_is order_is is =
    let at : before ≡ number_at (addr + 8 * words) x = before_is ∙ ap (λ (l : List ℕ). number_at (addr + 8 * words) l) same in
    unlinks x y words addr
    (is
    ∙ ap (λ (o : ℕ). with_number (link_place o before) next v) order_is
    ∙ ap (λ (l : List ℕ). with_number (link_place (order_of words) before) next l)
    (back_is ∙ ap (λ (l : List ℕ). with_before next before l) (same' ∙ same))
    ∙ ap (λ (n : ℕ). with_number (link_place (order_of words) n) next (with_before next n x)) at
    ∙ ap (λ (n : ℕ). with_number (link_place (order_of words) (number_at (addr + 8 * words) x)) n
    (with_before n (number_at (addr + 8 * words) x) x)) next_is)
