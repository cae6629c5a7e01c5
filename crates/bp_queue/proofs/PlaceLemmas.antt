-- Where one goes in a list that is in order.
use Rattle.std.proofs.Common.{◌≡◌, ℕ, suc, ◌+◌, ◌-◌, ◌<◌, ◌==◌, Bool, true, false, not, cond, List, [], ◌∷◌, refl, sym, ap, ◌∙◌, arith, leb}
use Rattle.std.specs.Prelude.{◌&&◌, insert, map, nat_le}
use Rattle.std.specs.List.{AllByRecursion as Each}
use Rattle.std.specs.Ordering.{is_gt, nat_cmp}
use Rattle.std.specs.Cmp.{ranks}
use Rattle.std.specs.declared.cmp.Ordering.{Ordering}
use Rattle.std.specs.declared.cmp.Ordering.TheVariants.{Equal, Greater, Less}
use Rattle.std.specs.Ordering.{MatchOrdering}
use Rattle.std.proofs.lemmas.Bool.{le-leb, leb-false, leb-true, lt-leb}
use Rattle.sdr_base.specs.Lists.{ListElement}
use Rattle.sdr_list.specs.Orders.{place_behind}
use Rattle.bp_queue.specs.Sorting.{put_in}
use Rattle.bp_queue.proofs.SortingLemmas.{InOrder, IsOrder, precedes_all}

-- the test of an order that numbers give
pub not_gt : (a b : ℕ) → not (is_gt (nat_cmp a b)) ≡ nat_le a b
not_gt a b = by (nat_cmp a b) (ranks a b)
  where
    by : (o : Ordering) → MatchOrdering o (a < b) (a ≡ b) (b < a) → not (is_gt o) ≡ nat_le a b
    by Less r = sym (le-leb a b (omega (arith, r)))
    by Equal r = sym (le-leb a b (omega (arith, r)))
    by Greater r = sym (lt-leb a b r)

-- a byte that is the lower the higher a number is
pub turned_le : (a b : ℕ) → a < 256 → b < 256 → nat_le (255 - a) (255 - b) ≡ nat_le b a
turned_le a b small less =
    elim (leb b a) as (λ v. leb b a ≡ v → nat_le (255 - a) (255 - b) ≡ v) [
      | true ↦ λ e. let h = leb-true b a e in le-leb (255 - a) (255 - b) (omega (arith, h))
      | false ↦ λ e. let h = leb-false b a e in lt-leb (255 - a) (255 - b) (omega (arith, h))
    ] refl

module _ {X : Type 0} (el : X → ListElement) (test : ℕ → Bool) where
  none_behind : (ys : List X) → Each (λ y. test (el y).datum ≡ false) ys → place_behind test (map el ys) ≡ 0
  none_behind [] e = refl
  none_behind (y ∷ ys) e =
      let ih = none_behind ys e.1 in
      ap (λ place. cond (place == 0 && not (test (el y).datum)) 0 (place + 1)) ih
      ∙ ap (λ v. cond (not v) 0 1) e.0

  found_behind : (y : X) (ys : List X) → test (el y).datum ≡ true →
      place_behind test (map el (y ∷ ys)) ≡ suc (place_behind test (map el ys))
  found_behind y ys e =
      let place = place_behind test (map el ys) in
      ap (λ v. cond (place == 0 && not v) 0 (place + 1)) e
      ∙ elim (place == 0) as (λ v. cond (v && false) 0 (place + 1) ≡ suc place) [ true ↦ omega arith | false ↦ omega arith ]

  module _ (may : X → X → Bool) (is : IsOrder may) (x : X) where
    -- behind the last that it needn't precede is before the first that it has to precede
    pub insert_place : (xs : List X) → InOrder may xs → Each (λ y. test (el y).datum ≡ may y x) xs →
        insert (map el xs) (place_behind test (map el xs)) (el x) ≡ map el (put_in may xs x)
    insert_place [] o e = refl
    insert_place (y ∷ ys) o e =
        let ih = insert_place ys o.1 e.1 in
        elim (may y x) as (λ v. may y x ≡ v →
        insert (map el (y ∷ ys)) (place_behind test (map el (y ∷ ys))) (el x) ≡ map el (cond v (y ∷ put_in may ys x) (x ∷ y ∷ ys))) [
          | true ↦ λ m.
              ap (λ place. insert (map el (y ∷ ys)) place (el x)) (found_behind y ys (e.0 ∙ m)) ∙ ap (λ zs. el y ∷ zs) ih
          | false ↦ λ m.
              ap (λ place. insert (map el (y ∷ ys)) place (el x))
              (none_behind (y ∷ ys)
              (fails (y ∷ ys) e (precedes_all may is x y ys o.0 m)))
        ] refl
      where
        fails : (zs : List X) → Each (λ z. test (el z).datum ≡ may z x) zs → Each (λ z. may z x ≡ false) zs →
            Each (λ z. test (el z).datum ≡ false) zs
        fails [] a b = tt
        fails (z ∷ zs) a b = (a.0 ∙ b.0, fails zs a.1 b.1)
