-- Where an element goes in order, found from the front.
use Rattle.std.proofs.Common.{◌≡◌, ◌≢◌, ◌==◌, ◌+◌, ◌<◌, ◌&&◌, ℕ, zero, suc, Bool, true, false, not, List, [], ◌∷◌, cond, take, length, slice_index_or, ap, sym, ◌∙◌, refl, arith, add-one, eqb, ⊎_elim, ap₂}
use Rattle.std.proofs.lemmas.Bool.Decides.{eqb_tells}
use Rattle.sdr_model.specs.ListSteps.{place_behind}
use Rattle.sdr_model.specs.declared.things.Element.{Element}

alone : (b : Bool) (n m : ℕ) → cond (not b) n m ≡ cond b m n
alone true n m = refl
alone false n m = refl

-- what the place is with one more in front, where it was p
abbrev with_first : Bool → ℕ → ℕ
with_first fits p = cond ((p == 0) && not fits) 0 (p + 1)

positive : (p : ℕ) → (suc p == 0) ≡ false
positive p = ⊎_elim (λ (is : (eqb (suc p) 0 ≡ true) × (suc p ≡ 0)). absurd (omega (arith, is.1))) (λ (isn't : (eqb (suc p) 0 ≡ false) × (suc p ≢ 0)). isn't.0) (eqb_tells (suc p) 0)

-- with one more in front, what is behind another is one further behind
with_first-suc : (fits : Bool) (p : ℕ) → with_first fits (suc p) ≡ suc (suc p)
with_first-suc fits p =
    ap (λ b. cond (b && not fits) 0 (suc p + 1)) (positive p) ∙ add-one (suc p)

later : (fits last : Bool) (at q : ℕ) → with_first fits (cond last (suc at) q) ≡ cond last (suc (suc at)) (with_first fits q)
later fits true at q = with_first-suc fits at
later fits false at q = refl

-- the place is behind one more element where that passes the test
pub place_behind-next : (test : ℕ → Bool) (xs : List Element) (at : ℕ) (d : Element) → at < length xs
    → place_behind test (take (suc at) xs) ≡ cond (test (slice_index_or xs at d).datum) (suc at) (place_behind test (take at xs))
place_behind-next test [] at d inside = absurd (omega (arith, inside))
place_behind-next test (x ∷ xs) zero d inside = alone (test x.datum) 0 1
place_behind-next test (x ∷ xs) (suc at) d inside =
    ap (with_first (test x.datum)) (place_behind-next test xs at d (omega (arith, inside)))
    ∙ later (test x.datum) (test (slice_index_or xs at d).datum) at (place_behind test (take at xs))

-- so a search from the front goes on
pub place_behind-step : (test : ℕ → Bool) (xs : List Element) (at : ℕ) (d : Element) (fits : Bool) (place next : ℕ) → at < length xs
    → fits ≡ test (slice_index_or xs at d).datum → place ≡ place_behind test (take at xs) → next ≡ cond fits (at + 1) place
    → next ≡ place_behind test (take (at + 1) xs)
place_behind-step test xs at d fits place next inside tests so_far is =
    is ∙ ap (λ n. cond fits n place) (add-one at)
    ∙ ap₂ (λ b p. cond b (suc at) p) tests so_far
    ∙ sym (place_behind-next test xs at d inside)
    ∙ ap (λ n. place_behind test (take n xs)) (sym (add-one at))
