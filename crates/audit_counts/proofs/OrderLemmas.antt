-- The order of tickets in a queue.
use Rattle.std.proofs.Common.{◌≡◌, ◌<◌, ◌+◌, ◌-◌, ◌==◌, ◌||◌, ◌⊎◌, ℕ, Bool, true, false, not, zero, suc, List, get_or, length, arith, ap, ◌∙◌, refl, sym, subst, inl, inr}
use Rattle.std.proofs.lemmas.Bool.{and_from, and_parts, both_ways, eq-eqb, eqb-true, lt-ltb, ltb-true}
use Rattle.audit_counts.specs.Queues.{goes_before}
use Rattle.sdr_model.specs.Valid.{may_precede}
use Rattle.sdr_model.specs.declared.accounts.Ticket.{Ticket}

or_cases : (x y : Bool) → (x || y) ≡ true → (x ≡ true) ⊎ (y ≡ true)
or_cases true y is = inl refl
or_cases false y is = inr is

or_first : (x y : Bool) → x ≡ true → (x || y) ≡ true
or_first x y is = ap (λ (t : Bool). t || y) is

or_second : (x y : Bool) → y ≡ true → (x || y) ≡ true
or_second true y is = refl
or_second false y is = is

not_true : (x : Bool) → not x ≡ true → x ≡ false
not_true true is = let d : false ≡ true = is in cc
not_true false is = refl

-- a waiting ticket is of greater coarse priority than another; or of the same, and of greater fine priority; or of the same, and of
-- a lesser number
data Before (a b : Ticket) : Type 0 where
  coarser : b.coarse < a.coarse → Before a b
  finer : a.coarse ≡ b.coarse → b.fine < a.fine → Before a b
  earlier : a.coarse ≡ b.coarse → a.fine ≡ b.fine → a.number < b.number → Before a b

before : (a b : Ticket) → goes_before a b ≡ true → Before a b
before a b is = elim (or_cases _ _ is) [
  | inl less ↦ coarser (ltb-true b.coarse a.coarse less)
  | inr more ↦
      let p = and_parts (a.coarse == b.coarse) _ more in
      elim (or_cases _ _ p.1) [
        | inl less ↦ finer (eqb-true a.coarse b.coarse p.0) (ltb-true b.fine a.fine less)
        | inr last ↦
            let q = and_parts (a.fine == b.fine) _ last in
            earlier (eqb-true a.coarse b.coarse p.0) (eqb-true a.fine b.fine q.0) (ltb-true a.number b.number q.1)
      ]
]

from_before : (a b : Ticket) → Before a b → goes_before a b ≡ true
from_before a b (coarser less) = or_first _ _ (lt-ltb b.coarse a.coarse less)
from_before a b (finer same less) =
    or_second _ _ (and_from _ _ (eq-eqb a.coarse b.coarse same) (or_first _ _ (lt-ltb b.fine a.fine less)))
from_before a b (earlier same same' less) =
    or_second _ _ (and_from _ _ (eq-eqb a.coarse b.coarse same)
    (or_second _ _ (and_from _ _ (eq-eqb a.fine b.fine same') (lt-ltb a.number b.number less))))

before_all : (a b c : Ticket) → Before a b → Before b c → Before a c
before_all a b c (coarser l) (coarser m) = coarser (omega (arith, l, m))
before_all a b c (coarser l) (finer e m) = coarser (omega (arith, l, e))
before_all a b c (coarser l) (earlier e f m) = coarser (omega (arith, l, e))
before_all a b c (finer e l) (coarser m) = coarser (omega (arith, e, m))
before_all a b c (finer e l) (finer f m) = finer (e ∙ f) (omega (arith, l, m))
before_all a b c (finer e l) (earlier f g m) = finer (e ∙ f) (omega (arith, l, g))
before_all a b c (earlier e f l) (coarser m) = coarser (omega (arith, e, m))
before_all a b c (earlier e f l) (finer g m) = finer (e ∙ g) (omega (arith, f, m))
before_all a b c (earlier e f l) (earlier g h m) = earlier (e ∙ g) (f ∙ h) (omega (arith, l, m))

-- what may stand before a ticket may stand before those that may stand behind it
precedes_all : (a b c : Ticket) → may_precede a b ≡ true → may_precede b c ≡ true → may_precede a c ≡ true
precedes_all a b c first then_so = elim (or_cases a.granted _ first) [
  | inl granted ↦ or_first _ _ granted
  | inr waits ↦
      let p = and_parts (not b.granted) (goes_before a b) waits in
      elim (or_cases b.granted _ then_so) [
        | inl granted ↦ absurd (both_ways b.granted (not_true b.granted p.0) granted)
        | inr more ↦
            let q = and_parts (not c.granted) (goes_before b c) more in
            or_second _ _ (and_from _ _ q.0 (from_before a c (before_all a b c (before a b p.1) (before b c q.1))))
      ]
]

module _ (ts : List Ticket) (d : Ticket) where
  -- each ticket up to one may stand before the next
  abbrev pub AreNeighbours : ℕ → Type 0
  AreNeighbours count = (k : ℕ) → k + 1 < count → may_precede (get_or ts k d) (get_or ts (k + 1) d) ≡ true

  later : (count : ℕ) → AreNeighbours count → (i more : ℕ) → i + more + 1 < count → may_precede (get_or ts i d) (get_or ts (i + more + 1) d) ≡ true
  later count holds i zero less =
      let e : i + 0 ≡ i = omega arith in
      subst (λ (n : ℕ). may_precede (get_or ts i d) (get_or ts (n + 1) d) ≡ true) (sym e) (holds i (omega (arith, less)))
  later count holds i (suc more) less =
      let e : i + suc more ≡ i + more + 1 = omega arith in
      let k : ℕ = i + more + 1 in
      subst (λ (n : ℕ). may_precede (get_or ts i d) (get_or ts (n + 1) d) ≡ true) (sym e)
      (precedes_all (get_or ts i d) (get_or ts k d) (get_or ts (k + 1) d) (later count holds i more (omega (arith, less))) (holds k (omega (arith, less))))

  pub apart : AreNeighbours (length ts) → (i j : ℕ) → i < j → j < length ts → may_precede (get_or ts i d) (get_or ts j d) ≡ true
  apart holds i j less inside =
      let e : i + (j - (i + 1)) + 1 ≡ j = omega (arith, less) in
      subst (λ (n : ℕ). may_precede (get_or ts i d) (get_or ts n d) ≡ true) e (later (length ts) holds i (j - (i + 1)) (omega (arith, e, inside)))
