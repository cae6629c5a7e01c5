-- A new element at its place leaves a list in order.
use Rattle.std.proofs.Common.{◌≡◌, ℕ, zero, suc, ◌+◌, ◌≢◌, ◌==◌, List, [], ◌∷◌, drop, Option, Some, None}
use Rattle.std.proofs.Common.{refl, sym, ap, ◌∙◌, arith, subst, Bool, true, false, not, length-take}
use Rattle.std.specs.Prelude.{insert, ◌&&◌, if◌then◌else◌, Result, Ok, Err, IfOk}
use Rattle.std.proofs.lemmas.Bool.{ne_eqb}
use Rattle.std.specs.Ordering.{is_gt, ordering_reverse}
use Rattle.std.specs.declared.cmp.Ordering.{Ordering}
use Rattle.std.specs.declared.cmp.Ordering.TheVariants.{Less, Equal, Greater}
use Rattle.sdr_base.specs.Blocks.{Block, Blocks}
use Rattle.sdr_base.specs.Lists.{ListElement}
use Rattle.sdr_base.specs.declared.kind.Kind.{Kind}
use Rattle.sdr_base.specs.declared.kind.Kind.TheVariants as kinds
use Rattle.sdr_list.specs.InOrder.{IsInOrder, StaysInOrder}
use Rattle.sdr_list.specs.Orders.{IsKey, IsPreorder, if_raw, key_in, ordered_place, place_behind, sort_key}

if_raw_key : (kind : Kind) (bytes : List ℕ) → IsKey (if_raw kind bytes)
if_raw_key kinds.Raw bytes = let l = length-take 64 (drop 8 bytes) in omega (arith, l)
if_raw_key kind bytes = omega arith

is_key : (found : Option Block) → IsKey (key_in found)
is_key None = omega arith
is_key (Some block) = if_raw_key block.kind block.bytes

reversed : (r : Ordering) → is_gt r ≡ true → is_gt (ordering_reverse r) ≡ false
reversed Less e = let d : false ≡ true = e in cc
reversed Equal e = let d : false ≡ true = e in cc
reversed Greater e = refl

-- the place behind one more element
abbrev place_by : ℕ → Bool → ℕ
place_by place v = if place == 0 && not v then 0 else place + 1

apart : (place : ℕ) (v : Bool) → place ≢ 0 → place_by place v ≡ place + 1
apart place v nz = ap (λ c. if c && not v then 0 else place + 1) (ne_eqb place 0 nz)

module _ {order : List ℕ → List ℕ → Ordering} (total : IsPreorder order) (blocks : Blocks) (datum addr : ℕ) where
  abbrev new : ListElement
  new = record { addr = addr; datum = datum }

  abbrev test : ℕ → Bool
  test other = not (is_gt (order (sort_key blocks other) (sort_key blocks datum)))

  -- an element that passes is less or equal, and one that doesn't is behind
  passes : (v : Bool) → not v ≡ true → v ≡ false
  passes true e = let d : false ≡ true = e in cc
  passes false e = refl

  fails : (v : Bool) → not v ≡ false → v ≡ true
  fails true e = refl
  fails false e = let d : true ≡ false = e in cc

  behind_new : (x : ListElement) → test x.datum ≡ false → is_gt (order (sort_key blocks datum) (sort_key blocks x.datum)) ≡ false
  behind_new x e =
      ap is_gt (total.turned (sort_key blocks datum) (sort_key blocks x.datum) (is_key (blocks datum)) (is_key (blocks x.datum)))
      ∙ reversed (order (sort_key blocks x.datum) (sort_key blocks datum)) (fails (is_gt (order (sort_key blocks x.datum) (sort_key blocks datum))) e)

  -- where the place is the front, the first one fails
  step_zero : (place : ℕ) (v : Bool) → place_by place v ≡ 0 → v ≡ false
  step_zero zero true e = let d : 1 ≡ 0 = e in cc
  step_zero zero false e = refl
  step_zero (suc place) v e = let z = sym (apart (suc place) v (λ z. omega (arith, z))) ∙ e in absurd (omega (arith, z))

  first_fails : (x : ListElement) (xs : List ListElement) → place_behind test (x ∷ xs) ≡ 0 → test x.datum ≡ false
  first_fails x xs e = step_zero (place_behind test xs) (test x.datum) e

  -- before one that fails, or at the end
  front : (xs : List ListElement) → place_behind test xs ≡ 0 → IsInOrder order blocks xs → IsInOrder order blocks (new ∷ xs)
  front [] e o = tt
  front (x ∷ xs) e o = (behind_new x (first_fails x xs e), o)

  rest_in_order : (x : ListElement) (xs : List ListElement) → IsInOrder order blocks (x ∷ xs) → IsInOrder order blocks xs
  rest_in_order x [] o = tt
  rest_in_order x (y ∷ ys) o = o.1

  inserted_by : (x : ListElement) (xs : List ListElement) (place : ℕ) (v : Bool) → place_behind test xs ≡ place → test x.datum ≡ v →
      IsInOrder order blocks (x ∷ xs) → IsInOrder order blocks (insert xs place new) →
      IsInOrder order blocks (insert (x ∷ xs) (place_by place v) new)
  inserted_by x xs zero true p t o rest =
      (passes (is_gt (order (sort_key blocks x.datum) (sort_key blocks datum))) t, rest)
  inserted_by x xs zero false p t o rest = (behind_new x t, o)
  inserted_by x [] (suc place) v p t o rest = absurd (omega (arith, p))
  inserted_by x (y ∷ ys) (suc place) v p t o rest =
      let two : suc place + 1 ≡ suc (suc place) = omega arith in
      subst (λ n. IsInOrder order blocks (insert (x ∷ y ∷ ys) n new)) (sym (apart (suc place) v (λ z. omega (arith, z)) ∙ two)) (o.0, rest)

  in_order : (xs : List ListElement) → IsInOrder order blocks xs → IsInOrder order blocks (insert xs (place_behind test xs) new)
  in_order [] o = tt
  in_order (x ∷ xs) o =
      inserted_by x xs (place_behind test xs) (test x.datum) refl refl o (in_order xs (rest_in_order x xs o))

-- so a list that was in order is
pub stays_in_order : {order : List ℕ → List ℕ → Ordering} → IsPreorder order → (blocks : Blocks) (list datum addr : ℕ) →
    StaysInOrder order blocks list (ordered_place order blocks datum) datum addr
stays_in_order total blocks list datum addr = record { stays = λ row k o. in_order total blocks datum addr row.elements o }

-- what holds of every value holds of an answer
pub ok_any : {T E : Type 0} (r : Result T E) (P : T → Type 0) → ((v : T) → P v) → IfOk r P
ok_any (Ok v) P f = f v
ok_any (Err e) P f = tt
