-- The addresses that a list's blocks tell are those that the machine reads off the list.
use Rattle.std.proofs.Common.{◌≡◌, ◌∙◌, ◌≤◌, ◌<◌, ◌+◌, ◌-◌, ◌==◌, ◌&&◌, not, ℕ, zero, suc, List, [], ◌∷◌, Bool, true, false, cond, if◌then◌else◌, map, length, take, drop, find, position, nat_lt, Option, None, Some, refl, sym, ap, arith}
use Rattle.std.proofs.lemmas.Bool.{ltb-false}
use Rattle.std.proofs.lemmas.Bool.Decides.{nat_tests}
use Rattle.std.proofs.lemmas.List.Folds.{find_at}
use Rattle.std.proofs.lemmas.Option.{slice_get_past}
use Rattle.std.specs.List.{position_or_len}
use Rattle.std.specs.Option.{option_map}
use Rattle.std.specs.Prelude.{slice_get}
use Rattle.sdr_stands.specs.Rows.{element_row}
use Rattle.sdr_base.specs.Linked.{first_of, last_of}
use Rattle.sdr_base.specs.Lists.{ListElement, addr_of}
use Rattle.sdr_list.specs.Orders as blocks
use Rattle.sdr_model.specs.ListSteps.{element_addr, found_addr, last_addr, place_behind}
use Rattle.sdr_model.specs.ListSteps as steps
use Rattle.sdr_model.specs.declared.things.Element.{Element}

-- the first element from a place on
pub addr_from_is : (es : List Element) (place : ℕ) → first_of addr_of 0 (drop place (map element_row es)) ≡ element_addr es place
addr_from_is [] zero = refl
addr_from_is [] (suc place) = refl
addr_from_is (e ∷ es) zero = refl
addr_from_is (e ∷ es) (suc place) = addr_from_is es place

-- the address before a place, where this one stands before all
abbrev behind : ℕ → List Element → ℕ → ℕ
behind prev es zero = prev
behind prev es (suc place) = element_addr es place

before_is : (prev : ℕ) (es : List Element) (place : ℕ) → place ≤ length es
    → last_of addr_of prev (take place (map element_row es)) ≡ behind prev es place
before_is prev es zero le = refl
before_is prev [] (suc place) le = absurd (omega (arith, le))
before_is prev (e ∷ es) (suc zero) le = refl
before_is prev (e ∷ es) (suc (suc place)) le = before_is e.block es (suc place) (omega (arith, le))

behind_is : (es : List Element) (place : ℕ) → behind 0 es place ≡ (if place == 0 then 0 else element_addr es (place - 1))
behind_is es zero = refl
behind_is es (suc place) =
    let test : (suc place == 0) ≡ false = grind (arith, nat_tests) in
    let less : place ≡ suc place - 1 = omega arith in
    ap (element_addr es) less ∙ sym (ap (λ (b : Bool). if b then 0 else element_addr es (suc place - 1)) test)

pub addr_before_is : (es : List Element) (place : ℕ) → place < length es
    → last_of addr_of 0 (take place (map element_row es)) ≡ (if place == 0 then 0 else element_addr es (place - 1))
addr_before_is es place within = before_is 0 es place (omega (arith, within)) ∙ behind_is es place

-- the last one
last_is : (prev : ℕ) (e : Element) (es : List Element)
    → last_of addr_of prev (map element_row (e ∷ es)) ≡ element_addr (e ∷ es) (length es)
last_is prev e [] = refl
last_is prev e (f ∷ es) = last_is e.block f es

pub last_addr_is : (es : List Element) → last_of addr_of 0 (map element_row es) ≡ last_addr es
last_addr_is [] = refl
last_addr_is (e ∷ es) =
    let n : length es ≡ length (e ∷ es) - 1 = omega arith in
    last_is 0 e es ∙ ap (element_addr (e ∷ es)) n

-- the place behind the last datum that passes
pub place_behind_is : (test : ℕ → Bool) (es : List Element) → blocks.place_behind test (map element_row es) ≡ place_behind test es
place_behind_is test [] = refl
place_behind_is test (e ∷ es) =
    ap (λ (place : ℕ). if place == 0 && not (test e.datum) then 0 else place + 1) (place_behind_is test es)

-- the first element whose datum passes
find_is : (test : ℕ → Bool) (es : List Element)
    → find (λ (x : ListElement). test x.datum) (map element_row es)
    ≡ option_map element_row (find (λ (e : Element). test e.datum) es)
find_is test [] = refl
find_is test (e ∷ es) = step (test e.datum) (find_is test es)
  where
    step : (b : Bool)
        → find (λ (x : ListElement). test x.datum) (map element_row es)
        ≡ option_map element_row (find (λ (e : Element). test e.datum) es)
        → cond b (Some (element_row e)) (find (λ (x : ListElement). test x.datum) (map element_row es))
        ≡ option_map element_row (cond b (Some e) (find (λ (e : Element). test e.datum) es))
    step true rest = refl
    step false rest = rest

same_addr : (o : Option Element) → blocks.found_addr (option_map element_row o) ≡ steps.element_addr_or_zero o
same_addr None = refl
same_addr (Some e) = refl

at_first : (es : List Element) (n : ℕ) (b : Bool) → nat_lt n (length es) ≡ b
    → steps.element_addr_or_zero (slice_get es n) ≡ found_addr es (cond b (Some n) None)
at_first es n true within = refl
at_first es n false past = ap steps.element_addr_or_zero (slice_get_past es n (ltb-false _ _ past))

pub found_addr_is : (test : ℕ → Bool) (es : List Element)
    → blocks.found_addr (find (λ (x : ListElement). test x.datum) (map element_row es)) ≡ found_addr es
    (position (λ (e : Element). test e.datum) es)
found_addr_is test es =
    let p = λ (e : Element). test e.datum in
    ap blocks.found_addr (find_is test es) ∙ same_addr (find p es) ∙ ap steps.element_addr_or_zero (find_at p es)
    ∙ at_first es (position_or_len p es) (nat_lt (position_or_len p es) (length es)) refl
