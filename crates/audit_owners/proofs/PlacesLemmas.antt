-- The first place at which a test fails.
use Rattle.std.proofs.Common.{◌≡◌, ◌≤◌, ◌<◌, ◌+◌, ◌*◌, ◌/◌, ◌&&◌, ℕ, Bool, true, false, not, cond, List, [], ◌∷◌, ◌++◌, drop, take, length, sum_by, arith, ap, ◌∙◌, refl, sym, subst, inl, inr}
use Rattle.std.specs.Prelude.{find, Option, None, Some}
use Rattle.std.specs.List.{list_all, range_with_len}
use Rattle.std.specs.Option.{option_or}
use Rattle.std.proofs.lemmas.Bool.{cases_Bool, cases_eq, cases_lt}
use Rattle.std.proofs.lemmas.List.{map-id, take-append-drop}
use Rattle.std.proofs.lemmas.List.Folds.{find-append, list_all-append}
use Rattle.std.proofs.lemmas.List.FromFn.{map-range_with_len_more, sum_by-map-range_with_len_more, take-map-range_with_len}
use Rattle.std.proofs.lemmas.List.Sums.{sum_by-append}
use Rattle.audit_owners.specs.Places.{first_failing, places}
use Rattle.audit_owners.proofs.RegionLemmas.{none_between, none_past}
use Rattle.audit_owners.proofs.ScanLemmas.{passed_over}
use Rattle.audit_owners.specs.Scan.{HasNoneOf, HaveNoneOf}
use Rattle.audit_owners.specs.View.{is_one_of}
use Rattle.sdr_base.specs.KeptHeap.{block_in}
use Rattle.sdr_base.specs.declared.kind.Kind.{Kind}

-- one more place
pub places_more : (number : ℕ) → places (number + 1) ≡ places number ++ (8 * number ∷ [])
places_more number = map-range_with_len_more (λ word. 8 * word) 0 number number (omega arith)

-- the places up to one, and the others
pub places_cut : (number words : ℕ) → number < words → places words ≡ places (number + 1) ++ drop (number + 1) (places words)
places_cut number words less =
    sym (take-append-drop (number + 1) (places words))
    ∙ ap (λ (l : List ℕ). l ++ drop (number + 1) (places words))
    (take-map-range_with_len (λ word. 8 * word) 0 words (number + 1) (omega (arith, less)))

-- the first place that fails a test is found behind others that don't
pub found_more : (test : ℕ → Bool) (number : ℕ) → first_failing test number ≡ None → test (8 * number) ≡ true → first_failing test (number + 1) ≡ None
found_more test number before here =
    ap (find (λ addr. not (test addr))) (places_more number)
    ∙ find-append (λ addr. not (test addr)) (places number) (8 * number ∷ [])
    ∙ ap (λ o. option_or o (find (λ addr. not (test addr)) (8 * number ∷ []))) before
    ∙ ap (λ (t : Bool). cond (not t) (Some (8 * number)) None) here

pub found_first : (test : ℕ → Bool) (number words : ℕ) → number < words → first_failing test number ≡ None → test (8 * number) ≡ false →
    first_failing test words ≡ Some (8 * number)
found_first test number words less before wrong =
    let p : ℕ → Bool = λ addr. not (test addr) in
    ap (find p) (places_cut number words less)
    ∙ find-append p (places (number + 1)) (drop (number + 1) (places words))
    ∙ ap (λ o. option_or o (find p (drop (number + 1) (places words))))
    (ap (find p) (places_more number) ∙ find-append p (places number) (8 * number ∷ []) ∙ ap (λ o. option_or o (find p (8 * number ∷ []))) before
    ∙ ap (λ (t : Bool). cond (not t) (Some (8 * number)) None) wrong)

-- where no block of some kinds is, a test that passes there finds nothing
pub found_over : (kinds : List Kind) (bytes : List ℕ) (test : ℕ → Bool) (from to : ℕ) →
    ((addr : ℕ) → is_one_of kinds (block_in bytes addr) ≡ false → test addr ≡ true) → from ≤ to → HaveNoneOf kinds bytes from to →
    first_failing test from ≡ None → first_failing test to ≡ None
found_over kinds bytes test from to others onward =
    passed_over (HasNoneOf kinds bytes) (λ n. first_failing test n ≡ None) from to (λ n none before. found_more test n before (others (8 * n) none))
    onward

-- and a number that is 0 there adds nothing
pub sum_over : (kinds : List Kind) (bytes : List ℕ) (f : ℕ → ℕ) (from to : ℕ) →
    ((addr : ℕ) → is_one_of kinds (block_in bytes addr) ≡ false → f addr ≡ 0) → from ≤ to → HaveNoneOf kinds bytes from to →
    sum_by f (places to) ≡ sum_by f (places from)
sum_over kinds bytes f from to others onward none =
    passed_over (HasNoneOf kinds bytes) (λ n. sum_by f (places n) ≡ sum_by f (places from)) from to (λ n here before.
    let more = sum_by-map-range_with_len_more f (λ word. 8 * word) 0 n n (omega arith) in
    let nothing = others (8 * n) here in
    omega (arith, more, nothing, before)) onward none refl

-- where the first of two places is none, both are
pub either_none : {X : Type 0} (a b : Option X) → option_or a b ≡ None → (a ≡ None) × (b ≡ None)
either_none None b is = (refl, is)
either_none (Some x) b is = let d : Some x ≡ None = is in cc

pub both_none : {X : Type 0} (a b : Option X) → a ≡ None → b ≡ None → option_or a b ≡ None
both_none a b first then_so = ap (λ o. option_or o b) first ∙ then_so

-- where no place of these fails a test, the one at a place passes it
passed : (test : ℕ → Bool) (number words : ℕ) → number < words → first_failing test words ≡ None → test (8 * number) ≡ true
passed test number words less none = elim (cases_Bool (test (8 * number))) [
  | inl right ↦ right
  | inr off ↦
      let p : ℕ → Bool = λ addr. not (test addr) in
      let cut = either_none (find p (places (number + 1))) _ (sym (find-append p (places (number + 1)) (drop (number + 1) (places words))) ∙ sym (ap (find p) (places_cut number words less)) ∙ none) in
      let last = either_none (find p (places number)) _ (sym (find-append p (places number) (8 * number ∷ [])) ∙ sym (ap (find p) (places_more number)) ∙ cut.0) in
      let d : Some (8 * number) ≡ None = sym (ap (λ (t : Bool). cond (not t) (Some (8 * number)) None) off) ∙ last.1 in
      cc
]

-- a test that passes where no block is, and of which no place in a region is found that fails it, passes everywhere
pub all_pass : (bytes : List ℕ) (words : ℕ) (test : ℕ → Bool) → length bytes ≤ 8 * words →
    ((addr : ℕ) → block_in bytes addr ≡ None → test addr ≡ true) → first_failing test words ≡ None → (addr : ℕ) → test addr ≡ true
all_pass bytes words test long unused none addr = elim (cases_lt addr (8 * words)) [
  | inr past ↦ unused addr (none_past bytes addr (omega (arith, past, long)))
  | inl inside ↦ elim (cases_eq (8 * (addr / 8)) addr) [
    | inl whole ↦ subst (λ (n : ℕ). test n ≡ true) whole (passed test (addr / 8) words (omega (arith, inside, whole)) none)
    | inr off ↦ unused addr (none_between bytes addr (λ whole. off (omega (arith, whole))))
  ]
]

-- none is found where none fails a test
pub found_none : {X : Type 0} (test : X → Bool) → ((x : X) → test x ≡ true) → (xs : List X) → find (λ x. not (test x)) xs ≡ None
found_none test passes [] = refl
found_none test passes (x ∷ xs) =
    ap (λ (t : Bool). cond (not t) (Some x) (find (λ y. not (test y)) xs)) (passes x) ∙ found_none test passes xs

-- one more number
pub range_more : (n : ℕ) → range_with_len 0 (n + 1) ≡ range_with_len 0 n ++ (n ∷ [])
range_more n =
    let id : ℕ → ℕ = λ (k : ℕ). k in
    sym (map-id (range_with_len 0 (n + 1)))
    ∙ map-range_with_len_more id 0 n n (omega arith)
    ∙ ap (λ (l : List ℕ). l ++ (n ∷ [])) (map-id (range_with_len 0 n))

range_cut : (number count : ℕ) → number < count → range_with_len 0 count ≡ range_with_len 0 (number + 1) ++ drop (number + 1) (range_with_len 0 count)
range_cut number count less =
    let id : ℕ → ℕ = λ (k : ℕ). k in
    sym (take-append-drop (number + 1) (range_with_len 0 count))
    ∙ ap (λ (l : List ℕ). l ++ drop (number + 1) (range_with_len 0 count))
    (ap (take (number + 1)) (sym (map-id (range_with_len 0 count))) ∙ take-map-range_with_len id 0 count (number + 1) (omega (arith, less)) ∙ map-id (range_with_len 0 (number + 1)))

-- what holds of some numbers and of the next
pub all_more : (p : ℕ → Bool) (number : ℕ) → list_all p (range_with_len 0 number) ≡ true → p number ≡ true → list_all p (range_with_len 0 (number + 1)) ≡ true
all_more p number before here =
    ap (list_all p) (range_more number)
    ∙ list_all-append p (range_with_len 0 number) (number ∷ [])
    ∙ ap (λ (t : Bool). t && list_all p (number ∷ [])) before
    ∙ ap (λ (t : Bool). t && true) here

-- what doesn't hold of one
pub all_fail : (p : ℕ → Bool) (number count : ℕ) → number < count → p number ≡ false → list_all p (range_with_len 0 count) ≡ false
all_fail p number count less wrong =
    ap (list_all p) (range_cut number count less)
    ∙ list_all-append p (range_with_len 0 (number + 1)) (drop (number + 1) (range_with_len 0 count))
    ∙ ap (λ (t : Bool). t && list_all p (drop (number + 1) (range_with_len 0 count)))
    (ap (list_all p) (range_more number) ∙ list_all-append p (range_with_len 0 number) (number ∷ [])
    ∙ ap (λ (t : Bool). list_all p (range_with_len 0 number) && (t && true)) wrong ∙ never (list_all p (range_with_len 0 number)))
  where
    never : (t : Bool) → (t && false) ≡ false
    never true = refl
    never false = refl

pub sum_more : (f : ℕ → ℕ) (number : ℕ) → sum_by f (range_with_len 0 (number + 1)) ≡ sum_by f (range_with_len 0 number) + f number
sum_more f number =
    let more = ap (sum_by f) (range_more number) ∙ sum_by-append f (range_with_len 0 number) (number ∷ []) in
    let one : sum_by f (number ∷ []) ≡ f number = omega arith in
    more ∙ ap (λ (n : ℕ). sum_by f (range_with_len 0 number) + n) one
