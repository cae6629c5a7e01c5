-- Which words are marked, and what stands among addresses once.
use Rattle.std.proofs.Common.{◌≡◌, ◌≤◌, ◌<◌, ◌*◌, ◌/◌, ◌%◌, ◌==◌, ◌||◌, ℕ, Bool, List, [], ◌∷◌, ◌++◌, cond, not, true, false, length, get_or, set, arith, ap, ◌∙◌, refl, sym, inl, inr}
use Rattle.std.specs.Prelude.{count_by}
use Rattle.std.proofs.lemmas.Bool.{cases_Bool, cases_eq, eq-eqb, ne_eqb, or_parts, or_right}
use Rattle.std.proofs.lemmas.List.{get_or-set_other, get_or-set_same}
use Rattle.std.proofs.lemmas.List.Folds.{list_any-append}
use Rattle.std.proofs.lemmas.List.Sums.{sum_by-set}
use Rattle.sdr_base.proofs.PoolsLemmas.{count_by-append, count_by-no, count_by-yes}
use Rattle.audit_owners.specs.Chains.{is_among}
use Rattle.sdr_base.specs.Entries.{AreOnce}
use Rattle.audit_owners.specs.Marks.{AreMarked, unmarked}

abbrev pub is_addr : ℕ → ℕ → Bool
is_addr addr other = other == addr

or_none : (t : Bool) → (t || false) ≡ t
or_none true = refl
or_none false = refl

-- among these and one more
among_push : (reached : List ℕ) (addr other : ℕ) → is_among (reached ++ (addr ∷ [])) other ≡ (is_among reached other || addr == other)
among_push reached addr other =
    list_any-append (is_addr other) reached (addr ∷ []) ∙ ap (λ (t : Bool). is_among reached other || t) (or_none (addr == other))

-- one more block is marked
pub marked_push : (reached : List ℕ) (marks : List Bool) (addr : ℕ) → AreMarked reached marks → addr % 8 ≡ 0 → addr / 8 < length marks →
    AreMarked (reached ++ (addr ∷ [])) (set marks (addr / 8) true)
marked_push reached marks addr marked whole inside = record {
  just = λ word. elim (cases_eq word (addr / 8)) [
    | inl same ↦
        let here : addr ≡ 8 * word = omega (arith, same, whole) in
        ap (λ (n : ℕ). get_or (set marks (addr / 8) true) n false) same
        ∙ get_or-set_same marks (addr / 8) true false inside
        ∙ sym (among_push reached addr (8 * word) ∙ or_right (is_among reached (8 * word)) (addr == 8 * word) (eq-eqb addr (8 * word) here))
    | inr off ↦
        get_or-set_other marks (addr / 8) word true false off
        ∙ marked.just word
        ∙ sym (among_push reached addr (8 * word)
        ∙ ap (λ (t : Bool). is_among reached (8 * word) || t) (ne_eqb addr (8 * word) (λ e. off (omega (arith, e))))
        ∙ or_none (is_among reached (8 * word)))
  ];
}

-- the mark of a block tells whether it was reached
pub mark_tells : (reached : List ℕ) (marks : List Bool) (addr : ℕ) → AreMarked reached marks → addr % 8 ≡ 0 →
    get_or marks (addr / 8) false ≡ is_among reached addr
mark_tells reached marks addr marked whole =
    let here : 8 * (addr / 8) ≡ addr = omega (arith, whole) in
    marked.just (addr / 8) ∙ ap (is_among reached) here

-- fewer words aren't marked
pub fewer_unmarked : (marks : List Bool) (word : ℕ) → word < length marks → get_or marks word false ≡ false →
    unmarked (set marks word true) < unmarked marks
fewer_unmarked marks word inside clear =
    let s = sum_by-set (λ (b : Bool). cond (not b) 1 0) marks word true false inside in
    let e : cond {A = ℕ} (not (get_or marks word false)) 1 0 ≡ 1 = ap (λ (b : Bool). cond (not b) 1 0) clear in
    omega (arith, s, e)

-- what isn't among addresses stands there no times
pub uncounted : (addr : ℕ) (xs : List ℕ) → is_among xs addr ≡ false → count_by (is_addr addr) xs ≡ 0
uncounted addr [] none = refl
uncounted addr (x ∷ xs) none =
    let n = or_parts (x == addr) (is_among xs addr) none in
    count_by-no (is_addr addr) x xs n.0 ∙ uncounted addr xs n.1

-- and what is does
pub counted : (addr : ℕ) (xs : List ℕ) → is_among xs addr ≡ true → 1 ≤ count_by (is_addr addr) xs
counted addr [] some = let d : false ≡ true = some in cc
counted addr (x ∷ xs) some = elim (cases_Bool (x == addr)) [
  | inl here ↦ let c = count_by-yes (is_addr addr) x xs here in omega (arith, c)
  | inr off ↦
      let more : is_among xs addr ≡ true = sym (ap (λ (t : Bool). t || is_among xs addr) off) ∙ some in
      let c = count_by-no (is_addr addr) x xs off in
      let m = counted addr xs more in
      omega (arith, c, m)
]

-- a new address beside others, each of which stands there once
pub once_push : (reached : List ℕ) (addr : ℕ) → AreOnce reached → is_among reached addr ≡ false → AreOnce (reached ++ (addr ∷ []))
once_push reached addr once new other = elim (cases_eq addr other) [
  | inl same ↦
      let none : count_by (is_addr other) reached ≡ 0 = uncounted other reached (ap (is_among reached) (sym same) ∙ new) in
      let both = count_by-append (is_addr other) reached (addr ∷ []) in
      let one = count_by-yes (is_addr other) addr [] (eq-eqb addr other same) in
      let nil : count_by (is_addr other) [] ≡ 0 = refl in
      omega (arith, none, both, one, nil)
  | inr off ↦
      let most = once other in
      let both = count_by-append (is_addr other) reached (addr ∷ []) in
      let no_more = count_by-no (is_addr other) addr [] (ne_eqb addr other off) in
      let nil : count_by (is_addr other) [] ≡ 0 = refl in
      omega (arith, most, both, no_more, nil)
]

-- what stands there once stands in a part of it once
pub once_front : (xs ys zs ws : List ℕ) → AreOnce (xs ++ ((ys ++ zs) ++ ws)) → AreOnce ((xs ++ ys) ++ zs)
once_front xs ys zs ws once addr =
    let most = once addr in
    let a = count_by-append (is_addr addr) xs ((ys ++ zs) ++ ws) in
    let b = count_by-append (is_addr addr) (ys ++ zs) ws in
    let c = count_by-append (is_addr addr) ys zs in
    let d = count_by-append (is_addr addr) (xs ++ ys) zs in
    let e = count_by-append (is_addr addr) xs ys in
    omega (arith, most, a, b, c, d, e)

-- what stands before an address that stands there once isn't it
pub once_new : (reached : List ℕ) (addr : ℕ) (rest : List ℕ) → AreOnce (reached ++ (addr ∷ rest)) → is_among reached addr ≡ false
once_new reached addr rest once = elim (cases_Bool (is_among reached addr)) [
  | inl some ↦
      let most = once addr in
      let both = count_by-append (is_addr addr) reached (addr ∷ rest) in
      let one = counted addr reached some in
      let more = count_by-yes (is_addr addr) addr rest (eq-eqb addr addr refl) in
      absurd (omega (arith, most, both, one, more))
  | inr none ↦ none
]
