-- Blocks of some kinds.
use Rattle.std.proofs.Common.{◌≡◌, ◌≤◌, ◌<◌, ◌+◌, ◌-◌, ◌*◌, ◌/◌, ◌==◌, ◌∙◌, ℕ, Bool, true, false, cond, List, [], ◌∷◌, get_or, length, arith, ap, refl, subst, sym, inl, inr}
use Rattle.std.specs.Prelude.{find, is_some, Option, None, Some}
use Rattle.std.proofs.lemmas.Bool.{and_cases, and_left, and_right, both_ways, cases_Bool, cases_eq, cases_lt, eqb-true}
use Rattle.sdr_base.specs.Blocks.{Block, kind_length}
use Rattle.sdr_base.specs.KeptHeap.{block_in, block_of, leader_place}
use Rattle.sdr_base.specs.Kinds.{all_kinds, kind_number, kind_of}
use Rattle.sdr_base.specs.Parts.{part}
use Rattle.sdr_base.specs.Stored.{leader_kind, leader_length, start_bit}
use Rattle.sdr_base.specs.declared.kind.Kind.{Kind}
use Rattle.audit_owners.proofs.RegionLemmas.{found_clear, found_nowhere, found_set, led_at, led_where, no_kind, none_past}
use Rattle.audit_owners.specs.Scan.{HasNoneOf, HasNoStart, LeadsNone, leads_one_of}
use Rattle.audit_owners.specs.View.{have_number, is_one_of}

-- where there is no block, there is none of any kinds
pub one_of-none : (kinds : List Kind) → is_one_of kinds None ≡ false
one_of-none [] = refl
one_of-none (kind ∷ kinds) = one_of-none kinds

-- so too where none is found
pub one_of-unfound : (kinds : List Kind) (b : Option Block) → kind_length b ≡ None → is_one_of kinds b ≡ false
one_of-unfound kinds b none = ap (is_one_of kinds) (no_kind b (ap is_some none)) ∙ one_of-none kinds

-- what is found passes the test
find_passes : {X : Type 0} (p : X → Bool) (xs : List X) (x : X) → find p xs ≡ Some x → p x ≡ true
find_passes p [] x is = let d : None ≡ Some x = is in cc
find_passes {X} p (y ∷ ys) x is = by_test (find_passes p ys x) (p y) refl is
  where
    by_test : (find p ys ≡ Some x → p x ≡ true) → (t : Bool) → p y ≡ t → cond t (Some y) (find p ys) ≡ Some x → p x ≡ true
    by_test later true holds same = let e : y ≡ x = cc in subst (λ (z : X). p z ≡ true) e holds
    by_test later false fails found = later found

-- a block whose kind has a number is of none of these kinds, where none of them has it
one_of-unnumbered : (kinds : List Kind) (number : ℕ) (bytes : List ℕ) → have_number kinds number ≡ false →
    is_one_of kinds (block_of (kind_of number) bytes) ≡ false
one_of-unnumbered kinds number bytes off = by_kind (kind_of number) refl
  where
    by_kind : (o : Option Kind) → kind_of number ≡ o → is_one_of kinds (block_of o bytes) ≡ false
    by_kind None is = one_of-none kinds
    by_kind (Some kind) is =
        ap (have_number kinds) (eqb-true (kind_number kind) number (find_passes (λ k. kind_number k == number) all_kinds kind is)) ∙ off

-- nor one whose leader begins with a word with which none of these kinds does
one_of-led : (kinds : List Kind) (bytes : List ℕ) (addr place : ℕ) → leader_place bytes addr ≡ Some place → (word : ℕ) → 8 * word ≡ place →
    leads_one_of kinds bytes word ≡ false → is_one_of kinds (block_in bytes addr) ≡ false
one_of-led kinds bytes addr place at word is off = elim (cases_Bool (start_bit (place / 8) bytes == 1)) [
  | inr clear ↦ one_of-unfound kinds (block_in bytes addr) (found_clear bytes addr place at clear)
  | inl set ↦ elim (and_cases (start_bit word bytes == 1) (have_number kinds (leader_kind (8 * word) bytes)) off) [
    | inl clear ↦
        let same : word ≡ place / 8 = omega (arith, is) in
        absurd (both_ways _ (ap (λ (n : ℕ). start_bit n bytes == 1) (sym same) ∙ clear) set)
    | inr number ↦
        ap (is_one_of kinds) (found_set bytes addr place at set)
        ∙ one_of-unnumbered kinds (leader_kind place bytes) (part addr (leader_length place bytes) bytes)
        (ap (λ (n : ℕ). have_number kinds (leader_kind n bytes)) (sym is) ∙ number)
  ]
]

-- nor one behind two words with which none does
one_of-unled : (kinds : List Kind) (bytes : List ℕ) (addr : ℕ) → leads_one_of kinds bytes (addr / 8 - 1) ≡ false →
    leads_one_of kinds bytes (addr / 8 - 2) ≡ false → is_one_of kinds (block_in bytes addr) ≡ false
one_of-unled kinds bytes addr near far = by_place (leader_place bytes addr) refl
  where
    by_place : (o : Option ℕ) → leader_place bytes addr ≡ o → is_one_of kinds (block_in bytes addr) ≡ false
    by_place None at = one_of-unfound kinds (block_in bytes addr) (found_nowhere bytes addr at)
    by_place (Some place) at =
        let whole = (led_at bytes addr place at).whole in
        elim (led_where bytes addr place at) [
          | inl is ↦ one_of-led kinds bytes addr place at (addr / 8 - 1) (omega (arith, is, whole)) near
          | inr is ↦ one_of-led kinds bytes addr place at (addr / 8 - 2) (omega (arith, is, whole)) far
        ]

-- behind a word no block of these kinds has its address before that behind the next leader of one
pub none_led_behind : (kinds : List Kind) (bytes : List ℕ) (word start other : ℕ) → LeadsNone kinds bytes (word - 1) start → word < other → other ≤ start →
    HasNoneOf kinds bytes other
none_led_behind kinds bytes word start other clear behind before =
    one_of-unled kinds bytes (8 * other)
    (at (other - 1) (8 * other / 8 - 1) (omega arith) (clear (other - 1) (omega (arith, behind)) (omega (arith, behind, before))))
    (at (other - 2) (8 * other / 8 - 2) (omega arith) (clear (other - 2) (omega (arith, behind)) (omega (arith, behind, before))))
  where
    at : (n m : ℕ) → n ≡ m → leads_one_of kinds bytes n ≡ false → leads_one_of kinds bytes m ≡ false
    at n m same = subst (λ (k : ℕ). leads_one_of kinds bytes k ≡ false) same

-- a word without a start bit, or whose first byte is the number of none of these kinds, leads none of them
pub unset_leads_none : (kinds : List Kind) (bytes : List ℕ) (from to : ℕ) → HasNoStart bytes from to → LeadsNone kinds bytes from to
unset_leads_none kinds bytes from to clear word onward less = and_left _ _ (clear word onward less)

-- behind a word that leads none, with none of some words does a leader begin up to the next start bit
pub leads_none_more : (kinds : List Kind) (bytes : List ℕ) (from word to : ℕ) → LeadsNone kinds bytes from word →
    have_number kinds (get_or bytes (8 * word) 0) ≡ false → HasNoStart bytes (word + 1) to → LeadsNone kinds bytes from to
unfolding leader_kind
leads_none_more kinds bytes from word to before off clear other onward less = elim (cases_lt other word) [
  | inl below ↦ before other onward below
  | inr above ↦ elim (cases_eq word other) [
    | inl same ↦ subst (λ (n : ℕ). leads_one_of kinds bytes n ≡ false) same (and_right _ _ off)
    | inr off ↦ unset_leads_none kinds bytes (word + 1) to clear other (omega (arith, above, off)) less
  ]
]

-- behind the region no block of these kinds is
pub none_of_past : (kinds : List Kind) (bytes : List ℕ) (word : ℕ) → length bytes ≤ 8 * word → HasNoneOf kinds bytes word
none_of_past kinds bytes word past = ap (is_one_of kinds) (none_past bytes (8 * word) past) ∙ one_of-none kinds
