-- Which free blocks a list may have, and what is marked.
use Rattle.std.proofs.Common.{◌≡◌, ◌≢◌, ◌≤◌, ◌<◌, ◌+◌, ◌-◌, ◌/◌, ◌%◌, ◌==◌, ◌&&◌, ℕ, Bool, List, [], ◌∷◌, ◌++◌, cond, true, false, length, get_or, set, arith, ap, ◌∙◌, refl, sym, inl, inr}
use Rattle.std.specs.Prelude.{count_by, nat_le}
use Rattle.std.proofs.lemmas.Bool.{and_from, and_parts, cases_Bool, cases_eq, cases_lt, eq-eqb, eqb-true, le-leb, leb-true, ne_eqb}
use Rattle.std.proofs.lemmas.List.{get_or-set_other, get_or-set_same, get_or_past}
use Rattle.sdr_base.proofs.PoolsLemmas.{count_by-append, count_by-no, count_by-yes}
use Rattle.audit_blocks.specs.Listed.{AreMarked, frame_in, is_listed, is_marked, is_told_free, list_of}
use Rattle.audit_blocks.specs.Spots.{is_free_spot}
use Rattle.audit_blocks.specs.declared.spot.Spot.{Spot}
use Rattle.audit_blocks.specs.declared.spot.Spot.TheVariants as spots

-- a free block of a list is told to have this address
pub record IsListedAt (bytes : List ℕ) (told : List Spot) (word addr : ℕ) : Type 0 where
  pub frame : frame_in word ≤ addr
  pub whole : (addr - frame_in word) % 8 ≡ 0
  pub free : is_free_spot (get_or told ((addr - frame_in word) / 8) spots.Nothing) ≡ true
  pub list : list_of bytes (addr - frame_in word) ≡ word

pub listed_at : (bytes : List ℕ) (told : List Spot) (word addr : ℕ) → is_listed bytes told word addr ≡ true → IsListedAt bytes told word addr
listed_at bytes told word addr is =
    let a = and_parts (nat_le (frame_in word) addr) (is_told_free told (addr - frame_in word) && list_of bytes (addr - frame_in word) == word) is in
    let b = and_parts (is_told_free told (addr - frame_in word)) (list_of bytes (addr - frame_in word) == word) a.1 in
    let f = and_parts ((addr - frame_in word) % 8 == 0) (is_free_spot (get_or told ((addr - frame_in word) / 8) spots.Nothing)) b.0 in
    record { frame = leb-true _ _ a.0; whole = eqb-true _ _ f.0; free = f.1; list = eqb-true _ _ b.1 }

pub at_listed : (bytes : List ℕ) (told : List Spot) (word addr : ℕ) → IsListedAt bytes told word addr → is_listed bytes told word addr ≡ true
at_listed bytes told word addr at =
    and_from _ _ (le-leb _ _ at.frame) (and_from _ _ (and_from _ _ (eq-eqb _ _ at.whole) at.free) (eq-eqb _ _ at.list))

-- a word that is told to be free lies inside the region
pub free_inside : (told : List Spot) (word : ℕ) → is_free_spot (get_or told word spots.Nothing) ≡ true → word < length told
free_inside told word free = elim (cases_lt word (length told)) [
  | inl inside ↦ inside
  | inr past ↦ let d : false ≡ true = sym (ap is_free_spot (get_or_past told word spots.Nothing past)) ∙ free in cc
]

same_place : (f f' a a' : ℕ) → (a - f) / 8 ≡ (a' - f') / 8 → (a - f) % 8 ≡ 0 → (a' - f') % 8 ≡ 0 → a - f ≡ a' - f'
same_place f f' a a' same whole whole' = omega arith

same_addr : (f f' a a' : ℕ) → a - f ≡ a' - f' → f ≡ f' → f ≤ a → f' ≤ a' → a ≡ a'
same_addr f f' a a' place frame low low' = omega arith

-- with one word begins one block at most, and it is in one list
pub alone : (bytes : List ℕ) (told : List Spot) (word addr word' addr' : ℕ) → is_listed bytes told word addr ≡ true → is_listed bytes told word' addr' ≡ true →
    (addr - frame_in word) / 8 ≡ (addr' - frame_in word') / 8 → (word ≡ word') × (addr ≡ addr')
alone bytes told word addr word' addr' listed listed' same =
    let a = listed_at bytes told word addr listed in
    let b = listed_at bytes told word' addr' listed' in
    let place = same_place (frame_in word) (frame_in word') addr addr' same a.whole b.whole in
    let list : word ≡ word' = sym a.list ∙ ap (list_of bytes) place ∙ b.list in
    (list, same_addr (frame_in word) (frame_in word') addr addr' place (ap frame_in list) a.frame b.frame)

-- these lists, and one more block at the end of one of them
abbrev pub with_listed : (ℕ → List ℕ) → ℕ → ℕ → ℕ → List ℕ
with_listed lists word addr other = cond (other == word) (lists other ++ (addr ∷ [])) (lists other)

pub with_listed-here : (lists : ℕ → List ℕ) (word addr : ℕ) → with_listed lists word addr word ≡ lists word ++ (addr ∷ [])
with_listed-here lists word addr = ap (λ (t : Bool). cond t (lists word ++ (addr ∷ [])) (lists word)) (eq-eqb word word refl)

pub with_listed-other : (lists : ℕ → List ℕ) (word addr other : ℕ) → other ≢ word → with_listed lists word addr other ≡ lists other
with_listed-other lists word addr other off = ap (λ (t : Bool). cond t (lists other ++ (addr ∷ [])) (lists other)) (ne_eqb other word off)

abbrev pub is_addr : ℕ → ℕ → Bool
is_addr addr other = other == addr

module _ (bytes : List ℕ) (told : List Spot) (lists : ℕ → List ℕ) (reached : List Bool) (word addr : ℕ) (are : AreMarked bytes told lists reached)
    (listed : is_listed bytes told word addr ≡ true) where
  abbrev begins : ℕ
  begins = (addr - frame_in word) / 8

  abbrev reached' : List Bool
  reached' = set reached begins true

  -- where another block begins the mark is as before
  marked_other : (o a : ℕ) → ((o ≡ word) × (a ≡ addr) → ⊥) →
      cond {A = ℕ} (is_listed bytes told o a && is_marked reached o a) 1 0 ≡ cond (is_listed bytes told o a && is_marked reached' o a) 1 0
  marked_other o a apart = elim (cases_Bool (is_listed bytes told o a)) [
    | inl holds ↦
        let differ : (a - frame_in o) / 8 ≢ begins = λ e. apart (alone bytes told o a word addr holds listed e) in
        ap (λ (t : Bool). cond (is_listed bytes told o a && t) 1 0) (sym (get_or-set_other reached begins ((a - frame_in o) / 8) true false differ))
    | inr fails ↦
        ap (λ (t : Bool). cond (t && is_marked reached o a) 1 0) fails
        ∙ sym (ap (λ (t : Bool). cond (t && is_marked reached' o a) 1 0) fails)
  ]

  -- a marked block stands in its list, and one that isn't does not
  pub marked_counts : is_marked reached word addr ≡ true → count_by (is_addr addr) (lists word) ≡ 1
  marked_counts holds = are word addr ∙ (λ i. cond (listed i && holds i) 1 0)

  pub unmarked_counts : is_marked reached word addr ≡ false → count_by (is_addr addr) (lists word) ≡ 0
  unmarked_counts fails = are word addr ∙ (λ i. cond (listed i && fails i) 1 0)

  -- one more block is marked, and stands in its list
  pub marked_more : is_marked reached word addr ≡ false → begins < length reached → AreMarked bytes told (with_listed lists word addr) reached'
  marked_more fails inside o a = elim (cases_eq o word) [
    | inl same ↦
        ap (λ (l : List ℕ). count_by (is_addr a) l)
        (ap (with_listed lists word addr) same ∙ with_listed-here lists word addr)
        ∙ count_by-append (is_addr a) (lists word) (addr ∷ [])
        ∙ elim (cases_eq a addr) [
          | inl here ↦
              ap (λ (n : ℕ). count_by (is_addr n) (lists word) + count_by (is_addr n) (addr ∷ [])) here
              ∙ ap (λ (n : ℕ). n + count_by (is_addr addr) (addr ∷ [])) (unmarked_counts fails)
              ∙ one
              ∙ sym ((λ i. cond (is_listed bytes told (same i) (here i) && is_marked reached' (same i) (here i)) 1 0)
              ∙ (λ i. cond (listed i && get_or-set_same reached begins true false inside i) 1 0))
          | inr off ↦
              ap (λ (n : ℕ). count_by (is_addr a) (lists word) + n) (count_by-no (is_addr a) addr [] (ne_eqb addr a (λ e. off (sym e))))
              ∙ add_none (count_by (is_addr a) (lists word))
              ∙ ap (λ (n : ℕ). count_by (is_addr a) (lists n)) (sym same)
              ∙ are o a ∙ marked_other o a (λ both. off both.1)
        ]
    | inr off ↦
        ap (λ (l : List ℕ). count_by (is_addr a) l) (with_listed-other lists word addr o off)
        ∙ are o a ∙ marked_other o a (λ both. off both.0)
  ]
    where
      one : 0 + count_by (is_addr addr) (addr ∷ []) ≡ 1
      one = ap (λ (n : ℕ). 0 + n) (count_by-yes (is_addr addr) addr [] (eq-eqb addr addr refl))

      add_none : (n : ℕ) → n + count_by (is_addr a) [] ≡ n
      add_none n = omega arith
