-- The blocks of right chains are those to which links lead.
use Rattle.std.proofs.Common.{◌≡◌, ◌≤◌, ◌<◌, ◌/◌, ◌%◌, ◌==◌, ◌||◌, ℕ, zero, suc, Bool, true, false, List, [], ◌∷◌, map, length, eqb, count_by, arith, ap, ◌∙◌, refl, sym, subst, inl, inr}
use Rattle.std.specs.List.{All, AllByRecursion, IsDistinct, list_any}
use Rattle.std.proofs.lemmas.Bool.{cases_Bool, eq-eqb, eqb-true, ne_eqb, or_parts}
use Rattle.std.proofs.lemmas.List.{length-map}
use Rattle.std.proofs.lemmas.List.Concat.{flat_map-cons}
use Rattle.std.proofs.lemmas.List.Elements.{All-cons, All-head, All-nil, All-tail}
use Rattle.std.proofs.lemmas.Map.Steps.{length-le_from_distinct_below}
use Rattle.sdr_base.proofs.PoolsLemmas.{count_by-append, count_by-yes}
use Rattle.audit_owners.proofs.MembersLemmas.{followed-end, followed-next}
use Rattle.audit_owners.specs.Members.{AreMembers, followed, members}
use Rattle.audit_owners.proofs.MarksLemmas.{counted, is_addr}
use Rattle.audit_owners.proofs.RegionLemmas.{is_whole}
use Rattle.audit_owners.specs.Chains.{Chain, ChainsReach, ChainGoes, IsChain, addrs_of, first_link, is_among, next_of}
use Rattle.sdr_base.specs.Entries.{AreOnce}
use Rattle.audit_owners.specs.Owners.{kind_in}
use Rattle.audit_owners.specs.View.{View, view_in}
use Rattle.audit_owners.specs.declared.owner.Owner.{Owner}

-- a chain goes over what its links lead to, where as many are asked for
followed-goes : (heap : View) (owner : Owner) (before link : ℕ) (addrs : List ℕ) (last most : ℕ) → ChainGoes heap owner before link addrs last 0 →
    length addrs ≤ most → followed heap owner most link ≡ addrs
followed-goes heap owner before link [] last most (b, none) few = ap (followed heap owner most) none ∙ followed-end heap owner most
followed-goes heap owner before link (a ∷ addrs) last zero goes few = absurd (omega (arith, few))
followed-goes heap owner before link (a ∷ addrs) last (suc most) (is, some, member, named, more) few =
    followed-next heap owner most link (λ e. some (sym is ∙ e))
    ∙ ap (λ (n : ℕ). n ∷ followed heap owner most (next_of heap owner n)) is
    ∙ ap (λ (l : List ℕ). a ∷ l) (followed-goes heap owner a (next_of heap owner a) addrs last most more (omega (arith, few)))

-- addresses of whole words inside a region
pub record IsInside (words addr : ℕ) : Type 0 where
  pub whole : addr % 8 ≡ 0
  pub below : addr / 8 < words

-- those of a chain are such
goes_inside : (bytes : List ℕ) (owner : Owner) (before link : ℕ) (addrs : List ℕ) (last next : ℕ) → length bytes % 8 ≡ 0 →
    ChainGoes (view_in bytes) owner before link addrs last next → All (IsInside (length bytes / 8)) addrs
goes_inside bytes owner before link [] last next full goes = All-nil (IsInside (length bytes / 8))
goes_inside bytes owner before link (a ∷ addrs) last next full (is, some, member, named, more) =
    let w = is_whole bytes a (kind_in owner) member in
    let whole = w.whole in
    let inside = w.inside in
    All-cons (IsInside (length bytes / 8)) a addrs (record { whole = whole; below = omega (arith, full, whole, inside) })
    (goes_inside bytes owner a (next_of (view_in bytes) owner a) addrs last next full more)

-- whole words at addresses that differ differ
apart : (words x : ℕ) (xs : List ℕ) → IsInside words x → All (IsInside words) xs → is_among xs x ≡ false →
    AllByRecursion (λ y. eqb (x / 8) y ≡ false) (map (λ n. n / 8) xs)
apart words x [] here all new = tt
apart words x (y ∷ ys) here all new =
    let n = or_parts (y == x) (is_among ys x) new in
    let there = All-head (IsInside words) y ys all in
    let x_whole = here.whole in
    let y_whole = there.whole in (
      ne_eqb (x / 8) (y / 8) (λ e. both (y == x) n.0 (eq-eqb y x (omega (arith, e, x_whole, y_whole)))),
      apart words x ys here (All-tail (IsInside words) y ys all) n.1,
    )
  where
    both : (t : Bool) → t ≡ false → t ≡ true → ⊥
    both t off on = let d : false ≡ true = sym off ∙ on in cc

once_tail : (x : ℕ) (xs : List ℕ) → AreOnce (x ∷ xs) → AreOnce xs
once_tail x xs once addr =
    let most = once addr in
    let both = count_by-append (is_addr addr) (x ∷ []) xs in
    omega (arith, most, both)

distinct : (words : ℕ) (xs : List ℕ) → All (IsInside words) xs → AreOnce xs → IsDistinct eqb (map (λ n. n / 8) xs)
unfolding IsDistinct
distinct words [] all once = tt
distinct words (x ∷ xs) all once = (
  apart words x xs (All-head (IsInside words) x xs all) (All-tail (IsInside words) x xs all) (fresh x xs once),
  distinct words xs (All-tail (IsInside words) x xs all) (once_tail x xs once),
)
  where
    fresh : (y : ℕ) (ys : List ℕ) → AreOnce (y ∷ ys) → is_among ys y ≡ false
    fresh y ys once' = elim (cases_Bool (is_among ys y)) [
      | inr none ↦ none
      | inl some ↦
          let most = once' y in
          let both = count_by-append (is_addr y) (y ∷ []) ys in
          let one = count_by-yes (is_addr y) y [] (eq-eqb y y refl) in
          let more = counted y ys some in
          absurd (omega (arith, most, both, one, more))
    ]

below_all : (words : ℕ) (xs : List ℕ) → All (IsInside words) xs → (q : ℕ) → list_any (eqb q) (map (λ n. n / 8) xs) ≡ true → q < words
below_all words [] all q some = let d : false ≡ true = some in cc
below_all words (x ∷ xs) all q some = elim (cases_Bool (eqb q (x / 8))) [
  | inl here ↦
      let e = eqb-true q (x / 8) here in
      let less = (All-head (IsInside words) x xs all).below in
      omega (arith, e, less)
  | inr off ↦
      below_all words xs (All-tail (IsInside words) x xs all) q
      (sym (ap (λ (t : Bool). t || list_any (eqb q) (map (λ n. n / 8) xs)) off) ∙ some)
]

-- so they are so many as there are words at most
few : (words : ℕ) (xs : List ℕ) → All (IsInside words) xs → AreOnce xs → length xs ≤ words
few words xs all once =
    let le = length-le_from_distinct_below (map (λ n. n / 8) xs) words (distinct words xs all once) (below_all words xs all) in
    let long = length-map xs (λ n. n / 8) in
    omega (arith, le, long)

-- what stands once in all chains stands once in the first, and in the others
once_first : (chain : Chain) (chains : List Chain) → AreOnce (addrs_of (chain ∷ chains)) → AreOnce chain.addrs
once_first chain chains once addr =
    let most = once addr in
    let both = count_by-append (is_addr addr) chain.addrs (addrs_of chains) in
    let cut = ap (count_by (is_addr addr)) (flat_map-cons (λ (c : Chain). c.addrs) chain chains) in
    omega (arith, most, both, cut)

once_rest : (chain : Chain) (chains : List Chain) → AreOnce (addrs_of (chain ∷ chains)) → AreOnce (addrs_of chains)
once_rest chain chains once addr =
    let most = once addr in
    let both = count_by-append (is_addr addr) chain.addrs (addrs_of chains) in
    let cut = ap (count_by (is_addr addr)) (flat_map-cons (λ (c : Chain). c.addrs) chain chains) in
    omega (arith, most, both, cut)

all_members : (bytes : List ℕ) (chains : List Chain) → length bytes % 8 ≡ 0 → All (IsChain (view_in bytes)) chains → AreOnce (addrs_of chains) →
    AreMembers (view_in bytes) (length bytes / 8) chains
all_members bytes [] full right once = All-nil (λ (chain : Chain). chain.addrs ≡ members (view_in bytes) (length bytes / 8) chain.owner)
all_members bytes (chain ∷ chains) full right once =
    let heap = view_in bytes in
    let words : ℕ = length bytes / 8 in
    let here = All-head (IsChain heap) chain chains right in
    let inside = goes_inside bytes chain.owner 0 (first_link heap chain.owner) chain.addrs here.last 0 full here.goes in
    All-cons (λ (c : Chain). c.addrs ≡ members heap words c.owner) chain chains
    (sym (followed-goes heap chain.owner 0 (first_link heap chain.owner) chain.addrs here.last words here.goes
    (few words chain.addrs inside (once_first chain chains once))))
    (all_members bytes chains full (All-tail (IsChain heap) chain chains right) (once_rest chain chains once))

pub chains_members : (bytes : List ℕ) (owners : List Owner) (reached : List ℕ) → length bytes % 8 ≡ 0 →
    (right : ChainsReach (view_in bytes) owners reached) → AreMembers (view_in bytes) (length bytes / 8) right.chains
chains_members bytes owners reached full right =
    all_members bytes right.chains full right.right (subst AreOnce (sym right.reached_are) right.once)
