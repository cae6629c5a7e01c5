-- The chains of a heap whose blocks have their owners are those that are followed.
use Rattle.std.proofs.Common.{◌≡◌, ◌≤◌, ◌<◌, ◌+◌, ◌*◌, ◌==◌, ◌||◌, ℕ, zero, suc, Bool, List, [], ◌∷◌, ◌++◌, true, false, length, map, nat_eq, arith, ap, ◌∙◌, refl, sym, subst, inl, inr}
use Rattle.std.specs.Prelude.{count_by, Option, None, Some}
use Rattle.std.specs.Cmp.{nat_eq_equiv}
use Rattle.std.specs.List.{All, flat_map, list_any, range_with_len}
use Rattle.std.proofs.lemmas.Bool.{cases_eq, eq-eqb, ne_eqb, or_left, or_right}
use Rattle.std.proofs.lemmas.List.Elements.{All-cons, All-head, All-nil, All-tail}
use Rattle.std.proofs.lemmas.List.FromFn.{length-map-range_with_len}
use Rattle.std.proofs.lemmas.Map.Made.{length-le_from_is_member}
use Rattle.sdr_base.proofs.PoolsLemmas.{count_by-append, count_by-no, count_by-yes}
use Rattle.audit_owners.proofs.MembersLemmas.{followed-end, followed-next}
use Rattle.audit_owners.specs.Places.{places}
use Rattle.audit_owners.specs.Members.{followed, members}
use Rattle.law_steps.proofs.DistinctLemmas.{from_once}
use Rattle.audit_owners.specs.Chains.{Chain, ChainsReach, ChainGoes, IsChain, addrs_of, first_link, next_of}
use Rattle.sdr_base.specs.Entries.{AreOnce}
use Rattle.sdr_base.specs.Blocks.{Block}
use Rattle.sdr_base.specs.declared.kind.Kind.{Kind}
use Rattle.audit_owners.specs.Owners.{kind_in, owned_at, owners_of, root_owners}
use Rattle.audit_owners.specs.View.{View, is_kind}
use Rattle.audit_owners.specs.declared.owner.Owner.{Owner}

-- an address is that of one of so many words
pub record IsPlace (words addr : ℕ) : Type 0 where
  pub word : ℕ
  pub below : word < words
  pub at : addr ≡ 8 * word

-- it stands among their places
among_places : (n a word : ℕ) → a ≤ word → word < a + n → list_any (nat_eq (8 * word)) (map (λ word. 8 * word) (range_with_len a n)) ≡ true
among_places zero a word low high = absurd (omega arith)
among_places (suc n) a word low high = elim (cases_eq word a) [
  | inl same ↦ or_left (8 * word == 8 * a) _ (eq-eqb (8 * word) (8 * a) (ap (λ (w : ℕ). 8 * w) same))
  | inr off ↦ or_right (8 * word == 8 * a) _ (among_places n (a + 1) word (more word a low off) (omega (arith, high)))
]
  where
    more : (word a : ℕ) → a ≤ word → (word ≡ a → ⊥) → a + 1 ≤ word
    more word a low off = omega (arith, low, off)

-- two tests for the same number count alike
pub count_turned : (addr : ℕ) (xs : List ℕ) → count_by (nat_eq addr) xs ≡ count_by (λ other. other == addr) xs
count_turned addr [] = refl
count_turned addr (x ∷ xs) = elim (cases_eq x addr) [
  | inl same ↦
      count_by-yes (nat_eq addr) x xs (eq-eqb addr x (sym same)) ∙ ap (λ (n : ℕ). 1 + n) (count_turned addr xs)
      ∙ sym (count_by-yes (λ other. other == addr) x xs (eq-eqb x addr same))
  | inr off ↦
      count_by-no (nat_eq addr) x xs (ne_eqb addr x (λ e. off (sym e))) ∙ count_turned addr xs
      ∙ sym (count_by-no (λ other. other == addr) x xs (ne_eqb x addr off))
]

-- addresses of so many words that stand there once each are so many at most
pub few_places : (words : ℕ) (addrs : List ℕ) → All (IsPlace words) addrs → AreOnce addrs → length addrs ≤ words
few_places words addrs placed once =
    subst (λ (n : ℕ). length addrs ≤ n) (length-map-range_with_len (λ word. 8 * word) 0 words)
    (length-le_from_is_member nat_eq_equiv addrs (places words)
    (from_once nat_eq_equiv addrs (λ k. let o = once k in let e = count_turned k addrs in omega (arith, o, e)))
    (λ q is. here q addrs placed is))
  where
    here : (q : ℕ) (xs : List ℕ) → All (IsPlace words) xs → list_any (nat_eq q) xs ≡ true → list_any (nat_eq q) (places words) ≡ true
    here q [] all is = let d : false ≡ true = is in cc
    here q (x ∷ xs) all is = elim (cases_eq q x) [
      | inl same ↦
          let p = All-head (IsPlace words) x xs all in
          let below = p.below in
          subst (λ (n : ℕ). list_any (nat_eq n) (places words) ≡ true) (sym (same ∙ p.at))
          (among_places words 0 p.word (omega arith) (omega (arith, below)))
      | inr off ↦
          here q xs (All-tail (IsPlace words) x xs all)
          (sym (ap (λ (t : Bool). t || list_any (nat_eq q) xs) (ne_eqb q x off)) ∙ is)
    ]

module _ (heap : View) (words : ℕ) where
  -- a chain goes over the blocks to which its links lead
  pub goes_followed : (owner : Owner) (most before link : ℕ) (addrs : List ℕ) (last : ℕ) → length addrs ≤ most →
      ChainGoes heap owner before link addrs last 0 → followed heap owner most link ≡ addrs
  goes_followed owner most before link [] last few (b, l) = ap (followed heap owner most) l ∙ followed-end heap owner most
  goes_followed owner zero before link (a ∷ addrs) last few goes = absurd (omega (arith, few))
  goes_followed owner (suc most) before link (a ∷ addrs) last few (is, some, member, named, more) =
      ap (followed heap owner (suc most)) is ∙ followed-next heap owner most a some
      ∙ ap (λ (l : List ℕ). a ∷ l) (goes_followed owner most a (next_of heap owner a) addrs last (omega (arith, few)) more)

  -- an owner, and the blocks of its chain as they are followed
  abbrev pub chain_told : Owner → Chain
  chain_told owner = record { owner = owner; addrs = members heap words owner }

  -- the chain of an owner as it is followed is right
  abbrev pub IsTold : Owner → Type 0
  IsTold owner = IsChain heap (chain_told owner)

  -- each block stands at a place
  module _ (placed : (addr : ℕ) (block : Block) → heap.blocks addr ≡ Some block → IsPlace words addr) where
    kind_placed : (kind : Kind) (addr : ℕ) (o : Option Block) → heap.blocks addr ≡ o → is_kind kind o ≡ true → IsPlace words addr
    kind_placed kind addr None at is = let d : false ≡ true = is in cc
    kind_placed kind addr (Some block) at is = placed addr block at

    -- so do those of a chain
    pub goes_placed : (owner : Owner) (before link : ℕ) (addrs : List ℕ) (last next : ℕ) → ChainGoes heap owner before link addrs last next →
        All (IsPlace words) addrs
    goes_placed owner before link [] last next goes = All-nil (IsPlace words)
    goes_placed owner before link (a ∷ addrs) last next (is, some, member, named, more) =
        All-cons (IsPlace words) a addrs (kind_placed (kind_in owner) a (heap.blocks a) refl member)
        (goes_placed owner a (next_of heap owner a) addrs last next more)

    chain_is : (chain : Chain) → IsChain heap chain → AreOnce chain.addrs → chain ≡ chain_told chain.owner
    chain_is chain c once =
        let few = few_places words chain.addrs (goes_placed chain.owner 0 (first_link heap chain.owner) chain.addrs c.last 0 c.goes) once in
        let same = goes_followed chain.owner words 0 (first_link heap chain.owner) chain.addrs c.last few c.goes in
        λ i. record { owner = chain.owner; addrs = sym same i }

    chains_are : (chains : List Chain) → All (IsChain heap) chains → AreOnce (addrs_of chains) → chains ≡ map chain_told (map (λ (chain : Chain). chain.owner) chains)
    chains_are [] right once = refl
    chains_are (chain ∷ chains) right once =
        let head = chain_is chain (All-head (IsChain heap) chain chains right)
        (λ addr. let o = once addr in let b = count_by-append (λ other. other == addr) chain.addrs (addrs_of chains) in omega (arith, o, b)) in
        let rest = chains_are chains (All-tail (IsChain heap) chain chains right)
        (λ addr. let o = once addr in let b = count_by-append (λ other. other == addr) chain.addrs (addrs_of chains) in omega (arith, o, b)) in
        λ i. head i ∷ rest i

    addrs_told : (owners : List Owner) → addrs_of (map chain_told owners) ≡ flat_map (members heap words) owners
    addrs_told [] = refl
    addrs_told (owner ∷ owners) = ap (λ (l : List ℕ). members heap words owner ++ l) (addrs_told owners)

    all_told : (owners : List Owner) → All (IsChain heap) (map chain_told owners) → All IsTold owners
    all_told [] right = All-nil IsTold
    all_told (owner ∷ owners) right =
        All-cons IsTold owner owners (All-head (IsChain heap) (chain_told owner) (map chain_told owners) right)
        (all_told owners (All-tail (IsChain heap) (chain_told owner) (map chain_told owners) right))

    module _ (owners : List Owner) (reached : List ℕ) (reach : ChainsReach heap owners reached) where
      chains_same : reach.chains ≡ map chain_told owners
      chains_same =
          chains_are reach.chains reach.right (subst AreOnce (sym reach.reached_are) reach.once)
          ∙ ap (map chain_told) reach.owners_are

      -- what the chains of owners reach is what they are followed over
      pub reached_followed : reached ≡ flat_map (members heap words) owners
      reached_followed = sym reach.reached_are ∙ ap addrs_of chains_same ∙ addrs_told owners

      -- and each of them is right
      pub each_told : All IsTold owners
      each_told = all_told owners (subst (All (IsChain heap)) chains_same reach.right)

module _ {X : Type 0} (P : X → Type 0) where
  -- what holds of all of two lists holds of all of each
  pub all_left : (xs ys : List X) → All P (xs ++ ys) → All P xs
  all_left [] ys all = All-nil P
  all_left (x ∷ xs) ys all = All-cons P x xs (All-head P x (xs ++ ys) all) (all_left xs ys (All-tail P x (xs ++ ys) all))

  pub all_right : (xs ys : List X) → All P (xs ++ ys) → All P ys
  all_right [] ys all = all
  all_right (x ∷ xs) ys all = all_right xs ys (All-tail P x (xs ++ ys) all)

  -- and of the part that a number gives
  pub all_in_row : (f : ℕ → List X) (n a word : ℕ) → a ≤ word → word < a + n → All P (flat_map f (range_with_len a n)) → All P (f word)
  all_in_row f zero a word low high all = absurd (omega (arith, low, high))
  all_in_row f (suc n) a word low high all = elim (cases_eq word a) [
    | inl same ↦ subst (λ (w : ℕ). All P (f w)) (sym same) (all_left (f a) (flat_map f (range_with_len (a + 1) n)) all)
    | inr off ↦ all_in_row f n (a + 1) word (above word a low off) (omega (arith, high)) (all_right (f a) (flat_map f (range_with_len (a + 1) n)) all)
  ]
    where
      above : (word a : ℕ) → a ≤ word → (word ≡ a → ⊥) → a + 1 ≤ word
      above word a low off = omega (arith, low, off)

  -- and of what it gives
  pub all_in_map : (f : ℕ → X) (n a word : ℕ) → a ≤ word → word < a + n → All P (map f (range_with_len a n)) → P (f word)
  all_in_map f zero a word low high all = absurd (omega (arith, low, high))
  all_in_map f (suc n) a word low high all = elim (cases_eq word a) [
    | inl same ↦ subst (λ (w : ℕ). P (f w)) (sym same) (All-head P (f a) (map f (range_with_len (a + 1) n)) all)
    | inr off ↦ all_in_map f n (a + 1) word (above word a low off) (omega (arith, high)) (All-tail P (f a) (map f (range_with_len (a + 1) n)) all)
  ]
    where
      above : (word a : ℕ) → a ≤ word → (word ≡ a → ⊥) → a + 1 ≤ word
      above word a low off = omega (arith, low, off)

-- the chains of the block at a place are among all
pub owned_told : (heap : View) (words addr : ℕ) → IsPlace words addr → All (IsTold heap words) (owners_of heap words) → All (IsTold heap words) (owned_at heap addr)
owned_told heap words addr place all =
    let below = place.below in
    subst (λ (a : ℕ). All (IsTold heap words) (owned_at heap a)) (sym place.at)
    (all_in_row (IsTold heap words) (λ (word : ℕ). owned_at heap (8 * word)) words 0 place.word (omega arith) (omega (arith, below))
    (all_right (IsTold heap words) root_owners (flat_map (λ (word : ℕ). owned_at heap (8 * word)) (range_with_len 0 words)) all))
