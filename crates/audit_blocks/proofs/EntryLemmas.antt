-- The entries of a list of free large blocks.
use Rattle.std.proofs.Common.{◌≡◌, ◌≢◌, ◌≤◌, ◌<◌, ◌-◌, ◌==◌, ◌&&◌, ℕ, suc, Bool, List, [], ◌∷◌, length, arith, ap, ◌∙◌, refl, sym, subst, inl, inr}
use Rattle.std.specs.Prelude.{Contains, count_by}
use Rattle.std.specs.List.{All}
use Rattle.std.proofs.lemmas.Bool.{and_from, and_parts, cases_Bool, cases_eq, eq-eqb, eqb-true, ne_eqb}
use Rattle.std.proofs.lemmas.List.Elements.{All-head, All-tail}
use Rattle.sdr_base.proofs.PoolsLemmas.{count_by-no, count_by-yes}
use Rattle.sdr_base.specs.KeptLarge.{Links, is_entry}
use Rattle.audit_blocks.proofs.ListedLemmas.{is_addr}
use Rattle.audit_blocks.proofs.ListsLemmas.{addrs_of, contained_counted, counted_contained}

-- an entry that is counted is among them
pub entry_contained : (words addr : ℕ) (blocks : List (ℕ × ℕ)) → 0 < count_by (is_entry words addr) blocks → Contains blocks (addr, words)
entry_contained words addr [] some = absurd (omega (arith, some))
entry_contained words addr (b ∷ blocks) some = elim (cases_Bool (is_entry words addr b)) [
  | inl this ↦
      let p = and_parts (b.0 == addr) (b.1 == words) this in
      let at : b.0 ≡ addr = eqb-true _ _ p.0 in
      let sized : b.1 ≡ words = eqb-true _ _ p.1 in
      (0, omega arith, (λ i. (at i, sized i)))
  | inr other ↦
      let c = entry_contained words addr blocks (omega (arith, some, count_by-no (is_entry words addr) b blocks other)) in
      let within : c.0 < length blocks = c.1 in
      (suc c.0, omega (arith, within), c.2)
]

-- one among them whose words are right is counted
pub contained_entry : (words addr : ℕ) (blocks : List (ℕ × ℕ)) → All (λ (block : ℕ × ℕ). block.0 ≡ addr → block.1 ≡ words) blocks → Contains (addrs_of blocks) addr →
    0 < count_by (is_entry words addr) blocks
contained_entry words addr [] sizes (k, inside, is) = absurd (omega (arith, inside))
contained_entry words addr (b ∷ blocks) sizes c = elim (cases_eq b.0 addr) [
  | inl same ↦
      let sized : b.1 ≡ words = All-head (λ (block : ℕ × ℕ). block.0 ≡ addr → block.1 ≡ words) b blocks sizes same in
      let one = count_by-yes (is_entry words addr) b blocks (and_from _ _ (eq-eqb _ _ same) (eq-eqb _ _ sized)) in
      omega (arith, one)
  | inr off ↦
      let counted = contained_counted addr (addrs_of (b ∷ blocks)) c in
      let counted_rest = count_by-no (is_addr addr) b.0 (addrs_of blocks) (ne_eqb b.0 addr off) in
      let more = contained_entry words addr blocks (All-tail (λ (block : ℕ × ℕ). block.0 ≡ addr → block.1 ≡ words) b blocks sizes)
      (counted_contained addr (addrs_of blocks) (omega (arith, counted, counted_rest))) in
      let none = count_by-no (is_entry words addr) b blocks (ap (λ (t : Bool). t && b.1 == words) (ne_eqb b.0 addr off)) in
      omega (arith, more, none)
]

-- no more entries than addresses
pub entries_most : (words addr : ℕ) (blocks : List (ℕ × ℕ)) → count_by (is_entry words addr) blocks ≤ count_by (is_addr addr) (addrs_of blocks)
entries_most words addr [] = omega arith
entries_most words addr (b ∷ blocks) =
    let more = entries_most words addr blocks in
    elim (cases_eq b.0 addr) [
      | inl same ↦
          let a = count_by-yes (is_addr addr) b.0 (addrs_of blocks) (eq-eqb b.0 addr same) in
          elim (cases_Bool (is_entry words addr b)) [
            | inl this ↦ let c = count_by-yes (is_entry words addr) b blocks this in omega (arith, a, c, more)
            | inr other ↦ let c = count_by-no (is_entry words addr) b blocks other in omega (arith, a, c, more)
          ]
      | inr off ↦
          let a = count_by-no (is_addr addr) b.0 (addrs_of blocks) (ne_eqb b.0 addr off) in
          let c = count_by-no (is_entry words addr) b blocks (ap (λ (t : Bool). t && b.1 == words) (ne_eqb b.0 addr off)) in
          omega (arith, a, c, more)
    ]

-- two lists of blocks linked from one place have the same addresses
pub links_same : (bytes : List ℕ) (place before : ℕ) (xs ys : List (ℕ × ℕ)) → Links bytes place before xs → Links bytes place before ys →
    All (λ (block : ℕ × ℕ). block.0 ≢ 0) xs → All (λ (block : ℕ × ℕ). block.0 ≢ 0) ys → addrs_of xs ≡ addrs_of ys
unfolding Links
links_same bytes place before [] [] x y some some' = refl
links_same bytes place before [] (b ∷ ys) x (is, previous, more) some some' = absurd (All-head (λ (block : ℕ × ℕ). block.0 ≢ 0) b ys some' (sym is ∙ x))
links_same bytes place before (a ∷ xs) [] (is, previous, more) y some some' = absurd (All-head (λ (block : ℕ × ℕ). block.0 ≢ 0) a xs some (sym is ∙ y))
links_same bytes place before (a ∷ xs) (b ∷ ys) (is, previous, more) (is', previous', more') some some' =
    let same : a.0 ≡ b.0 = sym is ∙ is' in
    (λ i. same i
    ∷ links_same bytes (a.0 - 8) a.0 xs ys more (subst (λ (n : ℕ). Links bytes (n - 8) n ys) (sym same) more') (All-tail (λ (block : ℕ × ℕ). block.0 ≢ 0) a xs some)
    (All-tail (λ (block : ℕ × ℕ). block.0 ≢ 0) b ys some') i)
