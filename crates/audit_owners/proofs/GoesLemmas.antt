-- A chain that goes over blocks.
use Rattle.std.proofs.Common.{◌≡◌, ◌≢◌, ℕ, List, [], ◌∷◌, ◌++◌, true, ap, ◌∙◌, refl, sym, subst}
use Rattle.std.proofs.lemmas.List.{append-nil}
use Rattle.audit_owners.specs.Chains.{ChainGoes, is_member, names_owner_at, next_of}
use Rattle.audit_owners.specs.View.{View}
use Rattle.audit_owners.specs.declared.owner.Owner.{Owner}

module _ (heap : View) (owner : Owner) where
  -- it goes on to the block to which its last link leads
  pub goes_then : (before link : ℕ) (addrs : List ℕ) (last addr : ℕ) → ChainGoes heap owner before link addrs last addr → addr ≢ 0 →
      is_member heap owner addr ≡ true → names_owner_at heap owner last addr ≡ true →
      ChainGoes heap owner before link (addrs ++ (addr ∷ [])) addr (next_of heap owner addr)
  goes_then before link [] last addr (b, l) some member named =
      (l, some, member, ap (λ (n : ℕ). names_owner_at heap owner n addr) b ∙ named, (refl, refl))
  goes_then before link (a ∷ addrs) last addr (is, some', member', named', more) some member named =
      (is, some', member', named', goes_then a (next_of heap owner a) addrs last addr more some member named)

  -- what a chain goes over behind some of its blocks
  pub record GoesOn (done addrs : List ℕ) (last link end : ℕ) : Type 0 where
    pub rest : List ℕ
    pub whole : addrs ≡ done ++ rest
    pub goes : ChainGoes heap owner last link rest end 0

  -- two ways that a chain goes begin alike
  pub goes_on : (before first : ℕ) (done addrs : List ℕ) (last link end : ℕ) → ChainGoes heap owner before first done last link →
      ChainGoes heap owner before first addrs end 0 → GoesOn done addrs last link end
  goes_on before first [] addrs last link end (b, l) goes = record {
    rest = addrs;
    whole = refl;
    goes =
        subst (λ (n : ℕ). ChainGoes heap owner last n addrs end 0) l (subst (λ (n : ℕ). ChainGoes heap owner n first addrs end 0) b goes);
  }
  goes_on before first (d ∷ done) [] last link end (is, some, member, named, more) (b, l) = absurd (some (sym is ∙ l))
  goes_on before first (d ∷ done) (a ∷ addrs) last link end (is, some, member, named, more) (is', some', member', named', more') =
      let same : a ≡ d = sym is' ∙ is in
      let g = goes_on d (next_of heap owner d) done addrs last link end more
      (subst (λ (n : ℕ). ChainGoes heap owner n (next_of heap owner n) addrs end 0) same more') in
      record { rest = g.rest; whole = (λ i. same i ∷ g.whole i); goes = g.goes }

  goes_none : (xs rest : List ℕ) (last end : ℕ) → ChainGoes heap owner last 0 rest end 0 → xs ++ rest ≡ xs
  goes_none xs [] last end goes = append-nil xs
  goes_none xs (a ∷ rest) last end (is, some, member, named, more) = absurd (some (sym is))

  -- two whole chains are the same
  pub goes_same : (before first : ℕ) (xs ys : List ℕ) (last end : ℕ) → ChainGoes heap owner before first xs last 0 →
      ChainGoes heap owner before first ys end 0 → ys ≡ xs
  goes_same before first xs ys last end x y =
      let g = goes_on before first xs ys last 0 end x y in
      g.whole ∙ goes_none xs g.rest last end g.goes
