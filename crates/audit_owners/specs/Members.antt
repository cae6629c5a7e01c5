-- The blocks in the chain of an owner, one after another.
use Rattle.std.specs.Prelude.{◌≡◌, ◌==◌, ℕ, zero, suc, cond, List, [], ◌∷◌}
use Rattle.std.specs.List.{All}
use Rattle.audit_owners.specs.Chains.{Chain, first_link, next_of}
use Rattle.audit_owners.specs.View.{View}
use Rattle.audit_owners.specs.declared.owner.Owner.{Owner}

-- the blocks to which a link leads, and the links behind it, so many at most
abbrev pub followed : View → Owner → ℕ → ℕ → List ℕ
followed heap owner zero link = []
followed heap owner (suc most) link =
    cond (link == 0) [] (link ∷ followed heap owner most (next_of heap owner link))

-- the blocks in the chain of an owner, in a heap of so many words
abbrev pub members : View → ℕ → Owner → List ℕ
members heap words owner = followed heap owner words (first_link heap owner)

-- each of these chains goes over the blocks in the chain of its owner
abbrev pub AreMembers : View → ℕ → List Chain → Type 0
AreMembers heap words chains = All (λ (chain : Chain). chain.addrs ≡ members heap words chain.owner) chains
