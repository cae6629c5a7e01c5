-- When each block of a heap has its owner, and where this is wrong first.
use Rattle.std.specs.Prelude.{◌<◌, ◌^◌, ◌/◌, ◌⊎◌, ℕ, List, length}
use Rattle.std.specs.List.{All}
use Rattle.sdr_base.specs.declared.line.TheConstants.{WORD}
use Rattle.audit_owners.specs.Chains.{ChainsReach, IsWrongChain}
use Rattle.audit_owners.specs.Owners.{owners_of}
use Rattle.audit_owners.specs.Rules.{AreKept, IsBroken, owner_rules}
use Rattle.audit_owners.specs.View.{View, view_in}

-- each of these is a byte
abbrev pub AreBytes : List ℕ → Type 0
AreBytes bytes = All (λ byte. byte < 2 ^ 8) bytes

-- the chains of a heap of so many words are right, and then each block keeps all rules
pub record IsOwned (heap : View) (words : ℕ) : Type 0 where
  pub reached : List ℕ
  pub chains : ChainsReach heap (owners_of heap words) reached
  pub kept : AreKept heap reached owner_rules

-- the chains are right, and then a rule is broken first at this address
pub record BreaksRules (heap : View) (words addr : ℕ) : Type 0 where
  pub reached : List ℕ
  pub chains : ChainsReach heap (owners_of heap words) reached
  pub broken : IsBroken heap reached owner_rules addr

-- what is wrong first is so at this place: a chain, or else a rule
abbrev pub IsWrongOwner : View → ℕ → ℕ → Type 0
IsWrongOwner heap words place = IsWrongChain heap (owners_of heap words) place ⊎ BreaksRules heap words place

-- each block of a heap region has its owner
abbrev pub IsOwnedRegion : List ℕ → Type 0
IsOwnedRegion bytes = IsOwned (view_in bytes) (length bytes / WORD)

-- what is wrong first with the owners in a heap region is so at this place
abbrev pub IsWrongRegion : List ℕ → ℕ → Type 0
IsWrongRegion bytes place = IsWrongOwner (view_in bytes) (length bytes / WORD) place
