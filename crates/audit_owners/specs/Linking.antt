-- Chains as the layouts of blocks link them.
use Rattle.std.specs.Prelude.{◌≡◌, ◌≢◌, ◌<◌, ◌^◌, ℕ, true, List, Some, map}
use Rattle.std.specs.List.{All}
use Rattle.sdr_base.specs.Blocks.{Block}
use Rattle.sdr_base.specs.Entries.{Entries}
use Rattle.sdr_base.specs.Linked.{first_of, last_of, linked}
use Rattle.audit_owners.specs.Chains.{ChainGoes, is_member, names_owner_at, next_of}
use Rattle.audit_owners.specs.Owners.{first_site, kind_in, names_owner, next_field, told_at}
use Rattle.audit_owners.specs.View.{View, is_kind, word_of}
use Rattle.audit_owners.specs.declared.owner.Owner.{Owner}

-- a block stands at its address, which isn't 0
pub record StandsAt (heap : View) (entry : ℕ × Block) : Type 0 where
  pub some : entry.0 ≢ 0
  pub is : heap.blocks entry.0 ≡ Some entry.1

-- each of these blocks stands at its address
abbrev pub AllStandAt : View → Entries → Type 0
AllStandAt heap entries = All (StandsAt heap) entries

-- The blocks of a layout fit the chain of an owner: each is of its kind, links to the next one, and names its owner and the one
-- before it.
pub record FitsChain {X : Type 0} (owner : Owner) (block : ℕ → ℕ → X → Block) : Type 0 where
  pub kind : (before next : ℕ) (x : X) → is_kind (kind_in owner) (Some (block before next x)) ≡ true
  pub next : (before next : ℕ) (x : X) → next < 2 ^ 64 → word_of (Some (block before next x)) (next_field owner) ≡ next
  pub names : (before next : ℕ) (x : X) → before < 2 ^ 64 → names_owner owner before (Some (block before next x)) ≡ true

-- each block of a chain is that of what is read of it
pub record ReadsBack {X : Type 0} (heap : View) (owner : Owner) (addr : X → ℕ) (block : ℕ → ℕ → X → Block) (read : ℕ → X) : Type 0 where
  pub at : (a : ℕ) → addr (read a) ≡ a
  pub is : (before a : ℕ) → is_member heap owner a ≡ true → names_owner_at heap owner before a ≡ true →
      heap.blocks a ≡ Some (block before (next_of heap owner a) (read a))

-- the chain of an owner, from the address of the first of these rows on, goes over just the blocks of the rows, and ends
abbrev pub GoesOver : {X : Type 0} → View → Owner → (X → ℕ) → List X → Type 0
GoesOver heap owner addr rows = ChainGoes heap owner 0 (first_of addr 0 rows) (map addr rows) (last_of addr 0 rows) 0

-- the addresses of these rows fit a word
abbrev pub AreSmall : {X : Type 0} → (X → ℕ) → List X → Type 0
AreSmall addr rows = All (λ row. addr row < 2 ^ 64) rows

-- what a chain goes over from a link behind a block, up to a last block, is kept by these rows, linked as a layout says
pub record AreRows {X : Type 0} (heap : View) (addr : X → ℕ) (block : ℕ → ℕ → X → Block) (before link : ℕ) (rows : List X) (last : ℕ) : Type 0 where
  pub stand : AllStandAt heap (linked addr block before 0 rows)
  pub first : link ≡ first_of addr 0 rows
  pub end : last ≡ last_of addr before rows

-- Where each block of an owner's chain is that of what is read of it, a right chain goes over just the blocks of the rows that are
-- read of it.
abbrev pub ChainsAreRows : {X : Type 0} → Owner → (X → ℕ) → (ℕ → ℕ → X → Block) → Type 0
ChainsAreRows {X} owner addr block =
    (heap : View) (read : ℕ → X) (addrs : List ℕ) (last : ℕ) → ReadsBack heap owner addr block read →
    ChainGoes heap owner 0 (told_at heap (first_site owner)) addrs last 0 →
    AreRows heap addr block 0 (told_at heap (first_site owner)) (map read addrs) last
