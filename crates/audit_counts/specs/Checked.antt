-- When owners, counts and queues in a heap region are right, and where they are wrong first.
use Rattle.std.specs.Prelude.{◌≡◌, ℕ, List, Some}
use Rattle.audit_counts.specs.Counted.{IsCountedRegion, wrong_count_in}
use Rattle.audit_counts.specs.Queues.{AreLawfulIn, IsWrongQueueIn}
use Rattle.audit_blocks.specs.declared.error.Check.{Check}
use Rattle.audit_blocks.specs.declared.error.Check.TheVariants as whys
use Rattle.audit_blocks.specs.declared.error.Damage.{Damage}
use Rattle.audit_owners.specs.Owned.{IsOwnedRegion, IsWrongRegion}

-- each block of a heap region has its owner, the counts and occupancies are right, and the queues keep their law
pub record IsRightRegion (bytes : List ℕ) : Type 0 where
  pub owned : IsOwnedRegion bytes
  pub counted : IsCountedRegion bytes
  pub queued : AreLawfulIn bytes

-- the owners are right, and then a count is wrong
pub record CountIsFirst (bytes : List ℕ) (place : ℕ) : Type 0 where
  pub owned : IsOwnedRegion bytes
  pub wrong : wrong_count_in bytes ≡ Some place

-- the counts are right too, and then a queue is wrong
pub record QueueIsFirst (bytes : List ℕ) (place : ℕ) : Type 0 where
  pub owned : IsOwnedRegion bytes
  pub counted : IsCountedRegion bytes
  pub wrong : IsWrongQueueIn bytes place

-- by this check owners, counts or queues of a region are wrong first, at this place; its structure is none of them
abbrev pub CountsAreWrongFirst : List ℕ → Check → ℕ → Type 0
CountsAreWrongFirst bytes whys.Owner place = IsWrongRegion bytes place
CountsAreWrongFirst bytes whys.Count place = CountIsFirst bytes place
CountsAreWrongFirst bytes whys.Queue place = QueueIsFirst bytes place
CountsAreWrongFirst bytes why place = ⊥

-- what was found damaged is what is wrong first
abbrev pub TellsFirst : List ℕ → Damage → Type 0
TellsFirst bytes damage = CountsAreWrongFirst bytes damage.why damage.place
