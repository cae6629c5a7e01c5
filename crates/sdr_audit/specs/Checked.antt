-- When a heap region passes the audit, where it is wrong first, and what an audit leaves.
use Rattle.std.specs.Prelude.{◌≡◌, ◌≤◌, ◌⊎◌, ℕ, List, ⊤, Result, Ok, Err}
use Rattle.sdr_stands.specs.Standing.{StandsForWhole}
use Rattle.sdr_base.specs.Pools.{Pools}
use Rattle.sdr_base.specs.Transaction.{HasReason, Transaction}
use Rattle.sdr_base.specs.declared.stop.Stop.TheVariants as stops
use Rattle.sdr_audit.specs.declared.error.AuditError.{AuditError}
use Rattle.sdr_audit.specs.declared.error.AuditError.TheVariants as errors
use Rattle.audit_counts.specs.Checked as count
use Rattle.sdr_model.specs.World.{World}
use Rattle.audit_owners.specs.Owned.{AreBytes}
use Rattle.audit_blocks.specs.Region as region
use Rattle.audit_blocks.specs.declared.error.Check.{Check}

-- A region passes each check: its structure is sound, and owners, counts and queues are right.
pub record IsRight (bytes : List ℕ) : Type 0 where
  pub bytes_are : AreBytes bytes
  pub sound : region.IsSoundRegion bytes
  pub things : count.IsRightRegion bytes

-- the structure is sound, and then owners, counts or queues are wrong
pub record ThingsAreFirst (bytes : List ℕ) (why : Check) (place : ℕ) : Type 0 where
  pub sound : region.IsSoundRegion bytes
  pub wrong : count.CountsAreWrongFirst bytes why place

-- by this check a region is wrong first, at this place: by one of its structure, or else by one of owners, counts and queues
abbrev pub IsWrongFirst : List ℕ → Check → ℕ → Type 0
IsWrongFirst bytes why place = region.RegionIsWrongFirst bytes why place ⊎ ThingsAreFirst bytes why place

-- what was found damaged is what is wrong first
abbrev pub TellsFirst : List ℕ → AuditError → Type 0
TellsFirst bytes (errors.Damaged place why) = IsWrongFirst bytes why place
TellsFirst bytes error = ⊤

-- the error is none of the disk's
abbrev pub IsNoFault : AuditError → Type 0
IsNoFault errors.DiskFault = ⊥
IsNoFault errors.Failed = ⊥
IsNoFault error = ⊤

-- for a region in which damage was found no world stands
abbrev pub IsNoWorld : List ℕ → AuditError → Type 0
IsNoWorld bytes (errors.Damaged place why) = (w : World) (P : Pools) → StandsForWhole bytes w P → ⊥
IsNoWorld bytes error = ⊤

-- nothing has failed that had not before
pub record HasStayed (old new : Transaction) : Type 0 where
  pub later : old.faults ≤ new.faults
  pub failed : new.failed ≡ old.failed

-- why an audit stopped, as cells tell it: what is damaged and want of memory are no faults
abbrev pub HasAuditReason : {T : Type 0} → Transaction → Transaction → Result T AuditError → Type 0
HasAuditReason old new (Ok value) = HasReason {T = Unit {0}} old new (Ok tt)
HasAuditReason old new (Err (errors.Damaged place why)) = HasReason {T = Unit {0}} old new (Ok tt)
HasAuditReason old new (Err errors.DiskFault) = HasReason {T = Unit {0}} old new (Err stops.DiskFault)
HasAuditReason old new (Err errors.Failed) = HasReason {T = Unit {0}} old new (Err stops.Failed)
HasAuditReason old new (Err errors.NoMemory) = HasStayed old new

-- An audit reads alone: the bytes stay, no line is touched, and a fault has its cause.
pub record OnlyReads {S T : Type 0} (bytes_of : S → List ℕ) (transaction : S → Transaction) (keeps : S → S → Type 0) (old new : S)
    (result : Result T AuditError) : Type 0 where
  pub bytes : bytes_of new ≡ bytes_of old
  pub touched : (transaction new).touched ≡ (transaction old).touched
  pub room : (transaction new).room ≡ (transaction old).room
  pub cause : HasAuditReason (transaction old) (transaction new) result
  pub quiet : keeps old new
