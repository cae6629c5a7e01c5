-- Which calls leave the lines touched as they were when they are refused.
use Rattle.std.proofs.Common.{◌≡◌, ◌∙◌, ℕ}
use Rattle.std.specs.Prelude.{Option, Some, None, Result, Ok, Err, IfErr}
use Rattle.sdr_base.specs.Objects.{Heap, OnlyFault, OnlyFull, OnlyShort, OnlyUnmoved}
use Rattle.sdr_base.specs.Transaction.{LeavesTouched, LeavesUnlessFull, NoneLeaves, Transaction}
use Rattle.sdr_base.specs.Wanting.{OnlyWanting}
use Rattle.sdr_base.specs.declared.refusal.Refusal.TheVariants.{LogFull, NoBlock}
use Rattle.sdr_base.specs.declared.stop.Stop.{Stop}
use Rattle.sdr_base.specs.declared.stop.Stop.TheVariants.{Refused, DiskFault, MediaFault, Failed}

-- a call that stops by a fault alone
pub fault_wants : (stop : Stop) → OnlyFault stop → OnlyWanting stop
fault_wants (Refused refusal) only = absurd only
fault_wants DiskFault only = tt
fault_wants MediaFault only = only
fault_wants Failed only = tt

-- or for want of log room
pub unmoved_wants : (old new : Heap) (stop : Stop) → OnlyUnmoved old new stop → OnlyWanting stop
unmoved_wants old new (Refused (LogFull lines room)) only = tt
unmoved_wants old new (Refused refusal) only = absurd only
unmoved_wants old new DiskFault only = tt
unmoved_wants old new MediaFault only = only
unmoved_wants old new Failed only = tt

-- or of a block
pub short_wants : (need : ℕ) (old new : Heap) (stop : Stop) → OnlyShort need old new stop → OnlyWanting stop
short_wants need old new (Refused (NoBlock missing)) only = tt
short_wants need old new (Refused (LogFull lines room)) only = tt
short_wants need old new (Refused refusal) only = absurd only
short_wants need old new DiskFault only = tt
short_wants need old new MediaFault only = only
short_wants need old new Failed only = tt

-- the same, of a call's whole result
pub fault_result_wants : {T : Type 0} (r : Result T Stop) → IfErr r OnlyFault → IfErr r OnlyWanting
fault_result_wants (Ok value) only = tt
fault_result_wants (Err stop) only = fault_wants stop only

pub unmoved_result_wants : {T : Type 0} (old new : Heap) (r : Result T Stop) → IfErr r (OnlyUnmoved old new) → IfErr r OnlyWanting
unmoved_result_wants old new (Ok value) only = tt
unmoved_result_wants old new (Err stop) only = unmoved_wants old new stop only

pub short_result_wants : {T : Type 0} (need : ℕ) (old new : Heap) (r : Result T Stop) → IfErr r (OnlyShort need old new) →
    IfErr r OnlyWanting
short_result_wants need old new (Ok value) only = tt
short_result_wants need old new (Err stop) only = short_wants need old new stop only

pub ruleset wanting = (fault_wants, unmoved_wants, short_wants, fault_result_wants, unmoved_result_wants, short_result_wants)

module _ (a b : Transaction) where
  -- a call that stops for want alone
  pub wanting_leaves : (stop : Stop) → OnlyWanting stop → LeavesTouched a b stop
  wanting_leaves (Refused (NoBlock need)) only = tt
  wanting_leaves (Refused (LogFull lines room)) only = tt
  wanting_leaves (Refused refusal) only = absurd only
  wanting_leaves DiskFault only = tt
  wanting_leaves MediaFault only = tt
  wanting_leaves Failed only = tt

  pub wanting_result : {T : Type 0} (r : Result T Stop) → IfErr r OnlyWanting → IfErr r (LeavesTouched a b)
  wanting_result (Ok value) only = tt
  wanting_result (Err stop) only = wanting_leaves stop only

  -- a call that stops by a fault alone
  pub fault_leaves : (stop : Stop) → OnlyFault stop → LeavesTouched a b stop
  fault_leaves (Refused refusal) only = absurd only
  fault_leaves DiskFault only = tt
  fault_leaves MediaFault only = tt
  fault_leaves Failed only = tt

  -- or for want of log room
  pub unmoved_leaves : (old new : Heap) (stop : Stop) → OnlyUnmoved old new stop → LeavesTouched a b stop
  unmoved_leaves old new (Refused (LogFull lines room)) only = tt
  unmoved_leaves old new (Refused refusal) only = absurd only
  unmoved_leaves old new DiskFault only = tt
  unmoved_leaves old new MediaFault only = tt
  unmoved_leaves old new Failed only = tt

  -- or of a block
  pub short_leaves : (need : ℕ) (old new : Heap) (stop : Stop) → OnlyShort need old new stop → LeavesTouched a b stop
  short_leaves need old new (Refused (NoBlock missing)) only = tt
  short_leaves need old new (Refused (LogFull lines room)) only = tt
  short_leaves need old new (Refused refusal) only = absurd only
  short_leaves need old new DiskFault only = tt
  short_leaves need old new MediaFault only = tt
  short_leaves need old new Failed only = tt

  -- a pool's call stops for want of log room or by a fault alone
  pub full_leaves : (stop : Stop) → OnlyFull stop → LeavesUnlessFull a b stop
  full_leaves (Refused (LogFull lines room)) only = tt
  full_leaves (Refused refusal) only = absurd only
  full_leaves DiskFault only = tt
  full_leaves MediaFault only = tt
  full_leaves Failed only = tt

  -- a call that touched no line more, whatever it answers
  pub same_leaves : (stop : Stop) → b.touched ≡ a.touched → LeavesTouched a b stop
  same_leaves (Refused (NoBlock need)) same = tt
  same_leaves (Refused (LogFull lines room)) same = tt
  same_leaves (Refused refusal) same = same
  same_leaves DiskFault same = tt
  same_leaves MediaFault same = tt
  same_leaves Failed same = tt

  -- the same, of a call's whole result
  pub fault_result : {T : Type 0} (r : Result T Stop) → IfErr r OnlyFault → IfErr r (LeavesTouched a b)
  fault_result (Ok value) only = tt
  fault_result (Err stop) only = fault_leaves stop only

  pub unmoved_result : {T : Type 0} (old new : Heap) (r : Result T Stop) → IfErr r (OnlyUnmoved old new) → IfErr r (LeavesTouched a b)
  unmoved_result old new (Ok value) only = tt
  unmoved_result old new (Err stop) only = unmoved_leaves old new stop only

  pub short_result : {T : Type 0} (need : ℕ) (old new : Heap) (r : Result T Stop) → IfErr r (OnlyShort need old new) →
      IfErr r (LeavesTouched a b)
  short_result need old new (Ok value) only = tt
  short_result need old new (Err stop) only = short_leaves need old new stop only

-- a call behind one that touched no line more
pub leaves_then : (a b c : Transaction) (stop : Stop) → b.touched ≡ a.touched → LeavesTouched b c stop → LeavesTouched a c stop
leaves_then a b c (Refused (NoBlock need)) same left = left
leaves_then a b c (Refused (LogFull lines room)) same left = left
leaves_then a b c (Refused refusal) same left = left ∙ same
leaves_then a b c DiskFault same left = left
leaves_then a b c MediaFault same left = left
leaves_then a b c Failed same left = left

-- the same, of a call's whole result
pub leaves_behind : {T : Type 0} (a b c : Transaction) (r : Result T Stop) → b.touched ≡ a.touched → IfErr r (LeavesTouched b c) →
    IfErr r (LeavesTouched a c)
leaves_behind a b c (Ok value) same left = tt
leaves_behind a b c (Err stop) same left = leaves_then a b c stop same left

-- a pool's call behind one that touched no line more
pub none_behind : {A : Type 0} (a b c : Transaction) (r : Result (Option A) Stop) → b.touched ≡ a.touched → NoneLeaves b c r →
    NoneLeaves a c r
none_behind a b c (Ok None) same left = left ∙ same
none_behind a b c (Ok (Some block)) same left = left
none_behind a b c (Err stop) same left = left

pub ruleset leaving = (
  wanting_leaves,
  wanting_result,
  fault_leaves,
  unmoved_leaves,
  short_leaves,
  same_leaves,
  fault_result,
  unmoved_result,
  short_result,
  leaves_then,
  leaves_behind,
)
