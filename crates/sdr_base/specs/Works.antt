-- What each call on the blocks of a heap keeps, beside what it is for.
use Rattle.std.specs.Prelude.{◌≡◌, ℕ, Result}
use Rattle.sdr_base.specs.Moves.{KeepsSome}
use Rattle.sdr_base.specs.Objects.{Settled}
use Rattle.sdr_base.specs.Transaction.{HasReason, TouchesAtMost}
use Rattle.sdr_base.specs.declared.has_heap.HasHeap.{Ghosts}
use Rattle.sdr_base.specs.declared.stop.Stop.{Stop}

-- from whatever state the moves led to the one before, they lead to the one after: so calls may follow one another
abbrev pub LeadsOn : {S : Type 0} → Ghosts S → S → S → Type 0
LeadsOn m old new = (begin : _) → m.moved begin old → m.moved begin new

-- what was kept of the disk below since any state before is kept still
abbrev pub StaysQuiet : {S : Type 0} → Ghosts S → S → S → Type 0
StaysQuiet m old new = (begin : _) → m.quiet begin old → m.quiet begin new

-- the call touches so many lines more at most, and each of its answers has its cause; unless it was stopped for want of
-- log room or by a fault, there is a heap still, and its moves fit the pools
pub record Spends {S T : Type 0} (m : Ghosts S) (lines : ℕ) (old new : S) (result : Result T Stop) : Type 0 where
  pub kept : Settled result (KeepsSome (m.keeps new))
  pub moved : Settled result (LeadsOn m old new)
  pub room : TouchesAtMost lines (m.transaction old) (m.transaction new) result
  pub cause : HasReason (m.transaction old) (m.transaction new) result
  pub quiet : StaysQuiet m old new

-- the call only reads: the heap and the lines touched stay, and each answer has its cause
pub record Looks {S T : Type 0} (m : Ghosts S) (old new : S) (result : Result T Stop) : Type 0 where
  pub same : m.heap new ≡ m.heap old
  pub kept : KeepsSome (m.keeps new)
  pub moved : LeadsOn m old new
  pub touched : (m.transaction new).touched ≡ (m.transaction old).touched
  pub room : TouchesAtMost 0 (m.transaction old) (m.transaction new) result
  pub cause : HasReason (m.transaction old) (m.transaction new) result
  pub quiet : StaysQuiet m old new
