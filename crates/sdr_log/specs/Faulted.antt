-- What a recovery in which the disk failed leaves of it.
use Rattle.std.specs.Prelude.{◌<◌, ◌+◌, ◌*◌, ◌⊎◌, ℕ, Bool, List, [], ◌∷◌, length}
use Rattle.sdr_base.specs.declared.line.TheConstants.{LINE}
use Rattle.sdr_disk.specs.Ranges.{Agrees, range}
use Rattle.sdr_disk.specs.Tells.{IfTells}
use Rattle.sdr_log.specs.Calls.{MayPutBack, with_records}
use Rattle.sdr_log.specs.Log.{first_gate}
use Rattle.sdr_log.specs.Logged.{Logs}
use Rattle.sdr_log.specs.declared.frame.Frame.{Frame}
use Rattle.sdr_log.specs.declared.record.Record.{Record}

-- bytes are pending at the first gate alone: a read and a crash give the first bytes, but for that gate
pub record PendsAtGate (z y : List ℕ) (left : List ℕ → Type 0) : Type 0 where
  pub read : Agrees (range LINE 1 ∷ []) z y
  pub pending : (image : List ℕ) → left image → Agrees (range LINE 1 ∷ []) z image

-- The disk failed as its recovery closed the first gate. Batches were open; a write for each of their lines and a sync had been made, so
-- the lines are put back and synced; and bytes are pending at the first gate alone.
pub record FailsAtGate {D : Type 0} (moment : D → ℕ) (may_hold_after : D → ℕ → List ℕ → Type 0) (old new : D) (x y : List ℕ) : Type 0
  where
    pub frame : Frame
    pub records : List Record
    pub logs : Logs frame x records
    pub opened : 0 < first_gate x
    pub late : moment old + 2 * (length records + 1) < moment new
    pub gate : PendsAtGate (with_records frame records x) y (may_hold_after new (moment new))

-- a disk that might be put back may be put back again, or it failed as its recovery closed the first gate
abbrev pub FailsBack : {D : Type 0} → Frame → (D → List ℕ) → (D → Bool) → (D → ℕ) → (D → ℕ → List ℕ → Type 0) → D → D
    → Type 0
FailsBack f bytes tells moment may_hold_after old new =
    IfTells (tells old) (MayPutBack f (bytes old) (may_hold_after old (moment old))
    → MayPutBack f (bytes new) (may_hold_after new (moment new))
    ⊎ FailsAtGate moment may_hold_after old new (bytes old) (bytes new))
