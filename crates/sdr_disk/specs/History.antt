-- The writes and syncs of a disk in memory, and what a crash then may leave.
use Rattle.std.specs.Prelude.{◌≡◌, ℕ, zero, suc, ◌*◌, List, [], ◌∷◌, ◌++◌, map, length, slice_index, replicate}
use Rattle.sdr_base.specs.Parts.{overwrite}
use Rattle.sdr_disk.specs.Ranges.{IsInNone, Range, range}
use Rattle.sdr_disk.specs.declared.change.Change.{Change}
use Rattle.sdr_disk.specs.declared.change.Change.TheVariants.{Write, Sync}
use Rattle.sdr_disk.specs.declared.change.Outcome.{Outcome}
use Rattle.sdr_disk.specs.declared.change.Outcome.TheVariants.{Done, Failed}
use Rattle.sdr_disk.specs.declared.torn.Torn.{Torn}
use Rattle.sdr_disk.specs.declared.torn.Torn.TheVariants.{Old, New, Filled}

-- the bytes that a disk began with, and the writes and syncs that were made, in order
pub record History : Type 0 where
  pub first : List ℕ
  pub changes : List Change

-- one change more
abbrev pub with_change : Change → History → History
with_change change h = record { first = h.first; changes = h.changes ++ change ∷ [] }

-- bytes that were written at a place
pub record Written : Type 0 where
  pub place : ℕ
  pub bytes : List ℕ

-- what a read gives, what a read gave at the last good sync, and what was written since, the newest first
pub record State : Type 0 where
  pub read : List ℕ
  pub synced : List ℕ
  pub written : List Written

-- the state before the first change
abbrev pub start : List ℕ → State
start first = record { read = first; synced = first; written = [] }

-- what a read gives after a write: one that failed gives nothing to read
abbrev pub written_over : Outcome → ℕ → List ℕ → List ℕ → List ℕ
written_over Done place from read = overwrite place from read
written_over Failed place from read = read

-- the state while a change runs
abbrev pub during : State → Change → State
during s (Write place from outcome) = record s { written = record { place = place; bytes = from } ∷ s.written }
during s (Sync outcome) = s

-- the state after a change
abbrev pub after : State → Change → State
after s (Write place from outcome) = record {
  read = written_over outcome place from s.read;
  synced = s.synced;
  written = record { place = place; bytes = from } ∷ s.written;
}
after s (Sync Done) = record { read = s.read; synced = s.read; written = [] }
after s (Sync Failed) = s

-- the state after some changes
abbrev pub after_all : State → List Change → State
after_all s [] = s
after_all s (change ∷ changes) = after_all (after s change) changes

-- the state at a moment: a change takes two moments, its begin and its return
abbrev pub state_at : State → List Change → ℕ → State
state_at s [] m = s
state_at s (change ∷ changes) zero = s
state_at s (change ∷ changes) (suc zero) = during s change
state_at s (change ∷ changes) (suc (suc m)) = state_at (after s change) changes m

-- the bytes that a read gives
abbrev pub bytes_read : History → List ℕ
bytes_read h = (after_all (start h.first) h.changes).read

-- the moment now
abbrev pub moment_of : History → ℕ
moment_of h = 2 * length h.changes

-- the ranges of what was written
abbrev pub ranges_of : List Written → List Range
ranges_of written = map (λ w. range w.place (length w.bytes)) written

-- an image that a crash may leave of so many bytes: as read outside the ranges written since the last good sync
pub record Leaves (size : ℕ) (s : State) (image : List ℕ) : Type 0 where
  pub long : length image ≡ size
  pub same : (i : ℕ) → IsInNone (ranges_of s.written) i → slice_index image i ≡ slice_index s.read i

-- a crash at a moment may leave this image
abbrev pub MayLeave : History → ℕ → List ℕ → Type 0
MayLeave h m image = Leaves (length (bytes_read h)) (state_at (start h.first) h.changes m) image

-- an image after a write of which a crash left this much
abbrev pub tear : Torn → Written → List ℕ → List ℕ
tear Old w image = image
tear New w image = overwrite w.place w.bytes image
tear (Filled byte) w image = overwrite w.place (replicate (length w.bytes) byte) image

-- an image after all of these writes, the newest first
abbrev pub tear_all : Torn → List Written → List ℕ → List ℕ
tear_all torn [] image = image
tear_all torn (newest ∷ older) image = tear torn newest (tear_all torn older image)

-- the image of a crash that leaves this much of each write since the last good sync
abbrev pub image_of : Torn → History → ℕ → List ℕ
image_of torn h m = let s = state_at (start h.first) h.changes m in tear_all torn s.written s.synced
