-- What a disk in memory keeps of its changes, to undo them.
use Rattle.std.specs.Prelude.{◌≡◌, ◌+◌, ◌≤◌, ⊤, List, [], ◌∷◌, ℕ, length, map}
use Rattle.sdr_disk.specs.History.{History, State, after, after_all, start}
use Rattle.sdr_base.specs.Parts.{overwrite, part}
use Rattle.sdr_disk.specs.declared.change.Change.{Change}
use Rattle.sdr_disk.specs.declared.change.Change.TheVariants.{Write, Sync}
use Rattle.sdr_disk.specs.declared.change.KeptChange.{KeptChange}

-- the changes that are kept
abbrev pub changes_of : List KeptChange → List Change
changes_of kept = map (λ k. k.change) kept

-- the bytes before a change, from what stood where it wrote and the bytes after it
abbrev pub undone : Change → List ℕ → List ℕ → List ℕ
undone (Write place from outcome) before now = overwrite place before now
undone (Sync outcome) before now = now

-- the bytes before these changes, from those after them
abbrev pub undone_all : List KeptChange → List ℕ → List ℕ
undone_all [] now = now
undone_all (k ∷ later) now = undone k.change k.before (undone_all later now)

-- the first bytes and the changes, from what is kept and the bytes now
abbrev pub history_of : List KeptChange → List ℕ → History
history_of kept now = record { first = undone_all kept now; changes = changes_of kept }

-- a change wrote inside these bytes, and what stood there is kept
abbrev pub Replaces : Change → List ℕ → List ℕ → Type 0
Replaces (Write place from outcome) before read =
    (place + length from ≤ length read) × (before ≡ part place (length from) read)
Replaces (Sync outcome) before read = ⊤

-- so did each change from this state on
abbrev pub AllReplace : State → List KeptChange → Type 0
AllReplace s [] = ⊤
AllReplace s (k ∷ later) = Replaces k.change k.before s.read × AllReplace (after s k.change) later

-- the changes lead from the first bytes to those now, and back
pub record LeadsBytes (first : List ℕ) (kept : List KeptChange) (now : List ℕ) : Type 0 where
  pub forth : (after_all (start first) (changes_of kept)).read ≡ now
  pub back : undone_all kept now ≡ first
  pub each : AllReplace (start first) kept
