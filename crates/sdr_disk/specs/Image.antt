-- How the image of a crash is made from the bytes now and the changes that are kept.
use Rattle.std.specs.Prelude.{◌≡◌, ◌+◌, ◌≤◌, ⊤, Bool, true, false, List, [], ◌∷◌, ℕ, length, take, drop}
use Rattle.std.specs.List.{AllByRecursion}
use Rattle.sdr_disk.specs.History.{State, after_all, start, tear}
use Rattle.sdr_disk.specs.Kept.{changes_of}
use Rattle.sdr_disk.specs.declared.change.Change.{Change}
use Rattle.sdr_disk.specs.declared.change.Change.TheVariants.{Write, Sync}
use Rattle.sdr_disk.specs.declared.change.KeptChange.{KeptChange}
use Rattle.sdr_disk.specs.declared.change.Outcome.TheVariants.{Done, Failed}
use Rattle.sdr_disk.specs.declared.torn.Torn.{Torn}

-- a change wrote inside so many bytes, and as many are kept as it wrote
abbrev pub Fits : ℕ → Change → List ℕ → Type 0
Fits size (Write place from outcome) before = (place + length from ≤ size) × (length before ≡ length from)
Fits size (Sync outcome) before = ⊤

-- so did each of these changes
abbrev pub AllFit : ℕ → List KeptChange → Type 0
AllFit size kept = AllByRecursion (λ k. Fits size k.change k.before) kept

-- an image after a change of which a crash left this much
abbrev pub tear_change : Torn → Change → List ℕ → List ℕ
tear_change torn (Write place from outcome) image = tear torn (record { place = place; bytes = from }) image
tear_change torn (Sync outcome) image = image

-- an image after these changes, in order
abbrev pub tear_changes : Torn → List Change → List ℕ → List ℕ
tear_changes torn [] image = image
tear_changes torn (change ∷ later) image = tear_changes torn later (tear_change torn change image)

-- whether a change is a sync that was done
abbrev pub is_good_sync : Change → Bool
is_good_sync (Write place from outcome) = false
is_good_sync (Sync Done) = true
is_good_sync (Sync Failed) = false

-- a read gives what it gave at the last good sync, and nothing was written since
pub record IsSettled (s : State) : Type 0 where
  pub read : s.read ≡ s.synced
  pub written : s.written ≡ []

-- these changes are some up to a good sync, or none, and then some without
pub record SplitsAtSync (kept : List KeptChange) (count : ℕ) : Type 0 where
  pub within : count ≤ length kept
  pub settled : (first : List ℕ) → IsSettled (after_all (start first) (changes_of (take count kept)))
  pub since : AllByRecursion (λ k. is_good_sync k.change ≡ false) (drop count kept)
