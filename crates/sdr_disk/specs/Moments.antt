-- What a crash may leave of a disk at each moment, and how the disk's calls change it.
use Rattle.std.specs.Prelude.{◌≡◌, ℕ, ◌+◌, ◌-◌, ◌^◌, ◌<◌, ◌≤◌, ◌⊎◌, Bool, List, [], ◌∷◌}
use Rattle.sdr_disk.specs.Ranges.{Agrees, range}

-- a crash leaves these bytes and nothing else
abbrev pub Only : List ℕ → (List ℕ → Type 0) → Type 0
Only bytes left = (image : List ℕ) → left image → image ≡ bytes

-- up to a moment a crash may leave what it might have left before: all of that, and nothing else
pub record SamePast (before : ℕ) (old new : ℕ → List ℕ → Type 0) : Type 0 where
  pub now_then : (m : ℕ) (image : List ℕ) → m ≤ before → new m image → old m image
  pub then_now : (m : ℕ) (image : List ℕ) → m ≤ before → old m image → new m image

-- an image that might have been left, with any bytes in a range
pub record IsTorn (left : List ℕ → Type 0) (place count : ℕ) (image : List ℕ) : Type 0 where
  pub whole : List ℕ
  pub left_before : left whole
  pub agrees : Agrees (range place count ∷ []) whole image

-- after one moment and up to another, a crash leaves an image from the first with any bytes in a range
abbrev pub Tears : ℕ → ℕ → ℕ → ℕ → (ℕ → List ℕ → Type 0) → (ℕ → List ℕ → Type 0) → Type 0
Tears before now place count old new =
    (m : ℕ) (image : List ℕ) → before < m → m ≤ now → new m image → IsTorn (old before) place count image

-- after one moment and up to another, a crash leaves an image from the first
abbrev pub Waits : ℕ → ℕ → (ℕ → List ℕ → Type 0) → (ℕ → List ℕ → Type 0) → Type 0
Waits before now old new = (m : ℕ) (image : List ℕ) → before < m → m ≤ now → new m image → old before image

-- the moments of a call that writes so many bytes at a place, whether it succeeds or not
pub record Writes {D : Type 0} (moment : D → ℕ) (may_hold_after : D → ℕ → List ℕ → Type 0)
    (place count : ℕ) (old new : D) : Type 0 where
  pub later : moment old ≤ moment new
  pub soon : moment new ≤ moment old + 2
  pub past : SamePast (moment old) (may_hold_after old) (may_hold_after new)
  pub torn : Tears (moment old) (moment new) place count (may_hold_after old) (may_hold_after new)

-- the moments of a call that syncs, whether it succeeds or not
pub record Syncs {D : Type 0} (moment : D → ℕ) (may_hold_after : D → ℕ → List ℕ → Type 0)
    (old new : D) : Type 0 where
  pub later : moment old ≤ moment new
  pub soon : moment new ≤ moment old + 2
  pub past : SamePast (moment old) (may_hold_after old) (may_hold_after new)
  pub waits : Waits (moment old) (moment new) (may_hold_after old) (may_hold_after new)

-- nothing but reads went on: the bytes, the moment and what a crash may leave stay, and whether the disk tells that
pub record Reads {D : Type 0} (bytes : D → List ℕ) (tells_crashes : D → Bool) (moment : D → ℕ)
    (may_hold_after : D → ℕ → List ℕ → Type 0) (old new : D) : Type 0 where
  pub same : bytes new ≡ bytes old
  pub tells : tells_crashes new ≡ tells_crashes old
  pub time : moment new ≡ moment old
  pub past : SamePast (moment old) (may_hold_after old) (may_hold_after new)

-- a call that was made raised the moment by two, and one that was not made changed nothing
abbrev pub RisesOrStays : {D : Type 0} → (D → List ℕ) → (D → Bool) → (D → ℕ)
    → (D → ℕ → List ℕ → Type 0) → D → D → Type 0
RisesOrStays bytes tells moment may_hold_after old new =
    (moment new ≡ moment old + 2) ⊎ Reads bytes tells moment may_hold_after old new

-- one call more would bring the moment past its end
abbrev pub IsAtEnd : ℕ → Type 0
IsAtEnd moment = 2 ^ 64 - 1 < moment + 2

-- at each moment from old to new a crash leaves only what has P
pub record AtEach {D : Type 0} (moment : D → ℕ) (may_hold_after : D → ℕ → List ℕ → Type 0)
    (old new : D) (P : List ℕ → Type 0) : Type 0 where
  pub later : moment old ≤ moment new
  pub each : (m : ℕ) (image : List ℕ) → moment old ≤ m → m ≤ moment new → may_hold_after new m image → P image
  pub past : (m : ℕ) (image : List ℕ) → m ≤ moment old → may_hold_after new m image → may_hold_after old m image
