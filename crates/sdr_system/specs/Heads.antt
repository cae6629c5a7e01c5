-- What the first bytes of a disk tell.
use Rattle.std.specs.Prelude.{◌≡◌, ◌<◌, ◌≤◌, ◌⊎◌, ℕ, List, Some, None, true, false, codes, length, nat_eq, take, ⊤}
use Rattle.std.specs.List.{starts_with}
use Rattle.sdr_log.specs.Frame.{frame_of}
use Rattle.sdr_log.specs.declared.frame.Frame.{Frame}
use Rattle.sdr_system.specs.declared.heads.Head.{Head}
use Rattle.sdr_system.specs.declared.heads.Head.TheVariants as heads

-- what a line of 64 bytes is as a head: something else, or what begins as a head and isn't one, or a head
abbrev pub TellsIn : List ℕ → Head → Type 0
TellsIn line heads.None = starts_with nat_eq line (codes "SDRHEAP1") ≡ false
TellsIn line heads.Wrong = (starts_with nat_eq line (codes "SDRHEAP1") ≡ true) × (frame_of line ≡ None)
TellsIn line (heads.Whole frame) = frame_of line ≡ Some frame

-- what holds of the regions where it is a head
abbrev pub OnWhole : Head → (Frame → Type 0) → Type 0
OnWhole (heads.Whole frame) P = P frame
OnWhole head P = ⊤

-- what the bytes of a disk have where a heap has its head: their first 64 bytes, where there are so many
abbrev pub Tells : List ℕ → Head → Type 0
Tells bytes heads.None = starts_with nat_eq (take 64 bytes) (codes "SDRHEAP1") ≡ false
Tells bytes heads.Wrong =
    (starts_with nat_eq (take 64 bytes) (codes "SDRHEAP1") ≡ true)
    × ((length bytes < 64) ⊎ (frame_of (take 64 bytes) ≡ None))
Tells bytes (heads.Whole frame) = (64 ≤ length bytes) × (frame_of (take 64 bytes) ≡ Some frame)
