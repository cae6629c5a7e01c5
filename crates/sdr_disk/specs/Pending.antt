-- What is pending on a disk.
use Rattle.std.specs.Prelude.{ℕ, Bool, List}
use Rattle.sdr_disk.specs.Moments.{Only}
use Rattle.sdr_disk.specs.Tells.{IfTells}

-- nothing is pending, where the disk tells what a crash may leave: one now leaves just what a read gives
abbrev pub IsSynced : {D : Type 0} → (D → List ℕ) → (D → Bool) → (D → ℕ) → (D → ℕ → List ℕ → Type 0) → D → Type 0
IsSynced bytes tells moment may_hold_after disk =
    IfTells (tells disk) (Only (bytes disk) (may_hold_after disk (moment disk)))
