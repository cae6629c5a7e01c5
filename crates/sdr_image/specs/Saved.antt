-- What a commit leaves on the disk.
use Rattle.std.specs.Prelude.{◌≡◌, ◌≢◌, ◌+◌, ℕ, zero, suc, Bool, List, [], Some}
use Rattle.sdr_log.specs.Log.{first_gate, put_back_of}
use Rattle.sdr_image.specs.Changed.{HasChanged}
use Rattle.sdr_image.specs.Opened.{Opened, Rests}

-- Opening the disk gives the bytes now. Where a line was touched, the disk rests; and where no batch was open before, the
-- touched lines were changed on it in one batch.
pub record Saves {D : Type 0} (bytes : D → List ℕ) (tells : D → Bool) (moment : D → ℕ)
    (may_hold_after : D → ℕ → List ℕ → Type 0) (old new : Opened D) : Type 0 where
  pub back : put_back_of (bytes new.disk) ≡ Some old.bytes
  pub written : first_gate (bytes old.disk) ≡ 0 → old.touched ≢ [] →
      HasChanged old.frame old.begun old.bytes old.touched (bytes old.disk) (bytes new.disk)
  pub rests : old.touched ≢ [] → Rests bytes tells moment may_hold_after new

-- how many writes and syncs the end of a transaction that touched so many lines makes at most: one for each and seven
-- more, none without a line
abbrev pub calls_of : ℕ → ℕ
calls_of zero = 0
calls_of (suc lines) = suc lines + 7
