-- Disks of which no image is told.
use Rattle.std.proofs.Common.{ℕ, ◌+◌, ◌≤◌, refl}
use Rattle.sdr_disk.specs.Moments.{Writes}

-- where each image may be left, a write is told by its moments
pub writes_untold : {D : Type 0} (moment : D → ℕ) (place count : ℕ) (old new : D) → moment old ≤ moment new →
    moment new ≤ moment old + 2 → Writes moment (λ d m image. Unit {0}) place count old new
writes_untold moment place count old new later soon = record {
  later = later;
  soon = soon;
  past = record { now_then = λ m image le left. tt; then_now = λ m image le left. tt };
  torn = λ m image gt le left. record {
    whole = image;
    left_before = tt;
    agrees = record { long = refl; same = λ i outside. refl };
  };
}
