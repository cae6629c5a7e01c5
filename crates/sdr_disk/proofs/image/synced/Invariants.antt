-- No change from the count on is a good sync.
use Rattle.std.proofs.Common.{◌≡◌, ◌≤◌, false, length, drop}
use Rattle.std.specs.List.{AllByRecursion}
use Rattle.sdr_disk.specs.Image.{is_good_sync}
use Rattle.sdr_disk.proofs.image.synced.Given as goal

abbrev pub invariant-loop-count : goal.invariant-loop-count
invariant-loop-count l = record {
  within : l.count ≤ length l.kept;
  since : AllByRecursion (λ k. is_good_sync k.change ≡ false) (drop l.count l.kept);
}

abbrev pub decreases-loop-count : goal.decreases-loop-count
decreases-loop-count l = l.count
