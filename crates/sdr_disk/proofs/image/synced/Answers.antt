-- The change before the count is a good sync.
use Rattle.std.proofs.Common.{arith}
use Rattle.sdr_disk.proofs.ImageLemmas.{SplitsAtSync-after}
use Rattle.sdr_disk.proofs.image.synced.Goals as goal

pub returns-else-not-is_good_sync : goal.returns-else-not-is_good_sync
returns-else-not-is_good_sync c =
    SplitsAtSync-after _ _ c.index-kept-count.result (omega (arith, c.loop-count-test.true))
    c.loop-count.invariant.within
    c.index-kept-count.is (grind arith) c.loop-count.invariant.since
