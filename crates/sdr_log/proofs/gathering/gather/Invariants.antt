use Rattle.std.proofs.Common.{◌≡◌, ◌+◌, ◌*◌, ◌++◌, length, take}
use Rattle.std.specs.Prelude.{flat_map}
use Rattle.sdr_log.specs.Batch.{encoded}
use Rattle.sdr_log.specs.Frame.{four}
use Rattle.sdr_log.specs.Log.{AreLines}
use Rattle.sdr_log.proofs.gathering.gather.Given as goal

abbrev pub invariant-loop-old : goal.invariant-loop-old
invariant-loop-old l = record {
  place : l.place ≡ 4 + 68 * l.old-index;
  put : take l.place l.buffer ≡ four (length l.records) ++ flat_map encoded (take l.old-index l.records);
  lines : AreLines (take l.old-index l.records);
}
