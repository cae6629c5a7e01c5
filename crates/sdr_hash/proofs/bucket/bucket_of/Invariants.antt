-- The bytes so far are summed.
use Rattle.std.proofs.Common.{◌≡◌, ◌<◌, take}
use Rattle.sdr_hash.specs.Buckets.{bucket_of}
use Rattle.sdr_hash.proofs.bucket.bucket_of.Given as goal

abbrev pub invariant-loop-byte : goal.invariant-loop-byte
invariant-loop-byte l = record {
  summed : l.bucket ≡ bucket_of l.buckets (take l.byte-index l.key);
  below : l.bucket < l.buckets;
}
