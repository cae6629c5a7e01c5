-- The bytes so far are summed.
use Rattle.std.proofs.Common.{◌≡◌, ◌<◌, take}
use Rattle.sdr_model.specs.HashSteps.{bucket_of}
use Rattle.audit_owners.proofs.entries.bucket_of.Given as goal

abbrev pub invariant-loop-byte : goal.invariant-loop-byte
invariant-loop-byte l = record {
  summed : l.bucket ≡ bucket_of l.buckets (take l.byte-index l.key);
  below : l.bucket < l.buckets;
}
