-- The buckets so far are right, and their entries are counted.
use Rattle.std.proofs.Common.{◌≡◌, ◌-◌, ◌/◌, ◌^◌, length, min, sum_by, true}
use Rattle.std.specs.List.{list_all, range_with_len}
use Rattle.sdr_base.specs.declared.line.TheConstants.{WORD}
use Rattle.audit_owners.specs.Entries.{bucket, keeps_bucket}
use Rattle.audit_owners.specs.View.{view_in}
use Rattle.audit_owners.proofs.entries.keeps_entries.Given as goal

abbrev pub invariant-loop-number : goal.invariant-loop-number
invariant-loop-number l = record {
  right : list_all (keeps_bucket (view_in l.heap) (length l.heap / WORD) l.addr) (range_with_len 0 l.number) ≡ true;
  counted :
      l.entries
      ≡ min (sum_by (λ number. length (bucket (view_in l.heap) (length l.heap / WORD) l.addr number)) (range_with_len 0 l.number)) (2 ^ 64 - 1);
}
