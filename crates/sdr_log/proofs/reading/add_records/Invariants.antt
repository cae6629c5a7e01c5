use Rattle.std.proofs.Common.{◌≡◌, ◌≤◌, ◌-◌, ◌*◌, length}
use Rattle.sdr_log.specs.Log.{records_of}
use Rattle.sdr_log.specs.Reading.{noted}
use Rattle.sdr_log.proofs.reading.add_records.Given as goal

abbrev pub invariant-loop : goal.invariant-loop
invariant-loop l = record {
  inside : 68 * (l.count - l.counter) ≤ length l.rest;
  added : noted l.found (records_of (l.count - l.counter) l.rest) ≡ noted l.fn.found (records_of l.count l.bytes);
}
