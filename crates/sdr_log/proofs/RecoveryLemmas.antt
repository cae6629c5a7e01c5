-- A disk that is read to be put back.
use Rattle.std.proofs.Common.{◌≡◌, ◌<◌, ℕ, ◌*◌, Bool, true, false, List, ◌++◌}
use Rattle.std.proofs.Common.{length, take, drop, refl, sym, ap, ◌∙◌, arith, Some, None, length-take, length-drop}
use Rattle.std.proofs.Common.{cond}
use Rattle.std.specs.Prelude.{Option, option_and_then, if◌then◌else◌}
use Rattle.std.proofs.lemmas.Bool.{le-leb}
use Rattle.std.proofs.lemmas.List.{take_at}
use Rattle.std.proofs.lemmas.Option.{none-some, same_Some}
use Rattle.sdr_base.specs.Parts.{part}
use Rattle.sdr_base.proofs.PartsLemmas.{length-part}
use Rattle.sdr_log.specs.Frame.{disk_bytes, frame_of}
use Rattle.sdr_log.specs.Calls.{GivesNone, IsFramed}
use Rattle.sdr_log.specs.Log.{are_good, batches_of, heap_of, log_of, put_back_in, put_back_of, put_records, read_log}
use Rattle.sdr_log.specs.Logged.{HasRegions, Logs}
use Rattle.sdr_log.specs.Reading.{good_records, if_good}
use Rattle.sdr_log.specs.declared.frame.Frame.{Frame}
use Rattle.sdr_log.specs.declared.record.Record.{Record}
use Rattle.sdr_log.proofs.FrameLemmas.{frame_of-short}
use Rattle.sdr_log.proofs.LogLemmas.{put_back_of-headless}

-- what was read of the head is what it tells
pub frame_of-read : (head x : List ℕ) (found : Option Frame) → head ≡ part 0 (length head) x → length head ≡ 64 →
    found ≡ frame_of head → frame_of (part 0 64 x) ≡ found
frame_of-read head x found read long is =
    ap frame_of (sym (read ∙ ap (λ (n : ℕ). part 0 n x) long)) ∙ sym is

-- a disk of fewer bytes than a head has gives no heap
pub put_back_of-tiny : (x : List ℕ) → length x < 64 → put_back_of x ≡ None
put_back_of-tiny x tiny =
    put_back_of-headless x (frame_of-short (part 0 64 x)
    (omega (arith, tiny, length-take 64 (drop 0 x), length-drop 0 x)))

-- a disk with the head of these regions, and room for them, has them
pub HasRegions-framed : (f : Frame) (x : List ℕ) → IsFramed x f → HasRegions f x
HasRegions-framed f x framed = record { head = framed.head; inside = framed.fits }

length-log_of : (f : Frame) (x : List ℕ) → HasRegions f x → length (log_of f x) ≡ 64 * f.log_lines
unfolding log_of
length-log_of f x r = length-part 64 (64 * f.log_lines) x (omega (arith, r.inside))

-- the log region, read into a vector
pub log_of-read : (f : Frame) (len : ℕ) (new old x region : List ℕ) → len ≡ 64 * f.log_lines → length new ≡ len →
    new ≡ part 64 (length new) x → region ≡ take len (new ++ drop (length new) old) → region ≡ log_of f x
unfolding log_of
log_of-read f len new old x region many long read is =
    is ∙ take_at new (drop (length new) old) len long ∙ read ∙ ap (λ (n : ℕ). part 64 n x) (long ∙ many)

-- where there are no good records, it gives no heap of its regions
pub GivesNone-log : (f : Frame) (x : List ℕ) → HasRegions f x → good_records f.heap_lines (log_of f x) ≡ None →
    GivesNone f x
unfolding put_back_of put_back_in read_log
GivesNone-log f x r wrong head =
    rw (head, le-leb (disk_bytes f) (length x) r.inside, ← length-log_of f x r)
    (by_log (batches_of (length (log_of f x)) (log_of f x)) wrong)
  where
    by_good : (records : List Record) (good : Bool) → (if good then Some records else None) ≡ None →
        cond good (Some (put_records records (heap_of f x))) None ≡ None
    by_good records true is = absurd (none-some records (sym is))
    by_good records false is = refl

    by_log : (found : Option (List Record)) → option_and_then (if_good f.heap_lines) found ≡ None →
        option_and_then
        (λ records. cond (are_good f.heap_lines records) (Some (put_records records (heap_of f x))) None) found ≡ None
    by_log None is = refl
    by_log (Some records) is = by_good records (are_good f.heap_lines records) is

-- good records are those of the open batches, and may stand together
pub good_records-are : (lines : ℕ) (log : List ℕ) (records : List Record) → good_records lines log ≡ Some records →
    (batches_of (length log) log ≡ Some records) × (are_good lines records ≡ true)
good_records-are lines log records is = by_log (batches_of (length log) log) is
  where
    by_good : (found : List Record) (good : Bool) → are_good lines found ≡ good →
        (if good then Some found else None) ≡ Some records →
        (Some found ≡ Some records) × (are_good lines records ≡ true)
    by_good found true good e = (e, ap (are_good lines) (sym (same_Some _ _ e)) ∙ good)
    by_good found false good e = absurd (none-some records e)

    by_log : (found : Option (List Record)) → option_and_then (if_good lines) found ≡ Some records →
        (found ≡ Some records) × (are_good lines records ≡ true)
    by_log None e = absurd (none-some records e)
    by_log (Some found) e = by_good found (are_good lines found) refl e

-- what was read is logged
pub Logs-read : (f : Frame) (x : List ℕ) (records : List Record) → HasRegions f x →
    good_records f.heap_lines (log_of f x) ≡ Some records → Logs f x records
unfolding read_log
Logs-read f x records r is =
    let are = good_records-are f.heap_lines (log_of f x) records is in
    record {
      regions = r;
      log = ap (λ (n : ℕ). batches_of n (log_of f x)) (sym (length-log_of f x r)) ∙ are.0;
      good = are.1;
    }
