-- Records that are put back as they are read.
use Rattle.std.proofs.Common.{◌≡◌, ◌≤◌, ◌<◌, ◌∙◌, ℕ, zero, suc, ◌+◌, ◌-◌, ◌*◌, List, [], ◌∷◌, length, refl, sym, ap, subst}
use Rattle.std.proofs.Common.{arith, Bool}
use Rattle.sdr_base.specs.Parts.{overwrite, part}
use Rattle.sdr_base.proofs.PartsLemmas.{length-overwrite, length-part, part-overwrite_before}
use Rattle.sdr_disk.specs.Moments.{Reads}
use Rattle.sdr_disk.proofs.MomentsLemmas.{at_read}
use Rattle.sdr_log.specs.Calls.{AreBelow, with_records}
use Rattle.sdr_log.specs.Frame.{disk_bytes, heap_place}
use Rattle.sdr_log.specs.Log.{AreLines}
use Rattle.sdr_log.specs.Logged.{GivesSame}
use Rattle.sdr_log.specs.Undoing.{record_at, record_of, records_at}
use Rattle.sdr_log.specs.declared.frame.Frame.{Frame}
use Rattle.sdr_log.specs.declared.record.Record.{Record}
use Rattle.sdr_log.proofs.PuttingLemmas.{PutSoFar, Putting}
use Rattle.sdr_log.proofs.RestoringLemmas.{left_before}

-- lines that are put leave what stands before the heap region
pub part-with_records : (f : Frame) (records : List Record) (x : List ℕ) (q n : ℕ) → q + n ≤ heap_place f →
    disk_bytes f ≤ length x → AreBelow f.heap_lines records → AreLines records →
    part q n (with_records f records x) ≡ part q n x
part-with_records f [] x q n le wide below long = refl
part-with_records f (r ∷ records) x q n le wide below long =
    let p = heap_place f + 64 * r.line in
    let inside : p + length r.bytes ≤ length x = omega (arith, wide, below.0, long.0) in
    let same = length-overwrite p r.bytes x inside in
    part-with_records f records (overwrite p r.bytes x) q n le (omega (arith, same, wide)) below.1 long.1
    ∙ part-overwrite_before q n p r.bytes x (omega (arith, le)) inside

-- records that were read have the bytes of whole lines
pub AreLines-records_at : (place count : ℕ) (x : List ℕ) → place + 68 * count ≤ length x →
    AreLines (records_at place count x)
AreLines-records_at place zero x le = tt
AreLines-records_at place (suc count) x le = (
  length-part 4 64 (part place 68 x) (omega (arith, length-part place 68 x (omega (arith, le)))),
  AreLines-records_at (place + 68) count x (omega (arith, le)),
)

pub length-records_at : (place count : ℕ) (x : List ℕ) → length (records_at place count x) ≡ count
length-records_at place zero x = refl
length-records_at place (suc count) x = omega (arith, length-records_at (place + 68) count x)

-- a read more
pub putting_read : {D : Type 0} {bytes : D → List ℕ} {tells : D → Bool} {moment : D → ℕ}
    {may_hold_after : D → ℕ → List ℕ → Type 0} (f : Frame) (lines rest : List Record) (old now mid : D) →
    Putting moment may_hold_after bytes f lines rest old now → Reads bytes tells moment may_hold_after now mid →
    Putting moment may_hold_after bytes f lines rest old mid
putting_read {D} {bytes} {tells} {moment} {may_hold_after} f lines rest old now mid p r = record {
  written = ap (with_records f rest) r.same ∙ p.written;
  so_far = λ m.
      let s = p.so_far m in
      subst (λ (y : List ℕ). PutSoFar moment may_hold_after f lines rest old mid (bytes old) y) (sym r.same) record {
        may = record {
          logged = record {
            records = s.may.logged.records;
            logs = s.may.logged.logs;
            pending = λ image l. s.may.logged.pending image (left_before r image l);
          };
          named = s.may.named;
        };
        heap = s.heap;
        log = s.log;
        ends = s.ends;
        gate = s.gate;
        back = s.back;
        each = at_read moment may_hold_after old now mid (GivesSame (bytes old)) s.each r.time r.past;
      };
}

-- the first of the records that are left
pub records_more : (place count done : ℕ) (x : List ℕ) → done < count →
    records_at (place + 68 * done) (count - done) x
    ≡ record_at (place + 68 * done) x ∷ records_at (place + 68 * (done + 1)) (count - (done + 1)) x
records_more place count done x lt =
    let n = count - (done + 1) in
    let e : count - done ≡ suc n = omega arith in
    let q : place + 68 * done + 68 ≡ place + 68 * (done + 1) = omega arith in
    ap (λ (k : ℕ). records_at (place + 68 * done) k x) e
    ∙ ap (λ (k : ℕ). record_at (place + 68 * done) x ∷ records_at k n x) q

-- What is read, where some are put back: of these bytes before the first, and of these now.
module _ (f : Frame) (place count : ℕ) (x y : List ℕ) (inside : place + 68 * count ≤ 64 * f.log_lines)
    (wide : disk_bytes f ≤ length x) (below : AreBelow f.heap_lines (records_at (64 + place) count x)) (done : ℕ)
    (lt : done < count)
    (written : with_records f (records_at (64 + place + 68 * done) (count - done) x) y
    ≡ with_records f (records_at (64 + place) count x) x)
    (wide' : disk_bytes f ≤ length y)
    (below' : AreBelow f.heap_lines (records_at (64 + place + 68 * done) (count - done) x)) (r : Record)
    (given : r ≡ record_at (64 + place + 68 * done) y) where
  -- what is read before the heap region is what stood there
  same_part : (q n : ℕ) → q + n ≤ heap_place f → part q n y ≡ part q n x
  same_part q n le =
      sym (part-with_records f (records_at (64 + place + 68 * done) (count - done) x) y q n le wide' below'
      (AreLines-records_at (64 + place + 68 * done) (count - done) x (omega (arith, inside, wide, lt))))
      ∙ ap (part q n) written
      ∙ part-with_records f (records_at (64 + place) count x) x q n le wide below
      (AreLines-records_at (64 + place) count x (omega (arith, inside, wide)))

  read_is : r ≡ record_at (64 + place + 68 * done) x
  read_is = given ∙ ap record_of (same_part (64 + place + 68 * done) 68 (omega (arith, inside, lt)))

  pub read_split : records_at (64 + place + 68 * done) (count - done) x
      ≡ r ∷ records_at (64 + place + 68 * (done + 1)) (count - (done + 1)) x
  read_split =
      records_more (64 + place) count done x lt
      ∙ ap (λ (s : Record). s ∷ records_at (64 + place + 68 * (done + 1)) (count - (done + 1)) x) (sym read_is)

  pub read_below : (r.line < f.heap_lines)
      × AreBelow f.heap_lines (records_at (64 + place + 68 * (done + 1)) (count - (done + 1)) x)
  read_below = subst (AreBelow f.heap_lines) read_split below'
