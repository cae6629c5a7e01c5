-- What images are put back to that differ in logged lines, and in a part of the log region.
use Rattle.std.proofs.Common.{◌≡◌, ◌≤◌, ◌<◌, ◌⊎◌, inl, inr, ℕ, zero, suc, ◌+◌, ◌*◌, ◌/◌, Bool, true, false, cond}
use Rattle.std.proofs.Common.{◌||◌, ◌==◌, List, [], ◌∷◌, ◌++◌, length, take, drop, get_or, refl, sym, ap, ◌∙◌, subst}
use Rattle.std.proofs.Common.{arith, nat_le, length-drop, Some, None}
use Rattle.std.specs.Prelude.{Option, option_map}
use Rattle.std.proofs.lemmas.Option.{same_Some, none-some}
use Rattle.std.proofs.lemmas.List.{get_or_past}
use Rattle.std.proofs.lemmas.Bool.{cases_eq, le-leb}
use Rattle.std.proofs.lemmas.Bool.Decides.{nat_tests}
use Rattle.sdr_disk.specs.Moments.{Only}
use Rattle.sdr_base.specs.Parts.{part}
use Rattle.sdr_disk.specs.Ranges.{Agrees, IsInNone, range}
use Rattle.sdr_disk.proofs.RangesLemmas.{Agrees-nil, Agrees-one_more, Agrees-part, Agrees-refl}
use Rattle.sdr_base.proofs.PartsLemmas.{get_or-part, length-part}
use Rattle.sdr_log.specs.Batch.{end_of, log_end}
use Rattle.sdr_log.specs.Frame.{IsInLimits, disk_bytes, frame_of, heap_place, first_number}
use Rattle.sdr_log.specs.Log.{AreLines, batches_of, first_gate, heap_of, names_line, log_of, put_back_in}
use Rattle.sdr_log.specs.Log.{put_back_of, put_records, read_log, records_of}
use Rattle.sdr_log.specs.Logged.{GivesSame, HasRegions, IsAtRest, IsLogged, Logs, line_ranges}
use Rattle.sdr_log.specs.declared.frame.Frame.{Frame}
use Rattle.sdr_log.specs.declared.record.Record.{Record}
use Rattle.sdr_log.proofs.FrameLemmas.{IsInLimits-frame_of}
use Rattle.sdr_log.proofs.LogLemmas.{put_back_of-closed, read_log_closed}
use Rattle.sdr_log.proofs.RecordsLemmas.{SameBut, put_records-same_but}

pub HasRegions-limits : (f : Frame) (x : List ℕ) → HasRegions f x → IsInLimits f
HasRegions-limits f x r = IsInLimits-frame_of (part 0 64 x) f r.head

-- what is put back, from the open batches
pub put_back_of-logs : (f : Frame) (x : List ℕ) (records : List Record) → Logs f x records →
    put_back_of x ≡ Some (put_records records (heap_of f x))
unfolding put_back_of put_back_in
put_back_of-logs f x records l =
    rw (l.regions.head, le-leb (disk_bytes f) (length x) l.regions.inside, l.log) (rw l.good refl)

-- Records that were read have the bytes of whole lines.

AreLines-records_of : (count : ℕ) (bytes : List ℕ) → 68 * count ≤ length bytes → AreLines (records_of count bytes)
unfolding records_of
AreLines-records_of zero bytes le = tt
AreLines-records_of (suc count) bytes le = (
  length-part 4 64 bytes (omega arith),
  AreLines-records_of count (drop 68 bytes) (omega (arith, length-drop 68 bytes)),
)

AreLines-append : (a b : List Record) → AreLines a → AreLines b → AreLines (a ++ b)
AreLines-append [] b la lb = lb
AreLines-append (r ∷ a) b la lb = (la.0, AreLines-append a b la.1 lb)

-- one batch, and those behind it
module _ (fuel : ℕ) (log : List ℕ) (records : List Record)
    (each : (rs : List Record) → batches_of fuel (drop (4 + 68 * first_number (take 4 log)) log) ≡ Some rs →
    AreLines rs) where
  abbrev count : ℕ
  count = first_number (take 4 log)

  abbrev rest : Option (List Record)
  rest = batches_of fuel (drop (4 + 68 * count) log)

  by_rest : (found : Option (List Record)) → 68 * count ≤ length (drop 4 log) → rest ≡ found →
      option_map (λ r. records_of count (drop 4 log) ++ r) found ≡ Some records → AreLines records
  by_rest None le is e = absurd (none-some records e)
  by_rest (Some r) le is e =
      subst AreLines (same_Some _ _ e)
      (AreLines-append (records_of count (drop 4 log)) r (AreLines-records_of count (drop 4 log) le) (each r is))

  by_end : (b : Bool) → (count == 0 || nat_le (length log) (4 + 68 * count)) ≡ b →
      cond b None (option_map (λ r. records_of count (drop 4 log) ++ r) rest) ≡ Some records → AreLines records
  by_end true t e = absurd (none-some records e)
  by_end false t e = by_rest rest (omega (arith, length-drop 4 log, inside count (length log) t)) refl e
    where
      inside : (n k : ℕ) → (n == 0 || nat_le k (4 + 68 * n)) ≡ false → 4 + 68 * n < k
      inside n k f = grind (arith, nat_tests)

  AreLines-by_gate : (gate : Bool) → cond gate (Some []) (cond (count == 0 || nat_le (length log) (4 + 68 * count)) None
      (option_map (λ r. records_of count (drop 4 log) ++ r) rest)) ≡ Some records → AreLines records
  AreLines-by_gate true e = subst AreLines (same_Some [] records e) tt
  AreLines-by_gate false e = by_end (count == 0 || nat_le (length log) (4 + 68 * count)) refl e

AreLines-batches_of : (fuel : ℕ) (log : List ℕ) (records : List Record) → batches_of fuel log ≡ Some records →
    AreLines records
unfolding batches_of
AreLines-batches_of zero log records is = absurd (none-some records is)
AreLines-batches_of (suc fuel) [] records is = absurd (none-some records is)
AreLines-batches_of (suc fuel) (gate ∷ log) records is =
    AreLines-by_gate fuel log records
    (λ rs e. AreLines-batches_of fuel (drop (4 + 68 * first_number (take 4 log)) log) rs e) (gate == 0) is

pub Logs-lines : (f : Frame) (x : List ℕ) (records : List Record) → Logs f x records → AreLines records
unfolding read_log
Logs-lines f x records l = AreLines-batches_of (64 * f.log_lines) (log_of f x) records l.log

-- Places of the disk outside the lines.

pub before_lines : (f : Frame) (records : List Record) (i : ℕ) → i < heap_place f → IsInNone (line_ranges f records) i
before_lines f [] i lt = tt
before_lines f (r ∷ records) i lt = (inl (omega arith), before_lines f records i lt)

-- a byte of the heap whose line isn't named
unnamed_outside : (f : Frame) (records : List Record) (i : ℕ) → names_line records (i / 64) ≡ false →
    IsInNone (line_ranges f records) (heap_place f + i)
unnamed_outside f [] i other = tt
unnamed_outside f (r ∷ records) i other =
    (beside (heap_place f) r.line i (grind (arith, nat_tests)), unnamed_outside f records i (grind (arith, nat_tests)))
  where
    beside : (p line i : ℕ) → (line == i / 64) ≡ false → (p + i < p + 64 * line) ⊎ (p + 64 * line + 64 ≤ p + i)
    beside p line i other = sides p line i (apart line (i / 64) other)
      where
        apart : (a b : ℕ) → (a == b) ≡ false → (a < b) ⊎ (b < a)
        apart a b ne = grind (arith, nat_tests)

        sides : (p line i : ℕ) → (line < i / 64) ⊎ (i / 64 < line) →
            (p + i < p + 64 * line) ⊎ (p + 64 * line + 64 ≤ p + i)
        sides p line i (inl lt) = inr (omega arith)
        sides p line i (inr lt) = inl (omega arith)

-- An image that differs from a disk in so many bytes of the log region, and in logged lines.
module _ (f : Frame) (x image : List ℕ) (records : List Record) (place count : ℕ) (regions : HasRegions f x)
    (inside : place + count ≤ 64 * f.log_lines)
    (g : Agrees (range (64 + place) count ∷ line_ranges f records) x image) where
  long : 64 + 64 * f.log_lines + 64 * f.heap_lines ≤ length x
  long = omega (arith, regions.inside)

  outside : (i : ℕ) → i < 64 + place → IsInNone (range (64 + place) count ∷ line_ranges f records) i
  outside i lt = (inl lt, before_lines f records i (omega (arith, lt, inside)))

  -- it has the same regions
  pub image_regions : HasRegions f image
  image_regions = record {
    head = ap frame_of (Agrees-part _ 0 64 x image (omega (arith, long)) (λ i ge lt. outside i (omega arith)) g)
        ∙ regions.head;
    inside = omega (arith, g.long, regions.inside);
  }

  -- the log region is the same before the place
  pub image_log : part 64 place image ≡ part 64 place x
  image_log = Agrees-part _ 64 place x image (omega (arith, long, inside)) (λ i ge lt. outside i lt) g

  pub image_byte : (i : ℕ) → i < 64 + place → get_or image i 0 ≡ get_or x i 0
  image_byte i lt = g.same i (outside i lt)

  -- the heap region is the same but for logged lines
  pub image_heap : SameBut records (heap_of f x) (heap_of f image)
  unfolding heap_of
  image_heap =
      let n = 64 * f.heap_lines in
      let p = heap_place f in
      record {
        long = length-part p n image (omega (arith, g.long, long)) ∙ sym (length-part p n x (omega (arith, long)));
        same = λ i other. at i other (below_or_past i n);
      }
    where
      below_or_past : (i n : ℕ) → (i < n) ⊎ (n ≤ i)
      below_or_past i n = grind arith

      at : (i : ℕ) → names_line records (i / 64) ≡ false → (i < 64 * f.heap_lines) ⊎ (64 * f.heap_lines ≤ i) →
          get_or (part (heap_place f) (64 * f.heap_lines) image) i 0
          ≡ get_or (part (heap_place f) (64 * f.heap_lines) x) i 0
      at i other (inl lt) =
          get_or-part (heap_place f) (64 * f.heap_lines) image i lt
          ∙ g.same (heap_place f + i) (inr (omega (arith, inside)), unnamed_outside f records i other)
          ∙ sym (get_or-part (heap_place f) (64 * f.heap_lines) x i lt)
      at i other (inr ge) =
          get_or_past (part (heap_place f) (64 * f.heap_lines) image) i 0
          (omega (arith, length-part (heap_place f) (64 * f.heap_lines) image (omega (arith, g.long, long))))
          ∙ sym (get_or_past (part (heap_place f) (64 * f.heap_lines) x) i 0
          (omega (arith, length-part (heap_place f) (64 * f.heap_lines) x (omega (arith, long)))))

pub length-heap_of : (f : Frame) (x : List ℕ) → HasRegions f x → length (heap_of f x) ≡ 64 * f.heap_lines
unfolding heap_of
length-heap_of f x r = length-part (heap_place f) (64 * f.heap_lines) x (omega (arith, r.inside))

-- where no line is logged, the heap region is the same
pub image_heap_same : (f : Frame) (x image : List ℕ) (place count : ℕ) → HasRegions f x →
    place + count ≤ 64 * f.log_lines → Agrees (range (64 + place) count ∷ []) x image → heap_of f image ≡ heap_of f x
image_heap_same f x image place count regions le g =
    put_records-same_but f.heap_lines [] (heap_of f x) (heap_of f image) refl tt
    (omega (arith, length-heap_of f x regions)) (image_heap f x image [] place count regions le g)

-- two disks with the same open batches, whose heap regions differ in logged lines alone
pub same_logs : (f : Frame) (x image : List ℕ) (records : List Record) → Logs f x records → Logs f image records →
    SameBut records (heap_of f x) (heap_of f image) → GivesSame x image
same_logs f x image records l k s =
    put_back_of-logs f image records k
    ∙ ap Some (put_records-same_but f.heap_lines records (heap_of f x) (heap_of f image) l.good
    (Logs-lines f x records l) (omega (arith, length-heap_of f x l.regions)) s)
    ∙ sym (put_back_of-logs f x records l)

-- An image that differs in logged lines alone.
module _ (f : Frame) (x image : List ℕ) (records : List Record) (l : Logs f x records)
    (g : Agrees (line_ranges f records) x image) where
  wide : Agrees (range (64 + 64 * f.log_lines) 0 ∷ line_ranges f records) x image
  wide = Agrees-one_more (range (64 + 64 * f.log_lines) 0) (line_ranges f records) x image g

  pub pending_log : read_log f image ≡ read_log f x
  unfolding read_log log_of
  pending_log = ap (batches_of (64 * f.log_lines))
      (image_log f x image records (64 * f.log_lines) 0 l.regions (omega arith) wide)

  pub pending_end : log_end f image ≡ log_end f x
  unfolding log_end log_of
  pending_end = ap (end_of (64 * f.log_lines))
      (image_log f x image records (64 * f.log_lines) 0 l.regions (omega arith) wide)

  pub pending_logs : Logs f image records
  pending_logs = record {
    regions = image_regions f x image records (64 * f.log_lines) 0 l.regions (omega arith) wide;
    log = pending_log ∙ l.log;
    good = l.good;
  }

  pub pending_same : GivesSame x image
  pending_same = same_logs f x image records l pending_logs
      (image_heap f x image records (64 * f.log_lines) 0 l.regions (omega arith) wide)

  pub pending_gate : 1 ≤ f.log_lines → first_gate image ≡ first_gate x
  pending_gate some =
      image_byte f x image records (64 * f.log_lines) 0 l.regions (omega arith) wide 64 (omega (arith, some))

-- what a crash leaves gives the same heap
pub logged_same : (f : Frame) (x image : List ℕ) (left : List ℕ → Type 0) → IsLogged f x left → left image →
    GivesSame x image
logged_same f x image left l of_left = pending_same f x image l.records l.logs (l.pending image of_left)

-- a disk at rest logs no line
unfoldable pub rest_logged : (f : Frame) (x : List ℕ) (left : List ℕ → Type 0) → IsAtRest f x left → IsLogged f x left
rest_logged f x left r =
    let w = HasRegions-limits f x r.regions in
    record {
      records = [];
      logs = record {
        regions = r.regions;
        log = read_log_closed f x (omega (arith, w.least_log)) r.regions.inside r.gate;
        good = refl;
      };
      pending = λ image l. subst (λ (z : List ℕ). Agrees [] x z) (sym (r.only image l)) (Agrees-refl [] x);
    }

-- and gives its heap region
pub rest_gives : (f : Frame) (x : List ℕ) (left : List ℕ → Type 0) → IsAtRest f x left →
    put_back_of x ≡ Some (heap_of f x)
rest_gives f x left r =
    let w = HasRegions-limits f x r.regions in
    put_back_of-closed f x r.regions.head (omega (arith, w.least_log)) r.regions.inside r.gate

-- where the first gate is closed, all that is logged is nothing
pub closed_only : (f : Frame) (x : List ℕ) (left : List ℕ → Type 0) → IsLogged f x left → first_gate x ≡ 0 → Only x left
closed_only f x left l gate image of_left =
    let w = HasRegions-limits f x l.logs.regions in
    let shut = read_log_closed f x (omega (arith, w.least_log)) l.logs.regions.inside gate in
    let none : l.records ≡ [] = same_Some l.records [] (sym l.logs.log ∙ shut) in
    Agrees-nil x image (subst (λ (rs : List Record). Agrees (line_ranges f rs) x image) none (l.pending image of_left))

-- where an open batch has a record, the first gate is open
pub logs_gate : (f : Frame) (x : List ℕ) (records : List Record) → Logs f x records → 0 < length records →
    0 < first_gate x
logs_gate f x records l some = elim (cases_eq (first_gate x) 0) [
  | inl shut ↦
      let w = HasRegions-limits f x l.regions in
      let closed = read_log_closed f x (omega (arith, w.least_log)) l.regions.inside shut in
      let none = same_Some records [] (sym l.log ∙ closed) in
      absurd (omega (arith, ap length none, some))
  | inr ne ↦ grind (arith, nat_tests)
]
