-- A batch that is written behind a closed gate, and the gate that is opened then.
use Rattle.std.proofs.Common.{◌≡◌, ◌≤◌, ◌<◌, ℕ, suc, ◌+◌, ◌-◌, ◌*◌, ◌^◌, Bool, true, false, ◌==◌, List, [], ◌∷◌, ◌++◌}
use Rattle.std.proofs.Common.{length, take, drop, get_or, refl, sym, ap, ◌∙◌, subst, arith, Some, inl}
use Rattle.std.proofs.Common.{length-append, append_assoc}
use Rattle.std.specs.Prelude.{option_map}
use Rattle.std.proofs.Math.Seq.{take-add, take-append-add}
use Rattle.std.proofs.lemmas.List.{drop-drop, drop_more, take_at, take-take}
use Rattle.std.proofs.lemmas.Bool.Decides.{nat_tests}
use Rattle.sdr_base.proofs.PartsLemmas.{overwrite-apart, overwrite-behind, part-overwrite}
use Rattle.sdr_disk.specs.Moments.{Only}
use Rattle.sdr_base.specs.Parts.{overwrite, part}
use Rattle.sdr_disk.specs.Ranges.{Agrees, range}
use Rattle.sdr_disk.proofs.RangesLemmas.{Agrees-more, Agrees-one_more, Agrees-overwrite, Agrees-part, Agrees-refl}
use Rattle.sdr_base.proofs.PartsLemmas.{get_or-overwrite_inside}
use Rattle.sdr_disk.proofs.RangesLemmas.{Agrees-trans}
use Rattle.sdr_log.specs.Batch.{batch_of, batch_size, end_of, log_end, with_batch}
use Rattle.sdr_log.specs.Calls.{MayOpen, OpensBatch}
use Rattle.sdr_log.specs.Frame.{IsInLimits}
use Rattle.sdr_log.specs.Log.{AreLines, are_good, batches_of, heap_of, log_of, put_records}
use Rattle.sdr_log.specs.Log.{read_log}
use Rattle.sdr_log.specs.Logged.{GivesSame, HasRegions, Logs, line_ranges}
use Rattle.sdr_log.specs.declared.frame.Frame.{Frame}
use Rattle.sdr_log.specs.declared.record.Record.{Record}
use Rattle.sdr_log.proofs.BatchLemmas.{AreShort-good, length-batch_of}
use Rattle.sdr_log.proofs.FoundLemmas.{Found, found, found_closed, found_opened}
use Rattle.sdr_log.proofs.GoodLemmas.{put_records-all_own}
use Rattle.sdr_log.proofs.LoggedLemmas.{HasRegions-limits, Logs-lines, image_heap, image_heap_same, image_log}
use Rattle.sdr_log.proofs.LoggedLemmas.{image_regions}
use Rattle.sdr_log.proofs.LoggedLemmas.{length-heap_of, logs_gate, put_back_of-logs, same_logs}
use Rattle.sdr_log.proofs.RecordsLemmas.{put_records-same_but}

-- a part is its front and what follows
part-add : (q a b : ℕ) (x : List ℕ) → part q (a + b) x ≡ part q a x ++ part (q + a) b x
part-add q a b x = take-add a b (drop q x) ∙ ap (λ (l : List ℕ). part q a x ++ take b l) (drop-drop a q x)

part-cons : (q k : ℕ) (x : List ℕ) → q < length x → part q (suc k) x ≡ get_or x q 0 ∷ part (q + 1) k x
part-cons q k x lt = ap (λ (l : List ℕ). take (suc k) l) (drop_more x q 0 lt)

-- the log region, split at a place
log_of-split : (f : Frame) (x : List ℕ) (place rest : ℕ) → 64 * f.log_lines ≡ place + rest →
    log_of f x ≡ part 64 place x ++ part (64 + place) rest x
unfolding log_of
log_of-split f x place rest is = ap (λ (n : ℕ). part 64 n x) is ∙ part-add 64 place rest x

-- the batch and then its gate are the open batch
pub with_batch-written : (place : ℕ) (records : List Record) (x : List ℕ) →
    64 + place + 1 + length (batch_of records) ≤ length x →
    overwrite (64 + place) (1 ∷ []) (overwrite (64 + place + 1) (batch_of records) x) ≡ with_batch place records x
with_batch-written place records x le =
    sym (overwrite-apart (64 + place) (64 + place + 1) (1 ∷ []) (batch_of records) x (omega arith) le)
    ∙ overwrite-behind (64 + place) (1 ∷ []) (batch_of records) x (omega (arith, le))

-- A batch of these records may be opened, and has room.
module _ (f : Frame) (place : ℕ) (records : List Record) (x : List ℕ) (left : List ℕ → Type 0)
    (m : MayOpen f place records x left) (lines : AreLines records) (some : 0 < length records)
    (fits : place + batch_size (length records) < 64 * f.log_lines) where
  abbrev earlier : List Record
  earlier = m.logged.records

  abbrev batch : List ℕ
  batch = batch_of records

  -- with the batch written, and the gate still closed
  abbrev pub written : List ℕ
  written = overwrite (64 + place + 1) batch x

  abbrev pub opened : List ℕ
  opened = overwrite (64 + place) (1 ∷ []) written

  pub limits : IsInLimits f
  limits = HasRegions-limits f x m.logged.logs.regions

  size : length batch ≡ 5 + 68 * length records
  size = length-batch_of records lines

  wide : 64 + 64 * f.log_lines + 64 * f.heap_lines ≤ length x
  wide = omega (arith, m.logged.logs.regions.inside)

  region : Found (64 * f.log_lines) (log_of f x) earlier place
  unfolding read_log log_end
  region = found (64 * f.log_lines) (log_of f x) earlier place m.logged.logs.log m.ends

  -- the bytes of the open batches
  before : part 64 place x ≡ region.before
  unfolding log_of
  before =
      sym (take-take place (64 * f.log_lines) (drop 64 x) (omega (arith, fits)))
      ∙ ap (take place) region.split
      ∙ take_at region.before (0 ∷ region.rest) place region.at

  before_gate : part 64 (place + 1) x ≡ region.before ++ 0 ∷ []
  unfolding log_of
  before_gate =
      sym (take-take (place + 1) (64 * f.log_lines) (drop 64 x) (omega (arith, fits)))
      ∙ ap (take (place + 1)) region.split
      ∙ ap (λ (n : ℕ). take (n + 1) (region.before ++ 0 ∷ region.rest)) (sym region.at)
      ∙ take-append-add region.before (0 ∷ region.rest) 1

  -- with the gate closed, the open batches are the earlier ones
  closed_logs : (image rest : List ℕ) → HasRegions f image → log_of f image ≡ region.before ++ 0 ∷ rest →
      Logs f image earlier
  unfolding read_log
  closed_logs image rest regions split = record {
    regions = regions;
    log = ap (batches_of (64 * f.log_lines)) split ∙ (found_closed _ _ _ _ region rest).0;
    good = m.logged.logs.good;
  }

  -- With bytes pending behind the closed gate.
  module _ (image : List ℕ) (g : Agrees (range (64 + place + 1) (length batch) ∷ line_ranges f earlier) x image) where
    moved : Agrees (range (64 + (place + 1)) (length batch) ∷ line_ranges f earlier) x image
    moved = subst (λ (n : ℕ). Agrees (range n (length batch) ∷ line_ranges f earlier) x image) (omega arith) g

    inside : place + 1 + length batch ≤ 64 * f.log_lines
    inside = omega (arith, fits, size)

    behind_logs : Logs f image earlier
    behind_logs =
        let rest = 64 * f.log_lines - (place + 1) in
        closed_logs image (part (64 + (place + 1)) rest image)
        (image_regions f x image earlier (place + 1) (length batch) m.logged.logs.regions inside moved)
        (log_of-split f image (place + 1) rest (omega (arith, fits))
        ∙ ap (λ (l : List ℕ). l ++ part (64 + (place + 1)) rest image)
        (image_log f x image earlier (place + 1) (length batch) m.logged.logs.regions inside moved ∙ before_gate)
        ∙ append_assoc region.before (0 ∷ []) (part (64 + (place + 1)) rest image))

    pub behind_same : GivesSame x image
    behind_same = same_logs f x image earlier m.logged.logs behind_logs
        (image_heap f x image earlier (place + 1) (length batch) m.logged.logs.regions inside moved)

  -- while the batch is written, a crash leaves the same heap
  pub batch_same : (whole image : List ℕ) → left whole →
      Agrees (range (64 + place + 1) (length batch) ∷ []) whole image → GivesSame x image
  batch_same whole image of_left g =
      behind_same image
      (Agrees-trans _ x whole image
      (Agrees-one_more (range (64 + place + 1) (length batch)) (line_ranges f earlier) x whole
      (m.logged.pending whole of_left))
      (Agrees-more (range (64 + place + 1) (length batch) ∷ []) _ whole image (λ i o. (o.0, tt)) g))

  batch_inside : 64 + place + 1 + length batch ≤ length x
  batch_inside = omega (arith, fits, size, wide)

  over : Agrees (range (64 + (place + 1)) (length batch) ∷ []) x written
  over = subst (λ (n : ℕ). Agrees (range n (length batch) ∷ []) x written) (omega arith)
      (Agrees-overwrite (64 + place + 1) batch x [] batch_inside)

  over_inside : place + 1 + length batch ≤ 64 * f.log_lines
  over_inside = omega (arith, fits, size)

  written_regions : HasRegions f written
  written_regions =
      image_regions f x written [] (place + 1) (length batch) m.logged.logs.regions over_inside over

  written_heap : heap_of f written ≡ heap_of f x
  written_heap = image_heap_same f x written (place + 1) (length batch) m.logged.logs.regions over_inside over

  -- With the batch written, and any byte at its gate.
  module _ (image : List ℕ) (g : Agrees (range (64 + place) 1 ∷ []) written image) where
    gate_inside : place + 1 ≤ 64 * f.log_lines
    gate_inside = omega (arith, fits)

    gate_regions : HasRegions f image
    gate_regions = image_regions f written image [] place 1 written_regions gate_inside g

    gate_heap : heap_of f image ≡ heap_of f x
    gate_heap = image_heap_same f written image place 1 written_regions gate_inside g ∙ written_heap

    long : length image ≡ length x
    long = g.long ∙ over.long

    abbrev junk : List ℕ
    junk = part (64 + place + 1 + length batch) (64 * f.log_lines - (place + 1 + length batch)) image

    gate_before : part 64 place image ≡ region.before
    gate_before =
        image_log f written image [] place 1 written_regions gate_inside g
        ∙ sym (take-take place (place + 1) (drop 64 written) (omega arith))
        ∙ ap (take place) (image_log f x written [] (place + 1) (length batch) m.logged.logs.regions over_inside over)
        ∙ take-take place (place + 1) (drop 64 x) (omega arith)
        ∙ before

    gate_batch : part (64 + place + 1) (length batch) image ≡ batch
    gate_batch =
        Agrees-part _ (64 + place + 1) (length batch) written image (omega (arith, over.long, batch_inside))
        (λ i ge lt. (Rattle.std.proofs.Common.inr (omega (arith, ge)), tt)) g
        ∙ part-overwrite (64 + place + 1) batch x batch_inside

    gate_log : log_of f image ≡ region.before ++ get_or image (64 + place) 0 ∷ (batch ++ junk)
    gate_log =
        let more = 64 * f.log_lines - (place + 1 + length batch) in
        let n = length batch in
        log_of-split f image place (suc (n + more)) (omega (arith, over_inside))
        ∙ ap (λ (l : List ℕ). part 64 place image ++ l)
        (part-cons (64 + place) (n + more) image (omega (arith, long, batch_inside))
        ∙ ap (λ (l : List ℕ). get_or image (64 + place) 0 ∷ l)
        (part-add (64 + place + 1) n more image ∙ ap (λ (l : List ℕ). l ++ junk) gate_batch))
        ∙ ap (λ (l : List ℕ). l ++ get_or image (64 + place) 0 ∷ (batch ++ junk)) gate_before

    -- open, the batch stands behind the others
    open_logs : (get_or image (64 + place) 0 == 0) ≡ false →
        Logs f image (earlier ++ records) × (log_end f image ≡ Some (place + batch_size (length records)))
    unfolding read_log log_end
    open_logs is_open =
        let short = AreShort-good f.heap_lines records (omega (arith, limits.most_heap)) (good_last m.good) in
        let both = found_opened _ _ _ _ region (get_or image (64 + place) 0) records junk is_open short lines some
        (omega (arith, fits, limits.most_log)) (omega (arith, fits)) in (
          record {
            regions = gate_regions;
            log = ap (batches_of (64 * f.log_lines)) gate_log ∙ both.0;
            good = m.good;
          },
          ap (end_of (64 * f.log_lines)) gate_log ∙ both.1,
        )
      where
        good_behind : (n : ℕ) (a b : List Record) → are_good n (a ++ b) ≡ true → are_good n b ≡ true
        good_behind n [] b good = good
        good_behind n (r ∷ a) b good =
            good_behind n a b (Rattle.sdr_log.proofs.RecordsLemmas.are_good-cons n r (a ++ b) good).2

        good_last : are_good f.heap_lines (earlier ++ records) ≡ true → are_good f.heap_lines records ≡ true
        good_last good = good_behind f.heap_lines earlier records good

    open_same : (get_or image (64 + place) 0 == 0) ≡ false → GivesSame x image
    open_same is_open =
        put_back_of-logs f image (earlier ++ records) (open_logs is_open).0
        ∙ ap (λ (h : List ℕ). Some (put_records (earlier ++ records) h)) gate_heap
        ∙ ap Some (put_records-all_own f.heap_lines earlier records (heap_of f x) m.good
        (Logs-lines f x earlier m.logged.logs) lines
        (omega (arith, length-heap_of f x m.logged.logs.regions)) m.own)
        ∙ sym (put_back_of-logs f x earlier m.logged.logs)

    closed_same : get_or image (64 + place) 0 ≡ 0 → GivesSame x image
    closed_same is =
        let l = closed_logs image (batch ++ junk) gate_regions
        (gate_log ∙ ap (λ (n : ℕ). region.before ++ n ∷ (batch ++ junk)) is) in
        put_back_of-logs f image earlier l
        ∙ ap (λ (h : List ℕ). Some (put_records earlier h)) gate_heap
        ∙ sym (put_back_of-logs f x earlier m.logged.logs)

    -- while the gate is written, a crash leaves the same heap
    pub gate_same : GivesSame x image
    gate_same = by (get_or image (64 + place) 0 == 0) refl
      where
        by : (b : Bool) → (get_or image (64 + place) 0 == 0) ≡ b → GivesSame x image
        by true is = closed_same (grind (arith, nat_tests))
        by false is = open_same is

  gate_over : Agrees (range (64 + place) 1 ∷ []) written opened
  gate_over = Agrees-overwrite (64 + place) (1 ∷ []) written [] (omega (arith, over.long, batch_inside))

  gate_open : get_or opened (64 + place) 0 ≡ 1
  gate_open =
      let first : 64 + place - (64 + place) ≡ 0 = omega arith in
      get_or-overwrite_inside (64 + place) (1 ∷ []) written (64 + place) (omega (arith, over.long, batch_inside))
      (omega arith) (omega arith)
      ∙ ap (λ (k : ℕ). get_or (1 ∷ []) k 0) first

  -- what the call leaves, where nothing is pending
  pub opens : (left' : List ℕ → Type 0) → Only opened left' → OpensBatch f place records x opened left'
  opens left' only =
      let is_open : (get_or opened (64 + place) 0 == 0) ≡ false = grind (arith, nat_tests, gate_open) in
      let l = open_logs opened gate_over is_open in
      record {
        is_open = record {
          logged = record {
            records = earlier ++ records;
            logs = l.0;
            pending = λ image of_left. subst (λ (z : List ℕ). Agrees (line_ranges f (earlier ++ records)) opened z)
                (sym (only image of_left)) (Agrees-refl (line_ranges f (earlier ++ records)) opened);
          };
          gate = logs_gate f opened (earlier ++ records) l.0 (omega (arith, some, length-append earlier records));
        };
        log = l.0.log ∙ ap (option_map (λ rs. rs ++ records)) (sym m.logged.logs.log);
        ends = l.1;
        heap = gate_heap opened gate_over;
        back = gate_same opened gate_over;
      }

  pub opens_written : (y : List ℕ) (left' : List ℕ → Type 0) → y ≡ opened → Only y left' →
      OpensBatch f place records x y left'
  opens_written y left' is only =
      subst (λ (z : List ℕ). OpensBatch f place records x z left') (sym is)
      (opens left' (subst (λ (z : List ℕ). Only z left') is only))
