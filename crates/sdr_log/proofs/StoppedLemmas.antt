-- A recovery that was stopped leaves what gives the same heap.
use Rattle.std.proofs.Common.{◌≡◌, inl, inr, ℕ, suc, ◌-◌, ◌*◌, ◌==◌, List, [], ◌∷◌, sym, ap, ◌∙◌, arith, Some}
use Rattle.std.specs.List.{All}
use Rattle.std.proofs.lemmas.Bool.{cases_eq}
use Rattle.std.proofs.lemmas.Bool.Decides.{nat_tests}
use Rattle.std.proofs.lemmas.List.Elements.{All-cons, All-nil}
use Rattle.sdr_base.specs.Parts.{part}
use Rattle.sdr_disk.specs.Ranges.{Agrees, range}
use Rattle.sdr_disk.proofs.RangesLemmas.{Agrees-part}
use Rattle.sdr_log.specs.Calls.{HoldLines}
use Rattle.sdr_log.specs.Left.{AreLeftFrom, IsLeftFrom, IsStoppedOn}
use Rattle.sdr_log.specs.Log.{batches_of, first_gate, heap_of, put_back_of, read_log}
use Rattle.sdr_log.specs.Logged.{GivesSame, HasRegions, line_ranges}
use Rattle.sdr_log.specs.declared.frame.Frame.{Frame}
use Rattle.sdr_log.specs.declared.record.Record.{Record}
use Rattle.sdr_log.proofs.FoundLemmas.{batches_of-gate}
use Rattle.sdr_log.proofs.GoodLemmas.{put_records-all_own}
use Rattle.sdr_log.proofs.LogLemmas.{log_of-cons, put_back_of-closed}
use Rattle.sdr_log.proofs.LoggedLemmas.{HasRegions-limits, Logs-lines, before_lines, image_heap, image_regions}
use Rattle.sdr_log.proofs.LoggedLemmas.{length-heap_of, put_back_of-logs, same_logs}
use Rattle.sdr_log.proofs.RecordsLemmas.{SameBut, put_records-same_but}

-- An image with any byte at the first gate, and any in some lines.
module _ (f : Frame) (x image : List ℕ) (records : List Record) (regions : HasRegions f x)
    (g : Agrees (range 64 1 ∷ line_ranges f records) x image) where
  pub torn_regions : HasRegions f image
  torn_regions =
      let w = HasRegions-limits f x regions in
      image_regions f x image records 0 1 regions (omega (arith, w.least_log)) g

  -- its batches are as before where the gate is as open
  pub torn_log : (first_gate image == 0) ≡ (first_gate x == 0) → read_log f image ≡ read_log f x
  unfolding read_log
  torn_log same =
      let w = HasRegions-limits f x regions in
      let k = 64 * f.log_lines - 1 in
      let is : 64 * f.log_lines ≡ suc k = omega (arith, w.least_log) in
      let rest : part 65 k image ≡ part 65 k x =
      Agrees-part _ 65 k x image (omega (arith, regions.inside, is))
      (λ i ge lt. (inr ge, before_lines f records i (omega (arith, is, lt)))) g in
      ap (batches_of (64 * f.log_lines))
      (log_of-cons f image k is (omega (arith, torn_regions.inside))
      ∙ ap (λ (l : List ℕ). first_gate image ∷ l) rest)
      ∙ batches_of-gate (64 * f.log_lines) (first_gate image) (first_gate x) (part 65 k x) same
      ∙ ap (batches_of (64 * f.log_lines)) (sym (log_of-cons f x k is (omega (arith, regions.inside))))

-- What a stopped recovery left.
module _ (i j : List ℕ) (s : IsStoppedOn i j) where
  heap : SameBut s.records (heap_of s.frame i) (heap_of s.frame j)
  heap =
      let w = HasRegions-limits s.frame i s.logs.regions in
      image_heap s.frame i j s.records 0 1 s.logs.regions (omega (arith, w.least_log)) s.others

  -- where the first gate is open, the batches are the same
  while_open : (first_gate j == 0) ≡ (first_gate i == 0) → GivesSame i j
  while_open gate =
      let regions = torn_regions s.frame i j s.records s.logs.regions s.others in
      let log = torn_log s.frame i j s.records s.logs.regions s.others gate in
      same_logs s.frame i j s.records s.logs
      (record { regions = regions; log = log ∙ s.logs.log; good = s.logs.good }) heap

  -- where it is closed and the lines have their old bytes, the heap region is the heap
  once_closed : first_gate j ≡ 0 → HoldLines (heap_of s.frame j) s.records → GivesSame i j
  once_closed shut own =
      let f = s.frame in
      let w = HasRegions-limits f i s.logs.regions in
      let regions = torn_regions f i j s.records s.logs.regions s.others in
      let lines = Logs-lines f i s.records s.logs in
      put_back_of-closed f j regions.head (omega (arith, w.least_log)) regions.inside shut
      ∙ ap Some (sym (put_records-all_own f.heap_lines [] s.records (heap_of f j) s.logs.good tt lines
      (omega (arith, length-heap_of f j regions)) own)
      ∙ put_records-same_but f.heap_lines s.records (heap_of f i) (heap_of f j) s.logs.good lines
      (omega (arith, length-heap_of f i s.logs.regions)) heap)
      ∙ sym (put_back_of-logs f i s.records s.logs)

  stopped_same : GivesSame i j
  stopped_same = elim s.either [
    | inl gate ↦ while_open (ap (λ (n : ℕ). n == 0) gate)
    | inr own ↦ elim (cases_eq (first_gate j) 0) [
      | inl shut ↦ once_closed shut own
      | inr still ↦ while_open (grind (arith, nat_tests, s.opened))
    ]
  ]

left_same : (i j : List ℕ) → IsLeftFrom i j → GivesSame i j
left_same i j (inl same) = ap put_back_of same
left_same i j (inr stopped) = stopped_same i j stopped

-- however often it is stopped and begun again
pub left_many : (h i : List ℕ) (js : List (List ℕ)) → GivesSame h i → AreLeftFrom i js → All (GivesSame h) js
left_many h i [] same left = All-nil (GivesSame h)
left_many h i (j ∷ js) same left =
    let here = left_same i j left.0 ∙ same in
    All-cons (GivesSame h) j js here (left_many h j js here left.1)
