-- Open batches that are put back and closed.
use Rattle.std.proofs.Common.{◌≡◌, ◌≤◌, ◌<◌, inl, inr, ℕ, zero, suc, ◌+◌, ◌-◌, ◌*◌, Bool, true, false, cond}
use Rattle.std.proofs.Common.{◌||◌, ◌==◌, List, [], ◌∷◌, ◌++◌, length, take, drop, refl, sym, ap, ◌∙◌, subst, arith}
use Rattle.std.proofs.Common.{Some, None, nat_le, ⊎_elim}
use Rattle.std.specs.Prelude.{Option, option_map}
use Rattle.std.proofs.lemmas.List.{drop_more}
use Rattle.std.proofs.lemmas.Option.{same_Some, none-some}
use Rattle.std.proofs.lemmas.Bool.Decides.{nat_tests}
use Rattle.sdr_disk.specs.Moments.{AtEach, Only, Reads}
use Rattle.sdr_base.specs.Parts.{overwrite, part}
use Rattle.sdr_disk.specs.Ranges.{Agrees}
use Rattle.sdr_disk.proofs.MomentsLemmas.{at_both, at_first, at_read}
use Rattle.sdr_base.proofs.PartsLemmas.{overwrite-part}
use Rattle.sdr_disk.proofs.RangesLemmas.{Agrees-refl}
use Rattle.sdr_log.specs.Calls.{AreNamed, MayPut, MayPutBack, Puts, PutsBack, with_records}
use Rattle.sdr_log.specs.Frame.{heap_place, first_number}
use Rattle.sdr_log.specs.Log.{AreLines, batches_of, first_gate, heap_of, put_back_of, put_records, read_log, records_of}
use Rattle.sdr_log.specs.Logged.{GivesSame, IsAtRest, IsLogged, IsOpen, Logs, line_ranges}
use Rattle.sdr_log.specs.declared.frame.Frame.{Frame}
use Rattle.sdr_log.specs.declared.record.Record.{Record}
use Rattle.sdr_log.proofs.ClosingLemmas.{GivesEither, closes}
use Rattle.sdr_log.proofs.GoodLemmas.{AreNamed-own}
use Rattle.sdr_log.proofs.LogLemmas.{log_of-cons}
use Rattle.sdr_log.proofs.LoggedLemmas.{HasRegions-limits, Logs-lines, closed_only, logged_same, logs_gate}
use Rattle.sdr_log.proofs.LoggedLemmas.{put_back_of-logs}
use Rattle.sdr_log.proofs.PuttingLemmas.{put_heap, put_logs}

-- the batches of a disk are one list
same_records : (f : Frame) (x : List ℕ) (a b : List Record) → Logs f x a → Logs f x b → a ≡ b
same_records f x a b l k = same_Some a b (sym l.log ∙ k.log)

-- the open batches name their own lines
pub may_put : (f : Frame) (x : List ℕ) (records : List Record) (left : List ℕ → Type 0) → Logs f x records →
    IsLogged f x left → MayPut f records x left
may_put f x records left l logged = record {
  logged = logged;
  named = subst (λ (all : List Record). AreNamed all records) (same_records f x records logged.records l logged.logs)
      (AreNamed-own records);
}

-- with lines put, the batches are still open
pub puts_open : (f : Frame) (x y : List ℕ) (records : List Record) (left left' : List ℕ → Type 0) → IsOpen f x left →
    Puts f records x y left' → IsOpen f y left'
puts_open f x y records left left' o p =
    record { logged = p.logged; gate = omega (arith, p.gate, o.gate) }

-- and closing then gives the same heap at every moment
pub at_closed : {D : Type 0} (moment : D → ℕ) (may_hold_after : D → ℕ → List ℕ → Type 0) (f : Frame) (old mid new : D)
    (x y : List ℕ) (records : List Record) (left' : List ℕ → Type 0) → Logs f x records → Puts f records x y left' →
    AtEach moment may_hold_after old mid (GivesSame x) → AtEach moment may_hold_after mid new (GivesEither f y) →
    AtEach moment may_hold_after old new (GivesSame x)
at_closed moment may_hold_after f old mid new x y records left' l p before each =
    at_both moment may_hold_after old mid new (GivesSame x) (GivesEither f y) (GivesSame x) before each
    (λ image same. same)
    (λ image either. ⊎_elim (λ same. same ∙ p.back)
    (λ gives. gives ∙ ap Some p.heap ∙ sym (put_back_of-logs f x records l)) either)

-- Without a crash.

-- nothing is pending on it
unfoldable pub alone : (f : Frame) (x : List ℕ) (records : List Record) → Logs f x records → IsLogged f x (λ image. image ≡ x)
alone f x records l = record {
  records = records;
  logs = l;
  pending = λ image is. subst (λ (z : List ℕ). Agrees (line_ranges f records) x z) (sym is)
      (Agrees-refl (line_ranges f records) x);
}

-- the batches are still open, and the lines stand in the heap region
pub record WithLines (f : Frame) (records lines : List Record) (x : List ℕ) : Type 0 where
  pub logs : Logs f (with_records f lines x) records
  pub heap : heap_of f (with_records f lines x) ≡ put_records lines (heap_of f x)

pub with_records-put : (f : Frame) (records lines : List Record) (x : List ℕ) → Logs f x records → AreNamed records lines →
    AreLines lines → WithLines f records lines x
unfolding alone
with_records-put f records [] x l named long = record { logs = l; heap = refl }
with_records-put f records (r ∷ lines) x l named long =
    let a = alone f x records l in
    let rest = with_records-put f records lines (overwrite (heap_place f + 64 * r.line) r.bytes x)
    (put_logs f x _ a r named.0 long.0) named.1 long.1 in
    record {
      logs = rest.logs;
      heap = rest.heap ∙ ap (put_records lines) (put_heap f x _ a r named.0 long.0);
    }

pub restored : (f : Frame) (records : List Record) (x y : List ℕ) → Logs f x records → 0 < length records →
    y ≡ overwrite 64 (0 ∷ []) (with_records f records x) → PutsBack f (length records) x y
restored f records x y l some is =
    let w = with_records-put f records records x l (AreNamed-own records) (Logs-lines f x records l) in
    let z = with_records f records x in
    let o : IsOpen f z (λ image. image ≡ z) =
    record { logged = alone f z records w.logs; gate = logs_gate f z records w.logs some } in
    let c = closes f z y _ (λ image. image ≡ y) o is (λ image e. e) in
    record {
      records = records;
      logs = l;
      lines = refl;
      written = is;
      gives = put_back_of-logs f x records l ∙ ap Some (sym (c.heap ∙ w.heap));
      regions = c.rest.regions;
      gate = c.rest.gate;
    }

-- with no record, the first gate is closed
pub none_closed : (f : Frame) (x : List ℕ) → Logs f x [] → first_gate x ≡ 0
unfolding read_log batches_of records_of
none_closed f x l =
    let w = HasRegions-limits f x l.regions in
    let k = 64 * f.log_lines - 1 in
    let is : 64 * f.log_lines ≡ suc k = omega (arith, w.least_log) in
    shut k (first_gate x) (part 65 k x)
    (sym (ap (λ (n : ℕ). batches_of n (first_gate x ∷ part 65 k x)) is)
    ∙ sym (ap (batches_of (64 * f.log_lines)) (log_of-cons f x k is (omega (arith, l.regions.inside)))) ∙ l.log)
  where
    nonempty : (count : ℕ) (bytes : List ℕ) (more : List Record) → (count == 0) ≡ false →
        records_of count bytes ++ more ≡ [] → ⊥
    nonempty zero bytes more some e = absurd cc
    nonempty (suc count) bytes more some e = absurd (omega (arith, ap length e))

    by_rest : (count : ℕ) (bytes : List ℕ) (found : Option (List Record)) → (count == 0) ≡ false →
        option_map (λ more. records_of count bytes ++ more) found ≡ Some [] → ⊥
    by_rest count bytes None some e = none-some [] e
    by_rest count bytes (Some more) some e = nonempty count bytes more some (same_Some _ _ e)

    by_end : (count : ℕ) (bytes : List ℕ) (b c : Bool) (found : Option (List Record)) → (count == 0) ≡ c →
        (c || b) ≡ (count == 0 || b) →
        cond (c || b) None (option_map (λ more. records_of count bytes ++ more) found) ≡ Some [] → ⊥
    by_end count bytes b true found some same e = none-some [] e
    by_end count bytes true false found some same e = none-some [] e
    by_end count bytes false false found some same e = by_rest count bytes found some e

    by_gate : (gate fuel : ℕ) (log : List ℕ) (b : Bool) → (gate == 0) ≡ b →
        cond b (Some []) (cond (first_number (take 4 log) == 0 || nat_le (length log)
        (4 + 68 * first_number (take 4 log))) None
        (option_map (λ more. records_of (first_number (take 4 log)) (drop 4 log) ++ more)
        (batches_of fuel (drop (4 + 68 * first_number (take 4 log)) log)))) ≡ Some [] → gate ≡ 0
    by_gate gate fuel log true is e = grind (arith, nat_tests, is)
    by_gate gate fuel log false is e =
        absurd (by_end (first_number (take 4 log)) (drop 4 log)
        (nat_le (length log) (4 + 68 * first_number (take 4 log)))
        (first_number (take 4 log) == 0) (batches_of fuel (drop (4 + 68 * first_number (take 4 log)) log)) refl refl e)

    shut : (fuel gate : ℕ) (log : List ℕ) → batches_of (suc fuel) (gate ∷ log) ≡ Some [] → gate ≡ 0
    shut fuel gate log e = by_gate gate fuel log (gate == 0) refl e

-- a gate that is closed again
closed_again : (x : List ℕ) → first_gate x ≡ 0 → 65 ≤ length x → overwrite 64 (0 ∷ []) x ≡ x
closed_again x shut le =
    let gate : part 64 1 x ≡ 0 ∷ [] =
    ap (take 1) (drop_more x 64 0 (omega (arith, le))) ∙ ap (λ (n : ℕ). n ∷ []) shut in
    ap (λ (l : List ℕ). overwrite 64 l x) (sym gate) ∙ overwrite-part 64 1 x le

-- the same batches of the same bytes
pub logs_behind : (f : Frame) (x y : List ℕ) (records : List Record) {others : List Record} → x ≡ y → records ≡ others →
    Logs f x records → Logs f y others
logs_behind f x y records same is l = subst (λ (rs : List Record). Logs f y rs) is (subst (λ (z : List ℕ). Logs f z records) same l)

-- no line is put back
pub restored_none : (f : Frame) (x y : List ℕ) → Logs f x [] → y ≡ x → PutsBack f 0 x y
restored_none f x y l is =
    let limits = HasRegions-limits f x l.regions in
    subst (λ (z : List ℕ). PutsBack f 0 x z) (sym is) record {
      records = [];
      logs = l;
      lines = refl;
      written = sym (closed_again x (none_closed f x l) (omega (arith, l.regions.inside, limits.least_log)));
      gives = put_back_of-logs f x [] l;
      regions = l.regions;
      gate = none_closed f x l;
    }

-- Recovery at every moment.

pub back_same : (f : Frame) (x image : List ℕ) (left : List ℕ → Type 0) → MayPutBack f x left → left image →
    GivesSame x image
back_same f x image left (inl only) l = ap put_back_of (only image l)
back_same f x image left (inr logged) l = logged_same f x image left logged l

module _ {D : Type 0} {bytes : D → List ℕ} {tells : D → Bool} {moment : D → ℕ}
    {may_hold_after : D → ℕ → List ℕ → Type 0} {old now : D} (r : Reads bytes tells moment may_hold_after old now) where
  -- what a crash leaves now it left before
  pub left_before : (image : List ℕ) → may_hold_after now (moment now) image → may_hold_after old (moment old) image
  left_before image l =
      r.past.now_then (moment old) image (omega arith) (subst (λ (k : ℕ). may_hold_after now k image) r.time l)

  -- nothing is pending still
  pub reads_only : Only (bytes old) (may_hold_after old (moment old)) → Only (bytes now) (may_hold_after now (moment now))
  reads_only only image of_left = only image (left_before image of_left) ∙ sym r.same

  -- while it is read
  pub at_reads : (P : List ℕ → Type 0) → ((image : List ℕ) → may_hold_after old (moment old) image → P image) →
      AtEach moment may_hold_after old now P
  at_reads P before =
      at_read moment may_hold_after old old now P (at_first moment may_hold_after old P before) r.time r.past

  -- and while the batches are put back, what is said of the bytes
  pub at_restored : (P : List ℕ → List ℕ → Type 0) →
      ((image : List ℕ) → may_hold_after old (moment old) image → P (bytes old) image) → (new : D) →
      AtEach moment may_hold_after now new (P (bytes now)) → AtEach moment may_hold_after old new (P (bytes old))
  at_restored P before new each =
      at_both moment may_hold_after old now new (P (bytes old)) (P (bytes old)) (P (bytes old))
      (at_reads (P (bytes old)) before)
      (subst (λ (x : List ℕ). AtEach moment may_hold_after now new (P x)) r.same each) (λ image p. p) (λ image p. p)

  -- Batches that may be put back, once they are read.
  module _ (f : Frame) (m : MayPutBack f (bytes old) (may_hold_after old (moment old))) where
    logged_before : IsLogged f (bytes old) (may_hold_after old (moment old)) →
        IsLogged f (bytes now) (may_hold_after now (moment now))
    logged_before logged =
        subst (λ (x : List ℕ). IsLogged f x (may_hold_after now (moment now))) (sym r.same) record {
          records = logged.records;
          logs = logged.logs;
          pending = λ image of_left. logged.pending image (left_before image of_left);
        }

    -- the batches may still be put back
    pub reads_may : MayPutBack f (bytes now) (may_hold_after now (moment now))
    reads_may = ⊎_elim (λ only. inl (reads_only only)) (λ logged. inr (logged_before logged)) m

    -- all that is pending is logged
    pub reads_logged : (records : List Record) → Logs f (bytes now) records →
        IsLogged f (bytes now) (may_hold_after now (moment now))
    reads_logged records l = ⊎_elim
        (λ only. record {
          records = records;
          logs = l;
          pending = λ image of_left. subst (λ (z : List ℕ). Agrees (line_ranges f records) (bytes now) z)
              (sym (reads_only only image of_left)) (Agrees-refl (line_ranges f records) (bytes now));
        })
        (λ logged. logged_before logged) m

    pub reads_open : (records : List Record) → Logs f (bytes now) records → 0 < length records →
        IsOpen f (bytes now) (may_hold_after now (moment now))
    reads_open records l some =
        record { logged = reads_logged records l; gate = logs_gate f (bytes now) records l some }

    -- with no batch open, the disk is at rest
    pub reads_rest : Logs f (bytes now) [] → IsAtRest f (bytes now) (may_hold_after now (moment now))
    reads_rest l = record {
      regions = l.regions;
      gate = none_closed f (bytes now) l;
      only = closed_only f (bytes now) (may_hold_after now (moment now)) (reads_logged [] l) (none_closed f (bytes now) l);
    }
