-- Lines that open batches name, written to their places.
use Rattle.std.proofs.Common.{◌≡◌, ◌≤◌, ◌<◌, ◌⊎◌, inl, inr, ℕ, ◌+◌, ◌*◌, true, List, [], ◌∷◌}
use Rattle.std.proofs.Common.{length, refl, sym, ap, ◌∙◌, subst, arith}
use Rattle.std.proofs.lemmas.Bool.{cases_eq}
use Rattle.std.proofs.lemmas.Bool.Decides.{nat_tests}
use Rattle.sdr_base.proofs.PartsLemmas.{overwrite-inside, overwrite-part, part-overwrite}
use Rattle.sdr_disk.specs.Moments.{AtEach, IsTorn, Only, Writes}
use Rattle.sdr_base.specs.Parts.{overwrite, part}
use Rattle.sdr_disk.specs.Ranges.{Agrees, IsInNone, range}
use Rattle.sdr_disk.proofs.MomentsLemmas.{at_first, at_written}
use Rattle.sdr_base.proofs.PartsLemmas.{length-overwrite}
use Rattle.sdr_disk.proofs.RangesLemmas.{Agrees-more, Agrees-one_more, Agrees-overwrite, Agrees-refl, Agrees-sym}
use Rattle.sdr_disk.proofs.RangesLemmas.{Agrees-trans}
use Rattle.sdr_base.proofs.PartsLemmas.{length-part}
use Rattle.sdr_log.specs.Batch.{log_end}
use Rattle.sdr_log.specs.Calls.{AreBelow, AreNamed, MayPut, Puts, with_records}
use Rattle.sdr_log.specs.Frame.{disk_bytes, heap_place}
use Rattle.sdr_log.specs.Log.{AreLines, first_gate, heap_of, names_line, put_records, read_log}
use Rattle.sdr_log.specs.Logged.{GivesSame, HasRegions, IsLogged, Logs, line_ranges}
use Rattle.sdr_log.specs.declared.frame.Frame.{Frame}
use Rattle.sdr_log.specs.declared.record.Record.{Record}
use Rattle.sdr_log.proofs.GoodLemmas.{names_line-below}
use Rattle.sdr_log.proofs.LoggedLemmas.{HasRegions-limits, logged_same, pending_gate, pending_log, pending_logs}
use Rattle.sdr_log.proofs.LoggedLemmas.{pending_end, pending_same}
use Rattle.sdr_log.proofs.PendingLemmas.{written_left}

-- a line written to the disk, as a line of the heap
heap_of-overwrite : (f : Frame) (line : ℕ) (bytes x : List ℕ) → HasRegions f x → length bytes ≡ 64 →
    line < f.heap_lines →
    heap_of f (overwrite (heap_place f + 64 * line) bytes x) ≡ overwrite (64 * line) bytes (heap_of f x)
unfolding heap_of
heap_of-overwrite f line bytes x regions long below =
    let n = 64 * f.heap_lines in
    let p = heap_place f in
    let heap = part p n x in
    let wide : p + n ≤ length x = omega (arith, regions.inside) in
    let size : length heap ≡ n = length-part p n x wide in
    let new : length (overwrite (64 * line) bytes heap) ≡ n =
    length-overwrite (64 * line) bytes heap (omega (arith, size, long, below)) ∙ size in
    ap (λ (y : List ℕ). part p n (overwrite (p + 64 * line) bytes y)) (sym (overwrite-part p n x wide))
    ∙ ap (part p n) (overwrite-inside p (64 * line) heap bytes x (omega (arith, size, wide))
    (omega (arith, size, long, below)))
    ∙ ap (λ (k : ℕ). part p k (overwrite p (overwrite (64 * line) bytes heap) x)) (sym new)
    ∙ part-overwrite p (overwrite (64 * line) bytes heap) x (omega (arith, new, wide))

-- a place outside all named lines is outside each of them
named_outside : (f : Frame) (records : List Record) (line i : ℕ) → names_line records line ≡ true →
    IsInNone (line_ranges f records) i → (i < heap_place f + 64 * line) ⊎ (heap_place f + 64 * line + 64 ≤ i)
named_outside f [] line i is o = absurd cc
named_outside f (r ∷ records) line i is o = elim (cases_eq r.line line) [
  | inl same ↦
      let e : heap_place f + 64 * r.line ≡ heap_place f + 64 * line = omega arith in
      subst (λ (k : ℕ). (i < k) ⊎ (k + 64 ≤ i)) e o.0
  | inr other ↦ named_outside f records line i (grind (arith, nat_tests)) o.1
]

Agrees-named : (f : Frame) (records : List Record) (line : ℕ) (a b : List ℕ) → names_line records line ≡ true →
    Agrees (range (heap_place f + 64 * line) 64 ∷ []) a b → Agrees (line_ranges f records) a b
Agrees-named f records line a b is g =
    Agrees-more (range (heap_place f + 64 * line) 64 ∷ []) (line_ranges f records) a b
    (λ i o. (named_outside f records line i is o, tt)) g

-- A logged line, over a disk of these bytes.
module _ (f : Frame) (x : List ℕ) (left : List ℕ → Type 0) (l : IsLogged f x left) (r : Record)
    (named : names_line l.records r.line ≡ true) (long : length r.bytes ≡ 64) where
  abbrev pub put : List ℕ
  put = overwrite (heap_place f + 64 * r.line) r.bytes x

  below : r.line < f.heap_lines
  below = names_line-below f.heap_lines l.records r.line l.logs.good named

  put_line : Agrees (range (heap_place f + 64 * r.line) 64 ∷ []) x put
  put_line =
      subst (λ (n : ℕ). Agrees (range (heap_place f + 64 * r.line) n ∷ []) x put) long
      (Agrees-overwrite (heap_place f + 64 * r.line) r.bytes x [] (omega (arith, below, long, l.logs.regions.inside)))

  put_agrees : Agrees (line_ranges f l.records) x put
  put_agrees = Agrees-named f l.records r.line x put named put_line

  -- the open batches are the same
  pub put_logs : Logs f put l.records
  put_logs = pending_logs f x put l.records l.logs put_agrees

  pub put_heap : heap_of f put ≡ overwrite (64 * r.line) r.bytes (heap_of f x)
  put_heap = heap_of-overwrite f r.line r.bytes x l.logs.regions long below

  pub put_log : read_log f put ≡ read_log f x
  put_log = pending_log f x put l.records l.logs put_agrees

  pub put_end : log_end f put ≡ log_end f x
  put_end = pending_end f x put l.records l.logs put_agrees

  pub put_gate : first_gate put ≡ first_gate x
  put_gate = let w = HasRegions-limits f x l.logs.regions in
      pending_gate f x put l.records l.logs put_agrees (omega (arith, w.least_log))

  pub put_same : GivesSame x put
  put_same = pending_same f x put l.records l.logs put_agrees

  -- what a crash leaves of the write
  pub torn_same : (whole image : List ℕ) → left whole →
      Agrees (range (heap_place f + 64 * r.line) 64 ∷ []) whole image → GivesSame x image
  torn_same whole image of_left g =
      pending_same f x image l.records l.logs
      (Agrees-trans (line_ranges f l.records) x whole image (l.pending whole of_left)
      (Agrees-named f l.records r.line whole image named g))

  -- where other bytes may stand in the line, all that is pending is logged, as before
  pub still_logged : (y : List ℕ) (left' : List ℕ → Type 0) → Agrees (range (heap_place f + 64 * r.line) 64 ∷ []) x y →
      ((image : List ℕ) → left' image → IsTorn left (heap_place f + 64 * r.line) 64 image) → IsLogged f y left'
  still_logged y left' line torn =
      let here = Agrees-named f l.records r.line x y named line in
      record {
        records = l.records;
        logs = pending_logs f x y l.records l.logs here;
        pending = λ image of_left.
            let t = torn image of_left in
            Agrees-trans (line_ranges f l.records) y x image (Agrees-sym (line_ranges f l.records) x y here)
            (Agrees-trans (line_ranges f l.records) x t.whole image (l.pending t.whole t.left_before)
            (Agrees-named f l.records r.line t.whole image named t.agrees));
      }

  pub put_logged : (left' : List ℕ → Type 0) →
      ((image : List ℕ) → left' image → IsTorn left (heap_place f + 64 * r.line) 64 image) → IsLogged f put left'
  put_logged left' torn = still_logged put left' put_line torn

-- what stands where so many lines are put and these are left
pub record PutSoFar {D : Type 0} (moment : D → ℕ) (may_hold_after : D → ℕ → List ℕ → Type 0) (f : Frame)
    (lines rest : List Record) (old now : D) (x y : List ℕ) : Type 0 where
  pub may : MayPut f rest y (may_hold_after now (moment now))
  pub heap : put_records rest (heap_of f y) ≡ put_records lines (heap_of f x)
  pub log : read_log f y ≡ read_log f x
  pub ends : log_end f y ≡ log_end f x
  pub gate : first_gate y ≡ first_gate x
  pub back : GivesSame x y
  pub each : AtEach moment may_hold_after old now (GivesSame x)

-- what stands on the disk then
pub record Putting {D : Type 0} (moment : D → ℕ) (may_hold_after : D → ℕ → List ℕ → Type 0)
    (bytes : D → List ℕ) (f : Frame) (lines rest : List Record) (old now : D) : Type 0 where
  pub written : with_records f rest (bytes now) ≡ with_records f lines (bytes old)
  pub so_far : MayPut f lines (bytes old) (may_hold_after old (moment old)) →
      PutSoFar moment may_hold_after f lines rest old now (bytes old) (bytes now)

module _ {D : Type 0} (moment : D → ℕ) (may_hold_after : D → ℕ → List ℕ → Type 0) (bytes : D → List ℕ)
    (f : Frame) (lines : List Record) (old : D) where
  pub putting_none : Putting moment may_hold_after bytes f lines lines old old
  putting_none = record {
    written = refl;
    so_far = λ m. record {
      may = m;
      heap = refl;
      log = refl;
      ends = refl;
      gate = refl;
      back = refl;
      each = at_first moment may_hold_after old (GivesSame (bytes old))
          (λ image l. logged_same f (bytes old) image _ m.logged l);
    };
  }

  -- One line more.
  module _ (now new : D) (all rest : List Record) (r : Record) (split : all ≡ r ∷ rest) (long : length r.bytes ≡ 64)
      (p : Putting moment may_hold_after bytes f lines all old now)
      (w : Writes moment may_hold_after (heap_place f + 64 * r.line) 64 now new) where
    abbrev place : ℕ
    place = heap_place f + 64 * r.line

    -- at each moment of its write
    pub putting_each : MayPut f lines (bytes old) (may_hold_after old (moment old)) →
        AtEach moment may_hold_after old new (GivesSame (bytes old))
    putting_each m =
        let s = p.so_far m in
        let named = (subst (λ (l : List Record). AreNamed s.may.logged.records l) split s.may.named).0 in
        at_written moment may_hold_after old now new (GivesSame (bytes old)) place 64 s.each w
        (λ whole image of_left g. torn_same f (bytes now) _ s.may.logged r named long whole image of_left g ∙ s.back)

    -- where it failed
    pub putting_failed : Agrees (range place 64 ∷ []) (bytes now) (bytes new) →
        MayPut f lines (bytes old) (may_hold_after old (moment old)) →
        IsLogged f (bytes new) (may_hold_after new (moment new))
    putting_failed others m =
        let s = p.so_far m in
        let named = (subst (λ (l : List Record). AreNamed s.may.logged.records l) split s.may.named).0 in
        still_logged f (bytes now) _ s.may.logged r named long (bytes new) (may_hold_after new (moment new)) others
        (written_left moment may_hold_after now new place 64 w)

    -- and once it is done
    pub putting_more : bytes new ≡ overwrite place r.bytes (bytes now) → moment new ≡ moment now + 2 →
        Putting moment may_hold_after bytes f lines rest old new
    unfolding put_logged still_logged
    putting_more is rises = record {
      written = subst (λ (y : List ℕ). with_records f rest y ≡ with_records f lines (bytes old)) (sym is)
          (subst (λ (l : List Record). with_records f l (bytes now) ≡ with_records f lines (bytes old)) split p.written);
      so_far = λ m.
          let s = p.so_far m in
          let x = bytes now in
          let named = subst (λ (l : List Record). AreNamed s.may.logged.records l) split s.may.named in
          let l = s.may.logged in
          subst (λ (y : List ℕ). PutSoFar moment may_hold_after f lines rest old new (bytes old) y) (sym is)
          record {
            may = record {
              logged = put_logged f x _ l r named.0 long (may_hold_after new (moment new))
                  (λ image of_left. w.torn (moment new) image (omega arith) (omega arith) of_left);
              named = named.1;
            };
            heap = ap (put_records rest) (put_heap f x _ l r named.0 long)
                ∙ subst (λ (l : List Record). put_records l (heap_of f x) ≡ put_records lines (heap_of f (bytes old)))
                split s.heap;
            log = put_log f x _ l r named.0 long ∙ s.log;
            ends = put_end f x _ l r named.0 long ∙ s.ends;
            gate = put_gate f x _ l r named.0 long ∙ s.gate;
            back = put_same f x _ l r named.0 long ∙ s.back;
            each = putting_each m;
          };
    }

  -- all lines put
  pub putting_all : (now : D) (rest : List Record) → rest ≡ [] →
      Putting moment may_hold_after bytes f lines rest old now →
      MayPut f lines (bytes old) (may_hold_after old (moment old)) →
      Puts f lines (bytes old) (bytes now) (may_hold_after now (moment now))
  putting_all now rest none p m =
      let s = p.so_far m in
      record {
        logged = s.may.logged;
        heap = subst (λ (l : List Record). put_records l (heap_of f (bytes now))
            ≡ put_records lines (heap_of f (bytes old))) none s.heap;
        log = s.log;
        ends = s.ends;
        gate = s.gate;
        back = s.back;
      }

  pub putting_written : (now : D) (rest : List Record) → rest ≡ [] →
      Putting moment may_hold_after bytes f lines rest old now → bytes now ≡ with_records f lines (bytes old)
  putting_written now rest none p =
      subst (λ (l : List Record). with_records f l (bytes now) ≡ with_records f lines (bytes old)) none p.written

-- Where nothing was pending.

-- lines that were put change their places alone
pub with_records-agrees : (f : Frame) (lines : List Record) (x : List ℕ) → disk_bytes f ≤ length x →
    AreBelow f.heap_lines lines → AreLines lines → Agrees (line_ranges f lines) x (with_records f lines x)
with_records-agrees f [] x le below long = Agrees-refl [] x
with_records-agrees f (r ∷ lines) x le below long =
    let place = heap_place f + 64 * r.line in
    let put = overwrite place r.bytes x in
    let one : Agrees (range place 64 ∷ line_ranges f lines) x put =
    subst (λ (n : ℕ). Agrees (range place n ∷ line_ranges f lines) x put) long.0
    (Agrees-overwrite place r.bytes x (line_ranges f lines) (omega (arith, le, below.0, long.0))) in
    let rest = with_records-agrees f lines put (omega (arith, le, one.long)) below.1 long.1 in
    Agrees-trans (range place 64 ∷ line_ranges f lines) x put (with_records f lines put) one
    (Agrees-one_more (range place 64) (line_ranges f lines) put (with_records f lines put) rest)

-- a crash leaves other bytes in the lines alone
module _ {D : Type 0} (moment : D → ℕ) (may_hold_after : D → ℕ → List ℕ → Type 0) (f : Frame) (lines : List Record)
    (old : D) (x : List ℕ) where
  pub lines_none : Only x (may_hold_after old (moment old)) →
      AtEach moment may_hold_after old old (Agrees (line_ranges f lines) x)
  lines_none only =
      at_first moment may_hold_after old (Agrees (line_ranges f lines) x)
      (λ image l. subst (λ (y : List ℕ). Agrees (line_ranges f lines) x y) (sym (only image l))
      (Agrees-refl (line_ranges f lines) x))

  -- with one of them more
  pub lines_more : (now new : D) (all rest : List Record) (r : Record) → all ≡ r ∷ rest →
      ((i : ℕ) → IsInNone (line_ranges f lines) i → IsInNone (line_ranges f all) i) →
      AtEach moment may_hold_after old now (Agrees (line_ranges f lines) x) →
      Writes moment may_hold_after (heap_place f + 64 * r.line) 64 now new →
      AtEach moment may_hold_after old new (Agrees (line_ranges f lines) x)
  lines_more now new all rest r split inside so_far w =
      at_written moment may_hold_after old now new (Agrees (line_ranges f lines) x) (heap_place f + 64 * r.line) 64 so_far
      w
      (λ whole image of_left g. Agrees-trans (line_ranges f lines) x whole image
      (so_far.each (moment now) whole so_far.later (omega arith) of_left)
      (Agrees-more (range (heap_place f + 64 * r.line) 64 ∷ []) (line_ranges f lines) whole image
      (λ i o. ((subst (λ (l : List Record). IsInNone (line_ranges f l) i) split (inside i o)).0, tt)) g))
