-- Open batches that are put back one after another.
use Rattle.std.proofs.Common.{◌≡◌, ◌≤◌, ◌<◌, ◌∙◌, ℕ, ◌+◌, ◌-◌, ◌*◌, Bool, List, [], ◌∷◌, ◌++◌, length, take, drop}
use Rattle.std.proofs.Common.{refl, sym, ap, subst, arith, Some, append_assoc, length-append}
use Rattle.std.proofs.lemmas.Option.{same_Some}
use Rattle.std.proofs.lemmas.List.{drop-drop}
use Rattle.sdr_base.specs.Parts.{overwrite, part}
use Rattle.sdr_base.proofs.PartsLemmas.{length-part}
use Rattle.sdr_disk.specs.Moments.{AtEach, Reads}
use Rattle.sdr_disk.proofs.MomentsLemmas.{at_both}
use Rattle.sdr_log.specs.Batch.{end_of, log_end}
use Rattle.sdr_log.specs.Calls.{AreBelow, AreNamed, MayPut, Puts, PutsBack, with_records}
use Rattle.sdr_log.specs.Frame.{disk_bytes, first_number}
use Rattle.sdr_log.specs.Log.{AreLines, batches_of, heap_of, log_of, put_records, read_log, records_of}
use Rattle.sdr_log.specs.Logged.{GivesSame, Logs}
use Rattle.sdr_log.specs.Undoing.{AreOpen, records_at}
use Rattle.sdr_log.specs.declared.frame.Frame.{Frame}
use Rattle.sdr_log.specs.declared.record.Record.{Record}
use Rattle.sdr_log.proofs.BatchesLemmas.{Next, next_batch, no_batch, part-within, records_of-at}
use Rattle.sdr_log.proofs.FoundLemmas.{found}
use Rattle.sdr_log.proofs.GoodLemmas.{AreBelow-good}
use Rattle.sdr_log.proofs.PuttingLemmas.{Putting, putting_none, putting_written}
use Rattle.sdr_log.proofs.RestoringLemmas.{restored}
use Rattle.sdr_log.proofs.UndoingLemmas.{AreLines-records_at, length-records_at, part-with_records, putting_read}

-- the open batches end inside the log region
ends_inside : (f : Frame) (end : ℕ) (x : List ℕ) → disk_bytes f ≤ length x → AreOpen f end x → end < 64 * f.log_lines
unfolding read_log log_end log_of
ends_inside f end x wide o =
    let r = found (64 * f.log_lines) (log_of f x) o.records end o.logs.log o.ends in
    let long : length (log_of f x) ≡ 64 * f.log_lines = length-part 64 (64 * f.log_lines) x (omega (arith, wide)) in
    omega (arith, long, ap length r.split, length-append r.before (0 ∷ r.rest), r.at)

AreBelow-part : (n : ℕ) (a b c : List Record) → AreBelow n (a ++ b ++ c) → AreBelow n b
AreBelow-part n [] [] c below = tt
AreBelow-part n [] (r ∷ b) c below = (below.0, AreBelow-part n [] b c below.1)
AreBelow-part n (r ∷ a) b c below = AreBelow-part n a b c below.1

AreNamed-front : (all a b : List Record) → AreNamed all (a ++ b) → AreNamed all a × AreNamed all b
AreNamed-front all [] b named = (tt, named)
AreNamed-front all (r ∷ a) b named =
    let rest = AreNamed-front all a b named.1 in ((named.0, rest.0), rest.1)

put_records-append : (a b : List Record) (heap : List ℕ) → put_records (a ++ b) heap ≡ put_records b (put_records a heap)
put_records-append [] b heap = refl
put_records-append (r ∷ a) b heap = put_records-append a b _

with_records-append : (f : Frame) (a b : List Record) (x : List ℕ) →
    with_records f (a ++ b) x ≡ with_records f b (with_records f a x)
with_records-append f [] b x = refl
with_records-append f (r ∷ a) b x = with_records-append f a b _

-- with a batch of the lines put that are left
putting_batch : {D : Type 0} (moment : D → ℕ) (may_hold_after : D → ℕ → List ℕ → Type 0) (bytes : D → List ℕ)
    (f : Frame) (all own behind : List Record) (old mid new : D) →
    Putting moment may_hold_after bytes f all (own ++ behind) old mid → bytes new ≡ with_records f own (bytes mid) →
    (MayPut f own (bytes mid) (may_hold_after mid (moment mid)) →
    Puts f own (bytes mid) (bytes new) (may_hold_after new (moment new))
    × AtEach moment may_hold_after mid new (GivesSame (bytes mid))) →
    Putting moment may_hold_after bytes f all behind old new
putting_batch moment may_hold_after bytes f all own behind old mid new p is put = record {
  written = ap (with_records f behind) is ∙ sym (with_records-append f own behind (bytes mid)) ∙ p.written;
  so_far = λ m.
      let s = p.so_far m in
      let named = AreNamed-front s.may.logged.records own behind s.may.named in
      let t = put (record { logged = s.may.logged; named = named.0 }) in
      record {
        may = record {
          logged = t.0.logged;
          named = subst (λ (rs : List Record). AreNamed rs behind)
              (same_Some _ _ (sym s.may.logged.logs.log ∙ sym t.0.log ∙ t.0.logged.logs.log)) named.1;
        };
        heap = ap (put_records behind) t.0.heap ∙ sym (put_records-append own behind (heap_of f (bytes mid))) ∙ s.heap;
        log = t.0.log ∙ s.log;
        ends = t.0.ends ∙ s.ends;
        gate = t.0.gate ∙ s.gate;
        back = t.0.back ∙ s.back;
        each = at_both moment may_hold_after old mid new (GivesSame (bytes old)) (GivesSame (bytes mid))
            (GivesSame (bytes old)) s.each t.1 (λ image same. same) (λ image same. same ∙ s.back);
      };
}

-- what stands where the batches before the place are put back, of all that were open
pub record Undone {D : Type 0} (moment : D → ℕ) (may_hold_after : D → ℕ → List ℕ → Type 0) (bytes : D → List ℕ)
    (f : Frame) (end place : ℕ) (old now : D) : Type 0 where
  pub all : List Record
  pub was : Logs f (bytes old) all
  pub some : 0 < length all
  pub within : place ≤ end
  pub inside : end < 64 * f.log_lines
  pub done : List Record
  pub rest : List Record
  pub parts : all ≡ done ++ rest
  pub fuel : ℕ
  pub batches : batches_of fuel (drop place (log_of f (bytes old))) ≡ Some rest
  pub ends : end_of fuel (drop place (log_of f (bytes old))) ≡ Some (end - place)
  pub log : log_of f (bytes now) ≡ log_of f (bytes old)
  pub putting : Putting moment may_hold_after bytes f all rest old now
  pub calls : moment now + 2 * length rest ≤ moment old + 2 * length all

module _ {D : Type 0} (moment : D → ℕ) (may_hold_after : D → ℕ → List ℕ → Type 0) (bytes : D → List ℕ) (f : Frame)
    (end : ℕ) (old : D) where
  -- before the first
  pub undone_none : disk_bytes f ≤ length (bytes old) → AreOpen f end (bytes old) →
      Undone moment may_hold_after bytes f end 0 old old
  unfolding read_log log_end
  undone_none wide o = record {
    all = o.records;
    was = o.logs;
    some = o.some;
    within = omega arith;
    inside = ends_inside f end (bytes old) wide o;
    done = [];
    rest = o.records;
    parts = refl;
    fuel = 64 * f.log_lines;
    batches = o.logs.log;
    ends = o.ends ∙ ap Some (omega arith);
    log = refl;
    putting = putting_none moment may_hold_after bytes f o.records old;
    calls = omega arith;
  }

  -- With some put back, and a batch left.
  module _ (place : ℕ) (now : D) (u : Undone moment may_hold_after bytes f end place old now) (lt : place < end)
      (wide : disk_bytes f ≤ length (bytes old)) where
    pub next : Next (drop place (log_of f (bytes old))) u.rest (end - place)
    next = next_batch u.fuel (drop place (log_of f (bytes old))) u.rest (end - place) (omega (arith, lt)) u.batches u.ends

    -- its records, as they stood on the disk
    abbrev pub own : List Record
    own = records_at (64 + (place + 5)) next.count (bytes old)

    pub next_inside : place + 5 + 68 * next.count ≤ 64 * f.log_lines
    next_inside = omega (arith, next.fits, u.inside, u.within, lt)

    -- where the log region is the same, they still stand there
    pub same_own : (y : List ℕ) → log_of f y ≡ log_of f (bytes old) →
        records_at (64 + (place + 5)) next.count y ≡ own
    unfolding log_of
    same_own y same =
        sym (records_of-at next.count (place + 5) (64 * f.log_lines) y next_inside)
        ∙ ap (λ (l : List ℕ). records_of next.count (drop (place + 5) l)) same
        ∙ records_of-at next.count (place + 5) (64 * f.log_lines) (bytes old) next_inside

    rest_is : u.rest ≡ own ++ next.behind
    unfolding log_of
    rest_is =
        next.split
        ∙ ap (λ (rs : List Record). rs ++ next.behind)
        (ap (records_of next.count) (drop-drop 5 place (log_of f (bytes old)))
        ∙ records_of-at next.count (place + 5) (64 * f.log_lines) (bytes old) next_inside)

    all_is : u.all ≡ u.done ++ own ++ next.behind
    all_is = u.parts ∙ ap (λ (rs : List Record). u.done ++ rs) rest_is ∙ sym (append_assoc u.done own next.behind)

    pub own_below : AreBelow f.heap_lines own
    own_below = AreBelow-part f.heap_lines u.done own next.behind
        (subst (AreBelow f.heap_lines) all_is (AreBelow-good f.heap_lines u.all u.was.good))

    own_lines : AreLines own
    own_lines = AreLines-records_at (64 + (place + 5)) next.count (bytes old) (omega (arith, next_inside, wide))

    -- they are among those that are left
    pub own_left : next.count ≤ length u.rest
    own_left = omega (
      arith,
      ap length rest_is,
      length-append own next.behind,
      length-records_at (64 + (place + 5)) next.count (bytes old),
    )

    -- how many there are is read
    pub next_count : (y : List ℕ) (n : ℕ) → log_of f y ≡ log_of f (bytes old) →
        n ≡ first_number (part (64 + place + 1) 4 y) → n ≡ next.count
    unfolding log_of
    next_count y n same is =
        let e : 64 + (place + 1) ≡ 64 + place + 1 = omega arith in
        let inside : place + 1 + 4 ≤ 64 * f.log_lines = omega (arith, next_inside) in
        is
        ∙ ap (λ (k : ℕ). first_number (part k 4 y)) (sym e)
        ∙ ap first_number (sym (part-within 64 (place + 1) 4 (64 * f.log_lines) y inside))
        ∙ ap (λ (l : List ℕ). first_number (part (place + 1) 4 l)) same
        ∙ ap (λ (l : List ℕ). first_number (take 4 l)) (sym (drop-drop 1 place (log_of f (bytes old))))
        ∙ sym next.is

    -- With them put back.
    module _ (mid new : D) (tells : D → Bool) (r : Reads bytes tells moment may_hold_after now mid) (count : ℕ)
        (is : count ≡ next.count) where
      abbrev pub put : List Record
      put = records_at (64 + (place + 5)) count (bytes mid)

      pub put_is : put ≡ own
      put_is =
          ap (λ (n : ℕ). records_at (64 + (place + 5)) n (bytes mid)) is
          ∙ same_own (bytes mid) (ap (log_of f) r.same ∙ u.log)

      putting_mid : Putting moment may_hold_after bytes f u.all (put ++ next.behind) old mid
      putting_mid =
          let all_left = rest_is ∙ ap (λ (rs : List Record). rs ++ next.behind) (sym put_is) in
          subst (λ (rs : List Record). Putting moment may_hold_after bytes f u.all rs old mid) all_left
          (putting_read f u.all u.rest old now mid u.putting r)

      -- while they are put back
      pub undone_each : MayPut f u.all (bytes old) (may_hold_after old (moment old)) →
          (MayPut f put (bytes mid) (may_hold_after mid (moment mid)) →
          AtEach moment may_hold_after mid new (GivesSame (bytes mid))) →
          AtEach moment may_hold_after old new (GivesSame (bytes old))
      undone_each m each =
          let s = putting_mid.so_far m in
          let named = AreNamed-front s.may.logged.records put next.behind s.may.named in
          at_both moment may_hold_after old mid new (GivesSame (bytes old)) (GivesSame (bytes mid)) (GivesSame (bytes old))
          s.each (each (record { logged = s.may.logged; named = named.0 })) (λ image same. same)
          (λ image same. same ∙ s.back)

      pub undone_more : bytes new ≡ with_records f put (bytes mid) → length (bytes mid) ≡ length (bytes old) →
          moment new ≤ moment mid + 2 * count →
          (MayPut f put (bytes mid) (may_hold_after mid (moment mid)) →
          Puts f put (bytes mid) (bytes new) (may_hold_after new (moment new))
          × AtEach moment may_hold_after mid new (GivesSame (bytes mid))) →
          Undone moment may_hold_after bytes f end (place + (5 + 68 * count)) old new
      unfolding log_of
      undone_more written long soon puts = record {
        all = u.all;
        was = u.was;
        some = u.some;
        within = omega (arith, is, next.fits, u.within, lt);
        inside = u.inside;
        done = u.done ++ own;
        rest = next.behind;
        parts = all_is;
        fuel = next.fuel;
        batches = ap (batches_of next.fuel) suffix ∙ next.batches;
        ends = ap (end_of next.fuel) suffix ∙ next.ends ∙ ap Some (omega (arith, is, next.fits, u.within, lt));
        log = put_log ∙ ap (log_of f) r.same ∙ u.log;
        putting = putting_batch moment may_hold_after bytes f u.all put next.behind old mid new putting_mid written puts;
        calls = omega (
          arith,
          soon,
          r.time,
          u.calls,
          is,
          ap length rest_is,
          length-append own next.behind,
          length-records_at (64 + (place + 5)) next.count (bytes old),
        );
      }
        where
          put_log : log_of f (bytes new) ≡ log_of f (bytes mid)
          put_log =
              ap (part 64 (64 * f.log_lines)) written
              ∙ part-with_records f put (bytes mid) 64 (64 * f.log_lines) (omega arith) (omega (arith, long, wide))
              (subst (AreBelow f.heap_lines) (sym put_is) own_below) (subst AreLines (sym put_is) own_lines)

          suffix : drop (place + (5 + 68 * count)) (log_of f (bytes old))
              ≡ drop (5 + 68 * next.count) (drop place (log_of f (bytes old)))
          suffix =
              ap (λ (n : ℕ). drop (place + (5 + 68 * n)) (log_of f (bytes old))) is
              ∙ sym (drop-drop (5 + 68 * next.count) place (log_of f (bytes old)))

  -- With all put back.
  module _ (place : ℕ) (now : D) (u : Undone moment may_hold_after bytes f end place old now) (past : end ≤ place) where
    pub none_left : u.rest ≡ []
    none_left =
        no_batch u.fuel (drop place (log_of f (bytes old))) u.rest u.batches
        (u.ends ∙ ap Some (omega (arith, past)))

    -- and the batches closed
    pub undone_back : (z : List ℕ) (records : List Record) → z ≡ overwrite 64 (0 ∷ []) (bytes now) →
        Logs f (bytes old) records → PutsBack f (length records) (bytes old) z
    undone_back z records is l =
        let same : u.all ≡ records = same_Some _ _ (sym u.was.log ∙ l.log) in
        subst (λ (rs : List Record). PutsBack f (length rs) (bytes old) z) same
        (restored f u.all (bytes old) z u.was u.some (is ∙ ap (overwrite 64 (0 ∷ []))
        (putting_written moment may_hold_after bytes f u.all old now u.rest none_left u.putting)))

-- all are the records of any that were logged
pub all_long : {D : Type 0} {moment : D → ℕ} {may_hold_after : D → ℕ → List ℕ → Type 0} {bytes : D → List ℕ}
    {f : Frame} {end place : ℕ} {old now : D} (u : Undone moment may_hold_after bytes f end place old now)
    (records : List Record) → Logs f (bytes old) records → length u.all ≡ length records
all_long u records l = ap length (same_Some _ _ (sym u.was.log ∙ l.log))
