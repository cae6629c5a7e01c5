-- What stands of a transaction whose lines may be spilled.
use Rattle.std.proofs.Common.{◌≡◌, ◌≤◌, ◌<◌, ◌∙◌, ℕ, zero, suc, ◌+◌, ◌*◌, ◌/◌, Bool, true, false, ◌||◌, ◌==◌, cond, List, [], ◌∷◌, ◌++◌}
use Rattle.std.proofs.Common.{drop, length, get_or, refl, sym, ap, subst, arith, true≢false, append-nil, length-append}
use Rattle.std.specs.Prelude.{IfOk, OnOk, Result, Ok, Err, unwrap_or, IsPermutation, Contains}
use Rattle.std.specs.List.{All}
use Rattle.std.proofs.lemmas.Bool.Decides.{nat_tests}
use Rattle.std.proofs.lemmas.List.Sorted.{All-permutation, IsPermutation-append_right, IsPermutation-map}
use Rattle.std.proofs.lemmas.List.Sorted.{IsPermutation-sym, IsPermutation-trans, length_permutation}
use Rattle.sdr_base.specs.Parts.{part}
use Rattle.sdr_log.specs.Batch.{batch_size, with_batch}
use Rattle.sdr_log.specs.Calls.{AreBelow, AreNamed, HasPlace, with_records}
use Rattle.sdr_log.specs.Frame.{IsInLimits, heap_place}
use Rattle.sdr_log.specs.Log.{AreLines, are_good, heap_of, names_line, put_records}
use Rattle.sdr_log.specs.Logged.{Logs}
use Rattle.sdr_log.specs.Spilled.{Just, KeepsBegin, MaySpill, Spills}
use Rattle.sdr_log.specs.declared.frame.Frame.{Frame}
use Rattle.sdr_log.specs.declared.record.Record.{Record}
use Rattle.sdr_log.proofs.BatchesLemmas.{part-within}
use Rattle.sdr_log.proofs.GoodLemmas.{HoldLines-put_records, names_line-below, put_records-all_own}
use Rattle.sdr_log.proofs.LoggedLemmas.{HasRegions-limits, length-heap_of}
use Rattle.sdr_log.proofs.RecordsLemmas.{SameBut-put_records, are_good-cons, part-same_but, put_records-same_but}
use Rattle.sdr_log.proofs.SpilledLemmas.{spills_bytes}
use Rattle.sdr_log.proofs.SpillingLemmas.{keeps_logs}
use Rattle.sdr_image.specs.Buffer.{Changes, Rises}
use Rattle.sdr_image.specs.Lines.{AreClean, AreMarked, IsLines, Keeps, Stands, begun_of, lines_named, now_of}
use Rattle.sdr_image.specs.Marks.{is_buffered, is_clean, is_logged, stand_at, touched_in}
use Rattle.sdr_image.specs.declared.lines.Lines.{Lines}
use Rattle.sdr_image.specs.declared.marks.Stand.{Stand}
use Rattle.sdr_image.specs.declared.marks.Stand.TheVariants.{Buffered, Clean, Logged}
use Rattle.sdr_image.proofs.LinesLemmas.{HoldLines-permutation, are_good-permutation, names_line-permutation}
use Rattle.sdr_image.proofs.MarksLemmas.{touched-same}

-- records behind others

pub names_line-append : (a b : List Record) (line : ℕ) → names_line (a ++ b) line ≡ (names_line a line || names_line b line)
names_line-append [] b line = refl
names_line-append (r ∷ a) b line =
    ap (λ (v : Bool). r.line == line || v) (names_line-append a b line)
    ∙ or_assoc (r.line == line) (names_line a line) (names_line b line)
  where
    or_assoc : (a b c : Bool) → (a || (b || c)) ≡ ((a || b) || c)
    or_assoc true b c = refl
    or_assoc false b c = refl

pub good_behind : (n : ℕ) (a b : List Record) → are_good n (a ++ b) ≡ true → are_good n b ≡ true
good_behind n [] b good = good
good_behind n (r ∷ a) b good = good_behind n a b (are_good-cons n r (a ++ b) good).2

head_same : (m n : ℕ) (xs ys : List ℕ) → m ∷ xs ≡ n ∷ ys → (m ≡ n) × (xs ≡ ys)
head_same m n xs ys is = (ap (λ (l : List ℕ). get_or l 0 0) is, ap (λ (l : List ℕ). drop 1 l) is)

-- records of the same lines
pub names_line-lines : (a b : List Record) (line : ℕ) → lines_named a ≡ lines_named b → names_line a line ≡ names_line b line
names_line-lines [] [] line is = refl
names_line-lines [] (s ∷ b) line is = absurd cc
names_line-lines (r ∷ a) [] line is = absurd cc
names_line-lines (r ∷ a) (s ∷ b) line is =
    let h = head_same r.line s.line (lines_named a) (lines_named b) is in
    (λ i. h.0 i == line || names_line-lines a b line h.1 i)

pub are_good-lines : (n : ℕ) (a b : List Record) → lines_named a ≡ lines_named b → are_good n b ≡ true → are_good n a ≡ true
are_good-lines n [] b is good = refl
are_good-lines n (r ∷ a) [] is good = absurd cc
are_good-lines n (r ∷ a) (s ∷ b) is good =
    let h = head_same r.line s.line (lines_named a) (lines_named b) is in
    let g = are_good-cons n s b good in
    let rest = are_good-lines n a b h.1 g.2 in
    let other : names_line a r.line ≡ false = names_line-lines a b r.line h.1 ∙ ap (names_line b) h.0 ∙ g.1 in
    let below : r.line < n = omega (arith, h.0, g.0) in
    grind (arith, nat_tests, below, rest, other)

pub AreBelow-permutation : (n : ℕ) (a b : List Record) → IsPermutation a b → AreBelow n a → AreBelow n b
AreBelow-permutation n a b p below = back b (All-permutation (λ (r : Record). r.line < n) a b p (forth a below))
  where
    forth : (rs : List Record) → AreBelow n rs → All (λ (r : Record). r.line < n) rs
    forth [] below k d lt = absurd (omega arith)
    forth (r ∷ rs) below zero d lt = below.0
    forth (r ∷ rs) below (suc k) d lt = forth rs below.1 k d (omega (arith, lt))

    back : (rs : List Record) → All (λ (r : Record). r.line < n) rs → AreBelow n rs
    back [] all = tt
    back (r ∷ rs) all = (all 0 r (omega arith), back rs (λ k d lt. all (suc k) d (omega (arith, lt))))

AreNamed-by : (all rs : List Record) → ((line : ℕ) → names_line rs line ≡ true → names_line all line ≡ true) →
    AreNamed all rs
AreNamed-by all [] by = tt
AreNamed-by all (r ∷ rs) by =
    let own : (r.line == r.line) ≡ true = grind (arith, nat_tests) in
    (by r.line (grind (arith, own)), AreNamed-by all rs (λ line is. by line (or_true (r.line == line) is)))
  where
    or_true : (b : Bool) {c : Bool} → c ≡ true → (b || c) ≡ true
    or_true b e = grind arith

-- lines that are put in another order
pub put_records-permutation : (n : ℕ) (a b : List Record) (heap : List ℕ) → IsPermutation a b → are_good n a ≡ true →
    AreLines a → AreLines b → 64 * n ≤ length heap → put_records b heap ≡ put_records a heap
put_records-permutation n a b heap p good long long' wide =
    let now = put_records a heap in
    let s = SameBut-put_records n a heap good long wide in
    let good' = are_good-permutation n a b p good in
    let own = HoldLines-permutation now a b p (HoldLines-put_records n a heap good long wide) in
    sym (put_records-same_but n b heap now good' long' wide (record {
      long = s.long;
      same = λ i none. s.same i (sym (names_line-permutation a b (i / 64) p) ∙ none);
    }))
    ∙ put_records-all_own n [] b now good' tt long' (omega (arith, s.long, wide)) own

-- a line of the heap region
pub line_in_heap : (f : Frame) (line : ℕ) (x : List ℕ) → line < f.heap_lines →
    part (heap_place f + 64 * line) 64 x ≡ part (64 * line) 64 (heap_of f x)
unfolding heap_of
line_in_heap f line x lt =
    sym (part-within (heap_place f) (64 * line) 64 (64 * f.heap_lines) x (omega (arith, lt)))

-- what follows from what holds of a result
pub if_ok : {T E : Type 0} {P Q : T → Type 0} (result : Result T E) → ((t : T) → P t → Q t) → IfOk result P → IfOk result Q
if_ok (Ok t) more p = more t p
if_ok (Err e) more p = tt

pub on_ok : {T E P Q : Type 0} (result : Result T E) → (P → Q) → OnOk result P → OnOk result Q
on_ok (Ok t) more p = more p
on_ok (Err e) more p = tt

-- What stands.
module _ (f : Frame) (begun : List ℕ) (lines : Lines) (x : List ℕ) (s : Stands f begun lines x) where
  pub stands_logs : Logs f x s.records
  stands_logs = keeps_logs f begun lines.place s.records x _ s.may.keeps

  pub stands_limits : IsInLimits f
  stands_limits = HasRegions-limits f x stands_logs.regions

  pub stands_wide : 64 * f.heap_lines ≤ length (heap_of f x)
  stands_wide = omega (arith, length-heap_of f x stands_logs.regions)

  -- opening the disk gives the bytes at begin
  pub stands_begun : begun_of x ≡ begun
  stands_begun = ap (λ (o : Rattle.std.specs.Prelude.Option (List ℕ)). unwrap_or o []) s.may.keeps.gives

  pub olds_good : are_good f.heap_lines lines.buffer.olds ≡ true
  olds_good = good_behind f.heap_lines s.records lines.buffer.olds s.may.good

  -- so it does whatever is pending
  pub keeps_left : (left : List ℕ → Type 0) → Keeps f begun x left → KeepsBegin f begun lines.place s.records x left
  keeps_left left k = record {
    logged = k.keeps.logged;
    log = s.may.keeps.log;
    ends = s.may.keeps.ends;
    gives = s.may.keeps.gives;
  }

  -- With the buffer's lines by rising number.
  module _ (k : IsLines f lines) (risen : Changes) (r : Rises lines.buffer risen) (some : 0 < length lines.buffer.olds)
      (few : length lines.buffer.olds ≤ 64) where
    pub risen_long : length risen.olds ≡ length lines.buffer.olds
    risen_long = length_permutation lines.buffer.olds risen.olds r.olds

    pub risen_may : (left : List ℕ → Type 0) → KeepsBegin f begun lines.place s.records x left →
        MaySpill f begun lines.place s.records risen.olds x left
    risen_may left keeps = record {
      keeps = keeps;
      good = are_good-permutation f.heap_lines (s.records ++ lines.buffer.olds) (s.records ++ risen.olds)
          (IsPermutation-append_right s.records lines.buffer.olds risen.olds r.olds) s.may.good;
      own = HoldLines-permutation begun lines.buffer.olds risen.olds r.olds s.may.own;
    }

    pub risen_place : (bytes : ℕ) → bytes ≡ 4357 → HasPlace f lines.place (length risen.olds) bytes
    risen_place bytes is = record {
      some = omega (arith, risen_long, some);
      fits = omega (arith, s.room, s.many, k.counted, s.few, risen_long, some, stands_limits.least_log);
      gathered = omega (arith, risen_long, few, is);
    }

    pub risen_below : AreBelow f.heap_lines risen.news
    risen_below = AreBelow-permutation f.heap_lines lines.buffer.news risen.news r.news k.below

    names_risen : (line : ℕ) → names_line risen.news line ≡ names_line risen.olds line
    names_risen line =
        names_line-permutation lines.buffer.news risen.news line r.news
        ∙ names_line-lines lines.buffer.news lines.buffer.olds line s.same
        ∙ sym (names_line-permutation lines.buffer.olds risen.olds line r.olds)

    pub risen_named : AreNamed risen.olds risen.news
    risen_named = AreNamed-by risen.olds risen.news (λ line named. sym (names_risen line) ∙ named)

    news_good : are_good f.heap_lines lines.buffer.news ≡ true
    news_good = are_good-lines f.heap_lines lines.buffer.news lines.buffer.olds s.same olds_good

    -- they are the touched lines still
    pub risen_permuted : IsPermutation (lines_named (s.records ++ risen.olds)) (touched_in lines.marks)
    risen_permuted =
        let all = IsPermutation-append_right s.records lines.buffer.olds risen.olds r.olds in
        IsPermutation-trans (lines_named (s.records ++ risen.olds)) (lines_named (s.records ++ lines.buffer.olds))
        (touched_in lines.marks)
        (IsPermutation-sym (lines_named (s.records ++ lines.buffer.olds)) (lines_named (s.records ++ risen.olds))
        (IsPermutation-map (λ (o : Record). o.line) (s.records ++ lines.buffer.olds) (s.records ++ risen.olds) all)) s.permuted

    pub risen_marks : (line : ℕ) → names_line risen.olds line ≡ true → line < length lines.marks
    risen_marks line named =
        let good = good_behind f.heap_lines s.records risen.olds (risen_may (Just x) s.may.keeps).good in
        omega (arith, names_line-below f.heap_lines risen.olds line good named, k.long)

    pub risen_counted : lines.logged + length risen.olds ≡ length (touched_in lines.marks)
    risen_counted = omega (arith, k.counted, risen_long)

    pub risen_touched : touched_in lines.marks ≡ [] → ⊥
    risen_touched none = absurd (omega (arith, some, k.counted, ap length none))

    -- the bytes now are the same
    pub risen_now : (heap : List ℕ) → AreLines risen.news → 64 * f.heap_lines ≤ length heap →
        put_records risen.news heap ≡ put_records lines.buffer.news heap
    risen_now heap long wide =
        put_records-permutation f.heap_lines lines.buffer.news risen.news heap r.news news_good k.whole long wide

    -- With the batch open and the lines put.
    module _ (whole : AreLines risen.olds) (whole' : AreLines risen.news) (y : List ℕ)
        (is : y ≡ with_records f risen.news (with_batch lines.place risen.olds x)) where
      pub spilled : Spills f begun lines.place s.records risen.olds risen.news x y (Just y)
      spilled =
          spills_bytes f begun lines.place s.records risen.olds risen.news x y (risen_may (Just x) s.may.keeps) whole
          (omega (arith, risen_long, some)) (risen_place 4357 refl).fits risen_named whole' is

      pub spilled_now : heap_of f y ≡ now_of f lines x
      spilled_now = spilled.heap ∙ risen_now (heap_of f x) whole' stands_wide

      -- where these are the lines then
      module _ (l : Lines) (place : l.place ≡ lines.place + batch_size (length risen.olds))
          (logged : l.logged ≡ lines.logged + length risen.olds) (empty : l.buffer ≡ record { olds = []; news = [] })
          (long : length l.marks ≡ length lines.marks)
          (marked : (line : ℕ) → stand_at l.marks line
          ≡ cond (names_line risen.olds line) Logged (stand_at lines.marks line))
          (cache : l.cache ≡ lines.cache) where
        names_olds : (line : ℕ) → names_line risen.olds line ≡ is_buffered (stand_at lines.marks line)
        names_olds line =
            names_line-permutation lines.buffer.olds risen.olds line r.olds ∙ s.marked.buffered line

        stand_is : (line : ℕ) → stand_at l.marks line
            ≡ cond (is_buffered (stand_at lines.marks line)) Logged (stand_at lines.marks line)
        stand_is line =
            marked line ∙ ap (λ (b : Bool). cond b Logged (stand_at lines.marks line)) (names_olds line)

        pub spilled_clean : (line : ℕ) → is_clean (stand_at l.marks line) ≡ is_clean (stand_at lines.marks line)
        spilled_clean line = ap is_clean (stand_is line) ∙ by (stand_at lines.marks line)
          where
            by : (stand : Stand) → is_clean (cond (is_buffered stand) Logged stand) ≡ is_clean stand
            by Clean = refl
            by (Buffered p) = refl
            by Logged = refl

        pub spilled_touched : touched_in l.marks ≡ touched_in lines.marks
        spilled_touched = touched-same 0 l.marks lines.marks long spilled_clean

        pub spilled_marked : AreMarked (s.records ++ risen.olds) (record { olds = []; news = [] }) l.marks
        spilled_marked = record {
          logged = λ line.
              names_line-append s.records risen.olds line
              ∙ (λ i. s.marked.logged line i || names_olds line i)
              ∙ by_logged (stand_at lines.marks line)
              ∙ sym (ap is_logged (stand_is line));
          buffered = λ line. sym (ap is_buffered (stand_is line) ∙ by_buffered (stand_at lines.marks line));
          placed = λ line p is. absurd (true≢false (sym (ap is_buffered is)
              ∙ ap is_buffered (stand_is line) ∙ by_buffered (stand_at lines.marks line)));
        }
          where
            by_logged : (stand : Stand) →
                (is_logged stand || is_buffered stand) ≡ is_logged (cond (is_buffered stand) Logged stand)
            by_logged Clean = refl
            by_logged (Buffered p) = refl
            by_logged Logged = refl

            by_buffered : (stand : Stand) → is_buffered (cond (is_buffered stand) Logged stand) ≡ false
            by_buffered Clean = refl
            by_buffered (Buffered p) = refl
            by_buffered Logged = refl

        pub spilled_cached : AreClean f y l.marks l.cache
        spilled_cached e has =
            let was = s.clean e (subst (λ (c : List (ℕ × List ℕ)). Contains c e) cache has) in
            let other : names_line risen.news e.0 ≡ false =
            names_risen e.0 ∙ names_olds e.0 ∙ by_clean (stand_at lines.marks e.0) was.1 in
            let news_good' = are_good-permutation f.heap_lines lines.buffer.news risen.news r.news news_good in
            let b = SameBut-put_records f.heap_lines risen.news (heap_of f x) news_good' whole' stands_wide in
            let kept = part-same_but risen.news e.0 (heap_of f x) (put_records risen.news (heap_of f x)) b other
            (omega (arith, was.0.0, stands_wide)) in (
              (was.0.0, was.0.1 ∙ sym kept ∙ ap (part (64 * e.0) 64) (sym spilled.heap)),
              spilled_clean e.0 ∙ was.1,
            )
          where
            by_clean : (stand : Stand) → is_clean stand ≡ true → is_buffered stand ≡ false
            by_clean Clean is = refl
            by_clean (Buffered p) is = absurd (true≢false (sym is))
            by_clean Logged is = refl

        pub spilled_stands : Stands f begun l y
        spilled_stands = record {
          records = s.records ++ risen.olds;
          may = subst (λ (c : Changes). MaySpill f begun l.place (s.records ++ risen.olds) c.olds y (Just y)) (sym empty)
              (record {
                keeps = subst (λ (n : ℕ). KeepsBegin f begun n (s.records ++ risen.olds) y (Just y)) (sym place) spilled.keeps;
                good = ap (are_good f.heap_lines) (append-nil (s.records ++ risen.olds))
                    ∙ (risen_may (Just x) s.may.keeps).good;
                own = tt;
              });
          same = subst (λ (c : Changes). lines_named c.news ≡ lines_named c.olds) (sym empty) refl;
          marked = subst (λ (c : Changes). AreMarked (s.records ++ risen.olds) c l.marks) (sym empty) spilled_marked;
          room = omega (arith, place, s.room, some, risen_long, length-append s.records risen.olds);
          many = omega (arith, logged, s.many, length-append s.records risen.olds);
          few = omega (arith, ap length spilled_touched, s.few);
          permuted = subst (λ (c : Changes). IsPermutation (lines_named ((s.records ++ risen.olds) ++ c.olds)) (touched_in l.marks))
              (sym empty)
              (subst (λ (rs : List Record). IsPermutation (lines_named rs) (touched_in l.marks))
              (sym (append-nil (s.records ++ risen.olds)))
              (subst (IsPermutation (lines_named (s.records ++ risen.olds))) (sym spilled_touched) risen_permuted));
          clean = spilled_cached;
        }

        pub spilled_lines : length l.batch.items ≡ 4357 → IsLines f l
        spilled_lines batch = record {
          long = long ∙ k.long;
          batch = batch;
          below = subst (λ (c : Changes). AreBelow f.heap_lines c.news) (sym empty) tt;
          whole = subst (λ (c : Changes). AreLines c.news) (sym empty) tt;
          paired = subst (λ (c : Changes). length c.news ≡ length c.olds) (sym empty) refl;
          counted = ap (λ (c : Changes). l.logged + length c.olds) empty
              ∙ omega (arith, logged, k.counted, risen_long, ap length spilled_touched);
        }

        pub spilled_bytes_now : now_of f l y ≡ now_of f lines x
        spilled_bytes_now = ap (λ (c : Changes). put_records c.news (heap_of f y)) empty ∙ spilled_now
