-- A clean line that enters the buffer, and a line that is changed there or written through.
use Rattle.std.proofs.Common.{◌≡◌, ◌≢◌, ◌≤◌, ◌<◌, ◌∙◌, ℕ, zero, suc, ◌+◌, ◌*◌, Bool, true, false, not, ◌||◌, ◌==◌, cond, List, [], ◌∷◌, ◌++◌}
use Rattle.std.proofs.Common.{length, get_or, refl, sym, ap, subst, arith, true≢false, append_assoc, length-append, inl, inr}
use Rattle.std.specs.Prelude.{Contains, IsPermutation, slice_set}
use Rattle.std.proofs.lemmas.Bool.{cases_eq}
use Rattle.std.proofs.lemmas.Bool.Decides.{nat_tests}
use Rattle.std.proofs.lemmas.Grind.{common_steps}
use Rattle.std.proofs.lemmas.List.{length-set, map-append}
use Rattle.std.proofs.lemmas.List.Sorted.{IsPermutation-append_left, IsPermutation-trans, length_permutation}
use Rattle.sdr_base.specs.Cells.{is_among}
use Rattle.sdr_base.specs.Parts.{overwrite, part}
use Rattle.sdr_base.proofs.PartsLemmas.{length-overwrite, length-part}
use Rattle.sdr_log.specs.Calls.{AreBelow, HoldLines}
use Rattle.sdr_log.specs.Frame.{room_of}
use Rattle.sdr_log.specs.Log.{AreLines, are_good, heap_of, names_line, put_records}
use Rattle.sdr_log.specs.Spilled.{Just, MaySpill, PutsThrough}
use Rattle.sdr_log.specs.declared.frame.Frame.{Frame}
use Rattle.sdr_log.specs.declared.record.Record.{Record}
use Rattle.sdr_log.proofs.GoodLemmas.{AreBelow-good, HoldLines-put_records}
use Rattle.sdr_log.proofs.RecordsLemmas.{AreLines-push, SameBut-put_records, are_good-cons, are_good-push, names_line-push}
use Rattle.sdr_log.proofs.RecordsLemmas.{part-same_but}
use Rattle.sdr_log.proofs.SpillingLemmas.{keeps_begun}
use Rattle.sdr_log.proofs.LoggedLemmas.{Logs-lines}
use Rattle.sdr_log.proofs.GoodLemmas.{are_good-before}
use Rattle.sdr_image.specs.Buffer.{Changes, with_bytes}
use Rattle.sdr_image.specs.Lines.{AreClean, AreMarked, IsLines, Stands, lines_named, now_of}
use Rattle.sdr_image.specs.Marks.{is_buffered, is_clean, is_logged, stand_at, touched_in}
use Rattle.sdr_image.specs.declared.lines.Lines.{Lines}
use Rattle.sdr_image.specs.declared.marks.Stand.{Stand}
use Rattle.sdr_image.specs.declared.marks.Stand.TheVariants.{Buffered, Clean, Logged}
use Rattle.sdr_image.proofs.BufferLemmas.{AreLines-set, whole_at}
use Rattle.sdr_image.proofs.MarksLemmas.{is_among-touched, touched-set}
use Rattle.sdr_image.proofs.StandsLemmas.{are_good-lines, names_line-append, names_line-lines, olds_good, stands_logs, stands_wide}
use Rattle.sdr_image.proofs.WritingLemmas.{changed, entered, through}

stand_at-set : (marks : List Stand) (line other : ℕ) (stand : Stand) → line < length marks →
    stand_at (slice_set marks line stand) other ≡ cond (line == other) stand (stand_at marks other)
stand_at-set marks line other stand lt = elim (cases_eq line other) [
  | inl same ↦ grind (arith, nat_tests, common_steps)
  | inr apart ↦ grind (arith, nat_tests, common_steps)
]

place_of : Stand → ℕ
place_of Clean = 0
place_of (Buffered place) = place
place_of Logged = 0

same_place : (m n : ℕ) → Buffered m ≡ Buffered n → m ≡ n
unfolding place_of
same_place m n is = ap place_of is

-- a clean line is neither logged nor in the buffer
pub clean_apart : (stand : Stand) → is_clean stand ≡ true → (is_logged stand ≡ false) × (is_buffered stand ≡ false)
clean_apart Clean is = (refl, refl)
clean_apart (Buffered p) is = absurd (true≢false (sym is))
clean_apart Logged is = absurd (true≢false (sym is))

HoldLines-push : (heap : List ℕ) (rs : List Record) (r : Record) → HoldLines heap rs →
    r.bytes ≡ part (64 * r.line) 64 heap → HoldLines heap (rs ++ r ∷ [])
HoldLines-push heap [] r own is = (is, tt)
HoldLines-push heap (s ∷ rs) r own is = (own.0, HoldLines-push heap rs r own.1 is)

AreBelow-push : (n : ℕ) (rs : List Record) (r : Record) → AreBelow n rs → r.line < n → AreBelow n (rs ++ r ∷ [])
AreBelow-push n [] r below lt = (lt, tt)
AreBelow-push n (s ∷ rs) r below lt = (below.0, AreBelow-push n rs r below.1 lt)

-- the last of some records, and those before it
get_or-last : (rs : List Record) (r d : Record) → get_or (rs ++ r ∷ []) (length rs) d ≡ r
get_or-last [] r d = refl
get_or-last (s ∷ rs) r d = get_or-last rs r d

get_or-before : (rs : List Record) (r d : Record) (k : ℕ) → k < length rs → get_or (rs ++ r ∷ []) k d ≡ get_or rs k d
get_or-before [] r d k lt = absurd (omega (arith, lt))
get_or-before (s ∷ rs) r d zero lt = refl
get_or-before (s ∷ rs) r d (suc k) lt = get_or-before rs r d k (omega (arith, lt))

-- with a line more, of these bytes at begin and now
abbrev pub changes : Changes → ℕ → List ℕ → List ℕ → Changes
changes c line old new = record {
  olds = c.olds ++ record { line = line; bytes = old } ∷ [];
  news = c.news ++ record { line = line; bytes = new } ∷ [];
}

-- where a line is logged, one is touched
pub logged_touched : (f : Frame) (lines : Lines) (line : ℕ) → IsLines f lines → line < f.heap_lines →
    stand_at lines.marks line ≡ Logged → 0 < length (touched_in lines.marks)
logged_touched f lines line k lt at =
    some (touched_in lines.marks) (is_among-touched 0 lines.marks line ∙ ap (λ (st : Stand). not (is_clean st)) at)
  where
    some : (ns : List ℕ) → is_among ns (0 + line) ≡ true → 0 < length ns
    some [] is = absurd (true≢false (sym is))
    some (n ∷ ns) is = omega arith

module _ (f : Frame) (begun : List ℕ) (lines : Lines) (x : List ℕ) (s : Stands f begun lines x) (k : IsLines f lines) where
  pub news_good : are_good f.heap_lines lines.buffer.news ≡ true
  news_good = are_good-lines f.heap_lines lines.buffer.news lines.buffer.olds s.same (olds_good f begun lines x s)

  wide : 64 * f.heap_lines ≤ length (heap_of f x)
  wide = stands_wide f begun lines x s

  names_news : (line : ℕ) → names_line lines.buffer.news line ≡ is_buffered (stand_at lines.marks line)
  names_news line = names_line-lines lines.buffer.news lines.buffer.olds line s.same ∙ s.marked.buffered line

  -- a line that isn't in the buffer has the bytes of the heap region
  pub unbuffered : (line : ℕ) → line < f.heap_lines → is_buffered (stand_at lines.marks line) ≡ false →
      part (64 * line) 64 (now_of f lines x) ≡ part (64 * line) 64 (heap_of f x)
  unbuffered line lt other =
      part-same_but lines.buffer.news line (heap_of f x) (now_of f lines x)
      (SameBut-put_records f.heap_lines lines.buffer.news (heap_of f x) news_good k.whole wide)
      (names_news line ∙ other) (omega (arith, lt, wide))

  -- A clean line that enters the buffer.
  module _ (line at : ℕ) (old from : List ℕ) (lt : line < f.heap_lines) (clean : is_clean (stand_at lines.marks line) ≡ true)
      (is : old ≡ part (64 * line) 64 (heap_of f x)) (inside : at + length from ≤ 64)
      (few : length (touched_in lines.marks) < room_of f) (l : Lines) (place : l.place ≡ lines.place)
      (logged : l.logged ≡ lines.logged)
      (buffer : l.buffer ≡ record {
        olds = lines.buffer.olds ++ record { line = line; bytes = old } ∷ [];
        news = lines.buffer.news ++ record { line = line; bytes = overwrite at from old } ∷ [];
      })
      (marks : l.marks ≡ slice_set lines.marks line (Buffered (length lines.buffer.olds)))
      (cache : (e : ℕ × List ℕ) → Contains l.cache e → Contains lines.cache e × (e.0 ≢ line)) where
    abbrev o : Record
    o = record { line = line; bytes = old }

    abbrev n : Record
    n = record { line = line; bytes = overwrite at from old }

    abbrev pushed : Changes
    pushed = record { olds = lines.buffer.olds ++ o ∷ []; news = lines.buffer.news ++ n ∷ [] }

    abbrev marks' : List Stand
    marks' = slice_set lines.marks line (Buffered (length lines.buffer.olds))

    long : length lines.buffer.news ≡ length lines.buffer.olds
    long = k.paired

    in_marks : line < length lines.marks
    in_marks = omega (arith, lt, k.long)

    apart : (is_logged (stand_at lines.marks line) ≡ false) × (is_buffered (stand_at lines.marks line) ≡ false)
    apart = clean_apart (stand_at lines.marks line) clean

    old_long : length old ≡ 64
    old_long = ap length is ∙ length-part (64 * line) 64 (heap_of f x) (omega (arith, lt, wide))

    new_long : length (overwrite at from old) ≡ 64
    new_long = length-overwrite at from old (omega (arith, old_long, inside)) ∙ old_long

    stand_is : (other : ℕ) → stand_at marks' other
        ≡ cond (line == other) (Buffered (length lines.buffer.olds)) (stand_at lines.marks other)
    stand_is other = stand_at-set lines.marks line other (Buffered (length lines.buffer.olds)) in_marks

    pub entered_touched : IsPermutation (touched_in lines.marks ++ line ∷ []) (touched_in l.marks)
    entered_touched =
        let at_line : 0 + line ≡ line = omega arith in
        subst (λ (ms : List Stand). IsPermutation (touched_in lines.marks ++ line ∷ []) (touched_in ms)) (sym marks)
        (subst (λ (m : ℕ). IsPermutation (touched_in lines.marks ++ m ∷ []) (touched_in marks')) at_line
        (touched-set 0 lines.marks line (Buffered (length lines.buffer.olds)) in_marks clean refl))

    pub touched_more : length (touched_in l.marks) ≡ length (touched_in lines.marks) + 1
    touched_more =
        let p = length_permutation (touched_in lines.marks ++ line ∷ []) (touched_in l.marks) entered_touched in
        omega (arith, p, length-append (touched_in lines.marks) (line ∷ []))

    begun_line : old ≡ part (64 * line) 64 begun
    begun_line =
        let logs = stands_logs f begun lines x s in
        let all = keeps_begun f begun lines.place s.records x _ s.may.keeps in
        is
        ∙ sym (part-same_but s.records line (heap_of f x) (put_records s.records (heap_of f x))
        (SameBut-put_records f.heap_lines s.records (heap_of f x)
        (are_good-before f.heap_lines s.records lines.buffer.olds s.may.good) (Logs-lines f x s.records logs) wide)
        (s.marked.logged line ∙ apart.0) (omega (arith, lt, wide)))
        ∙ ap (part (64 * line) 64) (sym all)

    entered_good : are_good f.heap_lines (s.records ++ (lines.buffer.olds ++ o ∷ [])) ≡ true
    entered_good =
        let none : names_line (s.records ++ lines.buffer.olds) line ≡ false =
        names_line-append s.records lines.buffer.olds line
        ∙ (λ i. (s.marked.logged line ∙ apart.0) i || (s.marked.buffered line ∙ apart.1) i) in
        ap (are_good f.heap_lines) (sym (append_assoc s.records lines.buffer.olds (o ∷ [])))
        ∙ are_good-push f.heap_lines (s.records ++ lines.buffer.olds) o s.may.good lt none

    pub entered_may : MaySpill f begun lines.place s.records pushed.olds x (Just x)
    entered_may = record {
      keeps = s.may.keeps;
      good = entered_good;
      own = HoldLines-push begun lines.buffer.olds o s.may.own begun_line;
    }

    marked_now : AreMarked s.records pushed marks'
    marked_now = record {
      logged = λ other. s.marked.logged other ∙ by_logged other (line == other) refl ∙ sym (ap is_logged (stand_is other));
      buffered = λ other.
          names_line-push lines.buffer.olds o other
          ∙ ap (λ (b : Bool). b || line == other) (s.marked.buffered other)
          ∙ by_buffered (stand_at lines.marks other) (line == other)
          ∙ sym (ap is_buffered (stand_is other));
      placed = λ other p at. by_placed other p (line == other) refl (sym (stand_is other) ∙ at);
    }
      where
        by_logged : (other : ℕ) (b : Bool) → (line == other) ≡ b → is_logged (stand_at lines.marks other)
            ≡ is_logged (cond b (Buffered (length lines.buffer.olds)) (stand_at lines.marks other))
        by_logged other false e = refl
        by_logged other true e =
            let same : line ≡ other = grind (arith, nat_tests, e) in
            ap (λ (m : ℕ). is_logged (stand_at lines.marks m)) (sym same) ∙ apart.0

        by_buffered : (stand : Stand) (b : Bool) → (is_buffered stand || b)
            ≡ is_buffered (cond b (Buffered (length lines.buffer.olds)) stand)
        by_buffered Clean true = refl
        by_buffered Clean false = refl
        by_buffered (Buffered p) true = refl
        by_buffered (Buffered p) false = refl
        by_buffered Logged true = refl
        by_buffered Logged false = refl

        by_placed : (other p : ℕ) (b : Bool) → (line == other) ≡ b →
            cond b (Buffered (length lines.buffer.olds)) (stand_at lines.marks other) ≡ Buffered p →
            (p < length pushed.news) × ((d : Record) → (get_or pushed.news p d).line ≡ other)
        by_placed other p true e at =
            let same : line ≡ other = grind (arith, nat_tests, e) in
            let here : length lines.buffer.news ≡ p = long ∙ same_place (length lines.buffer.olds) p at in (
              omega (arith, here, length-append lines.buffer.news (n ∷ [])),
              λ d. ap (λ (m : ℕ). (get_or pushed.news m d).line) (sym here)
                  ∙ ap (λ (r : Record). r.line) (get_or-last lines.buffer.news n d) ∙ same,
            )
        by_placed other p false e at =
            let was = s.marked.placed other p at in (
              omega (arith, was.0, length-append lines.buffer.news (n ∷ [])),
              λ d. ap (λ (r : Record). r.line) (get_or-before lines.buffer.news n d p was.0) ∙ was.1 d,
            )

    clean_now : AreClean f x marks' l.cache
    clean_now e has =
        let c = cache e has in
        let was = s.clean e c.0 in
        (was.0, ap is_clean (stand_is e.0) ∙ other (line == e.0) refl c.1 was.1)
      where
        other : (b : Bool) → (line == e.0) ≡ b → e.0 ≢ line → is_clean (stand_at lines.marks e.0) ≡ true →
            is_clean (cond b (Buffered (length lines.buffer.olds)) (stand_at lines.marks e.0)) ≡ true
        other false is ne was = was
        other true is ne was = absurd (ne (grind (arith, nat_tests, is)))

    entered_permuted : IsPermutation (lines_named (s.records ++ (lines.buffer.olds ++ o ∷ []))) (touched_in l.marks)
    entered_permuted =
        let names = lines_named (s.records ++ lines.buffer.olds) in
        let split : names ++ line ∷ [] ≡ lines_named (s.records ++ (lines.buffer.olds ++ o ∷ [])) =
        sym (map-append (λ (r : Record). r.line) (s.records ++ lines.buffer.olds) (o ∷ []))
        ∙ ap lines_named (append_assoc s.records lines.buffer.olds (o ∷ [])) in
        subst (λ (ns : List ℕ). IsPermutation ns (touched_in l.marks)) split
        (IsPermutation-trans (names ++ line ∷ []) (touched_in lines.marks ++ line ∷ []) (touched_in l.marks)
        (IsPermutation-append_left (line ∷ []) names (touched_in lines.marks) s.permuted) entered_touched)

    pub entered_stands : Stands f begun l x
    entered_stands = record {
      records = s.records;
      may = subst (λ (c : Changes). MaySpill f begun l.place s.records c.olds x (Just x)) (sym buffer)
          (subst (λ (p : ℕ). MaySpill f begun p s.records pushed.olds x (Just x)) (sym place) entered_may);
      same = subst (λ (c : Changes). lines_named c.news ≡ lines_named c.olds) (sym buffer)
          (map-append (λ (r : Record). r.line) lines.buffer.news (n ∷ [])
          ∙ ap (λ (ns : List ℕ). ns ++ line ∷ []) s.same
          ∙ sym (map-append (λ (r : Record). r.line) lines.buffer.olds (o ∷ [])));
      marked = subst (λ (c : Changes). AreMarked s.records c l.marks) (sym buffer)
          (subst (λ (ms : List Stand). AreMarked s.records pushed ms) (sym marks) marked_now);
      room = omega (arith, place, s.room);
      many = logged ∙ s.many;
      few = omega (arith, touched_more, few);
      permuted = subst (λ (c : Changes). IsPermutation (lines_named (s.records ++ c.olds)) (touched_in l.marks)) (sym buffer)
          entered_permuted;
      clean = subst (λ (ms : List Stand). AreClean f x ms l.cache) (sym marks) clean_now;
    }

    pub entered_lines : length l.batch.items ≡ 4357 → IsLines f l
    entered_lines batch = record {
      long = ap length marks ∙ length-set lines.marks line (Buffered (length lines.buffer.olds)) ∙ k.long;
      batch = batch;
      below = subst (λ (c : Changes). AreBelow f.heap_lines c.news) (sym buffer)
          (AreBelow-push f.heap_lines lines.buffer.news n k.below lt);
      whole = subst (λ (c : Changes). AreLines c.news) (sym buffer) (AreLines-push lines.buffer.news n k.whole new_long);
      paired = subst (λ (c : Changes). length c.news ≡ length c.olds) (sym buffer)
          (omega (arith, k.paired, length-append lines.buffer.news (n ∷ []), length-append lines.buffer.olds (o ∷ [])));
      counted = ap (λ (c : Changes). l.logged + length c.olds) buffer
          ∙ omega (arith, logged, k.counted, touched_more, length-append lines.buffer.olds (o ∷ []));
    }

    pub entered_now : now_of f l x ≡ overwrite (64 * line + at) from (now_of f lines x)
    entered_now =
        let same = is ∙ sym (unbuffered line lt apart.1) in
        let b = SameBut-put_records f.heap_lines lines.buffer.news (heap_of f x) news_good k.whole wide in
        ap (λ (c : Changes). put_records c.news (heap_of f x)) buffer
        ∙ ap (λ (old : List ℕ). put_records (lines.buffer.news ++ record { line = line; bytes = overwrite at from old } ∷ [])
        (heap_of f x)) same
        ∙ entered lines.buffer.news (heap_of f x) line at from (omega (arith, b.long, lt, wide)) inside

-- a line at its place among those that are put, with other bytes
changed_at : (n : ℕ) (news : List Record) (place at : ℕ) (from heap : List ℕ) (d : Record) → are_good n news ≡ true →
    AreLines news → 64 * n ≤ length heap → place < length news → at + length from ≤ 64 →
    put_records (slice_set news place (with_bytes at from (get_or news place d))) heap
    ≡ overwrite (64 * (get_or news place d).line + at) from (put_records news heap)
changed_at n [] place at from heap d good long wide lt inside = absurd (omega (arith, lt))
changed_at n (r ∷ news) zero at from heap d good long wide lt inside =
    let g = are_good-cons n r news good in
    changed n r news heap at from (AreBelow-good n (r ∷ news) good) long wide g.1 inside
changed_at n (r ∷ news) (suc place) at from heap d good long wide lt inside =
    let g = are_good-cons n r news good in
    let p = 64 * r.line in
    let within : p + length r.bytes ≤ length heap = omega (arith, g.0, long.0, wide) in
    changed_at n news place at from (overwrite p r.bytes heap) d g.2 long.1
    (omega (arith, length-overwrite p r.bytes heap within, wide)) (omega (arith, lt)) inside

-- which names the same lines
lines_named-set : (news : List Record) (place : ℕ) (r d : Record) → r.line ≡ (get_or news place d).line →
    place < length news → lines_named (slice_set news place r) ≡ lines_named news
lines_named-set [] place r d is lt = refl
lines_named-set (s ∷ news) zero r d is lt = ap (λ (k : ℕ). k ∷ lines_named news) is
lines_named-set (s ∷ news) (suc place) r d is lt =
    ap (λ (ns : List ℕ). s.line ∷ ns) (lines_named-set news place r d is (omega (arith, lt)))

AreBelow-set : (n : ℕ) (news : List Record) (place : ℕ) (r : Record) → AreBelow n news → r.line < n →
    AreBelow n (slice_set news place r)
AreBelow-set n [] place r below lt = tt
AreBelow-set n (s ∷ news) zero r below lt = (lt, below.1)
AreBelow-set n (s ∷ news) (suc place) r below lt = (below.0, AreBelow-set n news place r below.1 lt)

get_or-set_line : (news : List Record) (place k : ℕ) (r d d' : Record) → r.line ≡ (get_or news place d').line →
    (get_or (slice_set news place r) k d).line ≡ (get_or news k d).line
get_or-set_line [] place k r d d' is = refl
get_or-set_line (s ∷ news) zero zero r d d' is = is
get_or-set_line (s ∷ news) zero (suc k) r d d' is = refl
get_or-set_line (s ∷ news) (suc place) zero r d d' is = refl
get_or-set_line (s ∷ news) (suc place) (suc k) r d d' is = get_or-set_line news place k r d d' is

-- the bytes now of a line in the buffer
pub buffered_line : (f : Frame) (begun : List ℕ) (lines : Lines) (x : List ℕ) (s : Stands f begun lines x)
    (k : IsLines f lines) (place : ℕ) (d : Record) → place < length lines.buffer.news →
    (get_or lines.buffer.news place d).bytes
    ≡ part (64 * (get_or lines.buffer.news place d).line) 64 (now_of f lines x)
buffered_line f begun lines x s k place d lt =
    at lines.buffer.news place (HoldLines-put_records f.heap_lines lines.buffer.news (heap_of f x)
    (news_good f begun lines x s k) k.whole (stands_wide f begun lines x s)) lt
  where
    at : (rs : List Record) (place : ℕ) → HoldLines (now_of f lines x) rs → place < length rs →
        (get_or rs place d).bytes ≡ part (64 * (get_or rs place d).line) 64 (now_of f lines x)
    at [] place own lt = absurd (omega (arith, lt))
    at (r ∷ rs) zero own lt = own.0
    at (r ∷ rs) (suc place) own lt = at rs place own.1 (omega (arith, lt))

-- A line of the buffer that is changed.
module _ (f : Frame) (begun : List ℕ) (lines : Lines) (x : List ℕ) (s : Stands f begun lines x) (k : IsLines f lines)
    (line place at : ℕ) (from : List ℕ) (stands : stand_at lines.marks line ≡ Buffered place)
    (below : line < f.heap_lines) (inside : at + length from ≤ 64) (d : Record) (l : Lines)
    (is : l ≡ record lines {
      buffer = record lines.buffer {
        news = slice_set lines.buffer.news place (with_bytes at from (get_or lines.buffer.news place d));
      };
    }) where
  abbrev r : Record
  r = with_bytes at from (get_or lines.buffer.news place d)

  abbrev l' : Lines
  l' = record lines { buffer = record lines.buffer { news = slice_set lines.buffer.news place r } }

  lt : place < length lines.buffer.news
  lt = (s.marked.placed line place stands).0

  line_is : (get_or lines.buffer.news place d).line ≡ line
  line_is = (s.marked.placed line place stands).1 d

  changed_long : length r.bytes ≡ 64
  changed_long =
      let old = whole_at lines.buffer.news place d k.whole lt in
      length-overwrite at from (get_or lines.buffer.news place d).bytes (omega (arith, old, inside)) ∙ old

  pub changed_stands : Stands f begun l x
  changed_stands = subst (λ (m : Lines). Stands f begun m x) (sym is) record {
    records = s.records;
    may = s.may;
    same = lines_named-set lines.buffer.news place r d refl lt ∙ s.same;
    marked = record {
      logged = s.marked.logged;
      buffered = s.marked.buffered;
      placed = λ other p at'.
          let was = s.marked.placed other p at' in (
            omega (arith, was.0, length-set lines.buffer.news place r),
            λ e. get_or-set_line lines.buffer.news place p r e d refl ∙ was.1 e,
          );
    };
    room = s.room;
    many = s.many;
    few = s.few;
    permuted = s.permuted;
    clean = s.clean;
  }

  pub changed_lines : IsLines f l
  changed_lines = subst (IsLines f) (sym is) record {
    long = k.long;
    batch = k.batch;
    below = AreBelow-set f.heap_lines lines.buffer.news place r k.below (omega (arith, line_is, below));
    whole = AreLines-set lines.buffer.news place r k.whole changed_long;
    paired = length-set lines.buffer.news place r ∙ k.paired;
    counted = k.counted;
  }

  pub changed_now : now_of f l x ≡ overwrite (64 * line + at) from (now_of f lines x)
  changed_now =
      ap (λ (m : Lines). now_of f m x) is
      ∙ changed_at f.heap_lines lines.buffer.news place at from (heap_of f x) d (news_good f begun lines x s k) k.whole
      (stands_wide f begun lines x s) lt inside
      ∙ ap (λ (n : ℕ). overwrite (64 * n + at) from (now_of f lines x)) line_is

-- A logged line that is written through.
module _ (f : Frame) (begun : List ℕ) (lines : Lines) (x : List ℕ) (s : Stands f begun lines x) (k : IsLines f lines)
    (line at : ℕ) (bytes from : List ℕ) (stands : stand_at lines.marks line ≡ Logged) (lt : line < f.heap_lines)
    (is : bytes ≡ overwrite at from (part (64 * line) 64 (heap_of f x))) (inside : at + length from ≤ 64) where
  pub through_named : names_line s.records line ≡ true
  through_named = s.marked.logged line ∙ ap is_logged stands

  pub through_long : length bytes ≡ 64
  through_long =
      let old = length-part (64 * line) 64 (heap_of f x) (omega (arith, lt, stands_wide f begun lines x s)) in
      ap length is
      ∙ length-overwrite at from (part (64 * line) 64 (heap_of f x)) (omega (arith, old, inside)) ∙ old

  module _ (y : List ℕ) (p : PutsThrough f begun lines.place s.records (record { line = line; bytes = bytes }) x y (Just y)) where
    through_cached : AreClean f y lines.marks lines.cache
    through_cached e has =
        let was = s.clean e has in
        let one : are_good f.heap_lines (record { line = line; bytes = bytes } ∷ []) ≡ true = grind (arith, nat_tests, lt) in
        let b = SameBut-put_records f.heap_lines (record { line = line; bytes = bytes } ∷ []) (heap_of f x) one
        (through_long, tt) (stands_wide f begun lines x s) in
        let other : names_line (record { line = line; bytes = bytes } ∷ []) e.0 ≡ false =
        by (line == e.0) refl in
        let kept = part-same_but (record { line = line; bytes = bytes } ∷ []) e.0 (heap_of f x) _ b other
        (omega (arith, was.0.0, stands_wide f begun lines x s)) in
        ((was.0.0, was.0.1 ∙ sym kept ∙ ap (part (64 * e.0) 64) (sym p.heap)), was.1)
      where
        by : (b : Bool) → (line == e.0) ≡ b → (line == e.0 || false) ≡ false
        by false is = grind (arith, is)
        by true is =
            let same : line ≡ e.0 = grind (arith, nat_tests, is) in
            absurd (true≢false (sym (s.clean e has).1 ∙ ap is_clean (ap (stand_at lines.marks) (sym same) ∙ stands)))

    pub through_stands : Stands f begun lines y
    through_stands = record {
      records = s.records;
      may = record { keeps = p.keeps; good = s.may.good; own = s.may.own };
      same = s.same;
      marked = s.marked;
      room = s.room;
      many = s.many;
      few = s.few;
      permuted = s.permuted;
      clean = through_cached;
    }

    pub through_now : now_of f lines y ≡ overwrite (64 * line + at) from (now_of f lines x)
    through_now =
        ap (put_records lines.buffer.news) (p.heap
        ∙ ap (λ (b : List ℕ). overwrite (64 * line) b (heap_of f x)) is)
        ∙ through f.heap_lines lines.buffer.news (heap_of f x) line at from k.below k.whole (stands_wide f begun lines x s) lt
        (names_news f begun lines x s k line ∙ ap is_buffered stands) inside

-- a record that stands where there is none
abbrev pub any_record : Record
any_record = record { line = 0; bytes = [] }
