-- How the lines of a transaction come to rest.
use Rattle.std.proofs.Common.{◌≡◌, ◌<◌, ◌∙◌, ℕ, ◌+◌, ◌*◌, List, [], ◌∷◌, length, refl, sym, ap, subst, arith}
use Rattle.std.proofs.Common.{false, true, true≢false}
use Rattle.std.specs.Prelude.{IsPermutation, Contains, replicate}
use Rattle.std.proofs.lemmas.List.{length-map, length-replicate}
use Rattle.std.proofs.lemmas.List.Sorted.{IsPermutation-refl, length_permutation}
use Rattle.std.specs.Prelude.{Vec}
use Rattle.std.specs.declared.alloc.Global.{Global}
use Rattle.sdr_base.specs.Parts.{part}
use Rattle.sdr_disk.specs.Moments.{AtEach, Only}
use Rattle.sdr_disk.proofs.MomentsLemmas.{at_first, at_then}
use Rattle.sdr_log.specs.Calls.{AreBelow, HoldLines, PutsBack}
use Rattle.sdr_log.specs.Log.{AreLines, first_gate, heap_of, names_line, put_records}
use Rattle.sdr_log.specs.Logged.{GivesHeap, GivesSame, Logs}
use Rattle.sdr_log.specs.Spilled.{Ends, Just, KeepsBegin, MaySpill}
use Rattle.sdr_log.specs.Undoing.{AreOpen}
use Rattle.sdr_log.specs.declared.frame.Frame.{Frame}
use Rattle.sdr_log.specs.declared.record.Record.{Record}
use Rattle.sdr_log.proofs.GoodLemmas.{HoldLines-put_records, are_good-before, names_line-below}
use Rattle.sdr_log.proofs.LoggedLemmas.{Logs-lines, closed_only, logs_gate}
use Rattle.sdr_log.proofs.RecordsLemmas.{SameBut-put_records, part-same_but}
use Rattle.sdr_log.proofs.RestoringLemmas.{none_closed}
use Rattle.sdr_log.proofs.SpilledLemmas.{undone_bytes}
use Rattle.sdr_log.proofs.SpillingLemmas.{keeps_begun, keeps_gives, rest_keeps}
use Rattle.sdr_image.specs.Buffer.{Changes, Rises}
use Rattle.sdr_image.specs.Lines.{AreAllMarked, AreMarked, lines_named}
use Rattle.sdr_image.specs.Lines.{IsLineOf, IsLines, IsRested, Keeps, Stands, now_of}
use Rattle.sdr_image.specs.Marks.{is_buffered, is_clean, is_logged, stand_at, touched_in}
use Rattle.sdr_image.specs.declared.lines.Lines.{Lines}
use Rattle.sdr_image.specs.declared.marks.Stand.{Stand}
use Rattle.sdr_image.specs.declared.marks.Stand.TheVariants.{Buffered, Clean, Logged}
use Rattle.sdr_image.proofs.EnteredLemmas.{clean_apart, news_good, unbuffered}
use Rattle.sdr_image.proofs.LinesLemmas.{HoldLines-permutation, names_line-permutation}
use Rattle.sdr_image.proofs.MarksLemmas.{clean-replicate, touched-clean}
use Rattle.sdr_image.proofs.StandsLemmas.{AreBelow-permutation, olds_good, stands_logs, stands_wide}

-- a disk at rest keeps its heap region
pub ends_keeps : (f : Frame) (bytes y : List ℕ) (left : List ℕ → Type 0) → Ends f bytes y left →
    KeepsBegin f bytes 0 [] y left
ends_keeps f bytes y left e =
    subst (λ (heap : List ℕ). KeepsBegin f heap 0 [] y left) e.heap (rest_keeps f y left e.rest)

pub ends_rest : (f : Frame) (bytes y : List ℕ) (left : List ℕ → Type 0) → Ends f bytes y left → Keeps f bytes y left
ends_rest f bytes y left e = record { place = 0; records = []; keeps = ends_keeps f bytes y left e }

-- where nothing is pending, what stands without a crash stands with one
pub ends_synced : (f : Frame) (bytes y : List ℕ) (left : List ℕ → Type 0) → Ends f bytes y (Just y) → Only y left →
    Ends f bytes y left
ends_synced f bytes y left e only = record {
  rest = record { regions = e.rest.regions; gate = e.rest.gate; only = only };
  heap = e.heap;
}

-- no line is touched, on a disk at rest
pub rested : (f : Frame) (bytes y : List ℕ) (l : Lines) → Ends f bytes y (Just y) → l.place ≡ 0 → l.logged ≡ 0 →
    l.buffer ≡ record { olds = []; news = [] } → (n : ℕ) → l.marks ≡ replicate n Clean →
    ((e : ℕ × List ℕ) → Contains l.cache e → IsLineOf f y e) → IsRested f bytes l y
rested f bytes y l e place logged buffer n marks cached = record {
  stands = record {
    records = [];
    may = subst (λ (c : Changes). MaySpill f bytes l.place [] c.olds y (Just y)) (sym buffer)
        (subst (λ (p : ℕ). MaySpill f bytes p [] [] y (Just y)) (sym place)
        (record { keeps = ends_keeps f bytes y (Just y) e; good = refl; own = tt }));
    same = subst (λ (c : Changes).
        lines_named c.news ≡ lines_named c.olds) (sym buffer) refl;
    marked = subst (λ (c : Changes). AreMarked [] c l.marks)
        (sym buffer) (record {
          logged = λ line. sym (ap is_logged (all_clean line));
          buffered = λ line. sym (ap is_buffered (all_clean line));
          placed = λ line p at. absurd (true≢false (sym (ap is_buffered at) ∙ ap is_buffered (all_clean line)));
        });
    room = omega (arith, place);
    many = logged;
    few = omega (arith, ap length none);
    permuted = subst (λ (c : Changes). IsPermutation (lines_named c.olds) (touched_in l.marks)) (sym buffer)
        (subst (IsPermutation []) (sym none) (IsPermutation-refl []));
    clean = λ e has. (cached e has, ap is_clean (all_clean e.0));
  };
  untouched = none;
  has = record { regions = e.rest.regions; gate = e.rest.gate; heap = e.heap };
  now = ap (λ (c : Changes). put_records c.news (heap_of f y)) buffer ∙ e.heap;
}
  where
    all_clean : (line : ℕ) → stand_at l.marks line ≡ Clean
    all_clean line = ap (λ (ms : List Stand). stand_at ms line) marks ∙ clean-replicate n line

    none : touched_in l.marks ≡ []
    none = ap touched_in marks ∙ touched-clean 0 n

-- what is kept of lines none of which is touched
pub rested_lines : (f : Frame) (l : Lines) → l.logged ≡ 0 → l.buffer ≡ record { olds = []; news = [] } →
    l.marks ≡ replicate f.heap_lines Clean → length l.batch.items ≡ 4357 → IsLines f l
rested_lines f l logged buffer marks batch = record {
  long = ap length marks ∙ length-replicate f.heap_lines Clean;
  batch = batch;
  below = subst (λ (c : Changes). AreBelow f.heap_lines c.news)
      (sym buffer) tt;
  whole = subst (λ (c : Changes). AreLines c.news) (sym buffer) tt;
  paired = subst (λ (c : Changes). length c.news ≡ length c.olds) (sym buffer) refl;
  counted = ap (λ (c : Changes). l.logged + length c.olds) buffer
      ∙ omega (arith, logged, ap length (ap touched_in marks ∙ touched-clean 0 f.heap_lines));
}

pub nil_records : (rs : List Record) → length rs ≡ 0 → rs ≡ []
nil_records [] is = refl
nil_records (r ∷ rs) is = absurd (omega (arith, is))

-- Lines of a transaction that comes to rest.
module _ (f : Frame) (begun : List ℕ) (lines : Lines) (x : List ℕ) (s : Stands f begun lines x) (k : IsLines f lines) where
  -- the cached lines, where the bytes now are in the heap region
  pub cached_now : (y : List ℕ) → heap_of f y ≡ now_of f lines x → (e : ℕ × List ℕ) → Contains lines.cache e → IsLineOf f y e
  cached_now y heap e has =
      let was = s.clean e has in
      let apart = clean_apart (stand_at lines.marks e.0) was.1 in
      (was.0.0, was.0.1 ∙ sym (unbuffered f begun lines x s k e.0 was.0.0 apart.1) ∙ ap (part (64 * e.0) 64) (sym heap))

  -- or those at begin
  pub cached_begun : (y : List ℕ) → heap_of f y ≡ begun → (e : ℕ × List ℕ) → Contains lines.cache e → IsLineOf f y e
  cached_begun y heap e has =
      let was = s.clean e has in
      let apart = clean_apart (stand_at lines.marks e.0) was.1 in
      let logs = stands_logs f begun lines x s in
      let wide = stands_wide f begun lines x s in
      let all = keeps_begun f begun lines.place s.records x _ s.may.keeps in
      let kept = part-same_but s.records e.0 (heap_of f x) (put_records s.records (heap_of f x))
      (SameBut-put_records f.heap_lines s.records (heap_of f x)
      (are_good-before f.heap_lines s.records lines.buffer.olds s.may.good) (Logs-lines f x s.records logs) wide)
      (s.marked.logged e.0 ∙ apart.0) (omega (arith, was.0.0, wide)) in
      (was.0.0, was.0.1 ∙ sym kept ∙ ap (part (64 * e.0) 64) (sym all ∙ sym heap))

  -- the buffer's lines by rising number, where the bytes now are in the heap region
  pub news_held : (y : List ℕ) → heap_of f y ≡ now_of f lines x → (risen : Changes) → Rises lines.buffer risen →
      HoldLines (heap_of f y) risen.news
  news_held y heap risen r =
      subst (λ (h : List ℕ). HoldLines h risen.news) (sym heap)
      (HoldLines-permutation (now_of f lines x) lines.buffer.news risen.news r.news
      (HoldLines-put_records f.heap_lines lines.buffer.news (heap_of f x) (news_good f begun lines x s k) k.whole
      (stands_wide f begun lines x s)))

  -- each touched line is marked
  pub all_marked : AreAllMarked lines
  all_marked = record {
    below = λ line named.
        omega (arith, names_line-below f.heap_lines lines.buffer.olds line (olds_good f begun lines x s) named, k.long);
    named = λ none line touched.
        s.marked.buffered line ∙ by (stand_at lines.marks line) touched
        (sym (s.marked.logged line)
        ∙ ap (λ (rs : List Record). names_line rs line) (nil_records s.records (omega (arith, s.many, none))));
  }
    where
      by : (stand : Stand) → is_clean stand ≡ false → is_logged stand ≡ false → is_buffered stand ≡ true
      by Clean touched other = absurd (true≢false touched)
      by (Buffered place) touched other = refl
      by Logged touched other = absurd (true≢false other)

  -- also in another order
  pub risen_marked : (l : Lines) → Rises lines.buffer l.buffer → l.logged ≡ lines.logged → l.marks ≡ lines.marks → AreAllMarked l
  risen_marked l r logged marks =
      let names = λ (line : ℕ). names_line-permutation lines.buffer.olds l.buffer.olds line r.olds in
      record {
        below = λ line named. omega (arith, all_marked.below line (sym (names line) ∙ named), ap length marks);
        named = λ none line touched.
            names line ∙ all_marked.named (sym logged ∙ none) line
            (sym (ap (λ (ms : List Stand). is_clean (stand_at ms line)) marks) ∙ touched);
      }

  -- a transaction that touched a line, and has none in the buffer, has open batches
  pub logged_some : lines.buffer.olds ≡ [] → 0 < length (touched_in lines.marks) → 0 < length s.records
  logged_some none some = omega (arith, k.counted, s.many, ap length none, some)

  -- where none is open, the heap region has the bytes at begin
  pub unlogged : lines.logged ≡ 0 → Ends f begun x (Just x)
  unlogged none =
      let empty : s.records ≡ [] = nil_records s.records (omega (arith, s.many, none)) in
      let logs = subst (Logs f x) empty (stands_logs f begun lines x s) in
      record {
        rest = record { regions = logs.regions; gate = none_closed f x logs; only = λ image is. is };
        heap = ap (λ (rs : List Record). put_records rs (heap_of f x)) (sym empty)
            ∙ sym (keeps_begun f begun lines.place s.records x _ s.may.keeps);
      }

  -- whatever is pending
  pub unlogged_left : lines.logged ≡ 0 → (left : List ℕ → Type 0) → Keeps f begun x left → Ends f begun x left
  unlogged_left none left keeps =
      let e = unlogged none in
      ends_synced f begun x left e (closed_only f x left keeps.keeps.logged e.rest.gate)

  -- and where the first gate is closed, none is
  pub closed_none : first_gate x ≡ 0 → lines.logged ≡ 0
  closed_none gate = by s.records (stands_logs f begun lines x s) s.many
    where
      by : (rs : List Record) → Logs f x rs → lines.logged ≡ length rs → lines.logged ≡ 0
      by [] logs many = many
      by (r ∷ rs) logs many =
          absurd (omega (arith, gate, logs_gate f x (r ∷ rs) logs (omega arith)))

  -- open batches, which may be undone
  pub undo_open : 0 < lines.logged → AreOpen f lines.place x
  undo_open some = record {
    records = s.records;
    logs = stands_logs f begun lines x s;
    some = omega (arith, s.many, some);
    ends = s.may.keeps.ends;
  }

  pub undone_ends : (y : List ℕ) → ((records : List Record) → Logs f x records → PutsBack f (length records) x y) →
      Ends f begun y (Just y)
  undone_ends y back =
      undone_bytes f begun lines.place s.records x y s.may.keeps (back s.records (stands_logs f begun lines x s))

  -- while the disk gives the same, it gives the bytes at begin
  pub same_begun : {D : Type 0} (moment : D → ℕ) (may_hold_after : D → ℕ → List ℕ → Type 0) (old new : D) →
      AtEach moment may_hold_after old new (GivesSame x) → AtEach moment may_hold_after old new (GivesHeap begun)
  same_begun moment may_hold_after old new each =
      at_then moment may_hold_after old new (GivesSame x) (GivesHeap begun) each
      (λ image same. same ∙ s.may.keeps.gives)

  -- nothing was written
  pub unmoved_begun : {D : Type 0} (moment : D → ℕ) (may_hold_after : D → ℕ → List ℕ → Type 0) (old : D) →
      Keeps f begun x (may_hold_after old (moment old)) → AtEach moment may_hold_after old old (GivesHeap begun)
  unmoved_begun moment may_hold_after old keeps =
      at_first moment may_hold_after old (GivesHeap begun)
      (keeps_gives f begun keeps.place keeps.records x _ keeps.keeps)

pub positive : (n : ℕ) → (n ≡ 0 → ⊥) → 0 < n
positive n some = grind (arith, some)

-- with no line in the buffer, the bytes now are those of the heap region
pub now_none : (f : Frame) (begun : List ℕ) (lines : Lines) (x : List ℕ) → Stands f begun lines x →
    length lines.buffer.olds ≡ 0 → now_of f lines x ≡ heap_of f x
now_none f begun lines x s none =
    let many : length lines.buffer.news ≡ 0 = omega (
      arith,
      none,
      ap length s.same,
      length-map lines.buffer.news (λ (r : Record). r.line),
      length-map lines.buffer.olds (λ (r : Record). r.line),
    ) in
    ap (λ (rs : List Record). put_records rs (heap_of f x)) (nil_records lines.buffer.news many)

-- with the buffer's lines by rising number, and the batch written anew
pub risen_lines : (f : Frame) (lines : Lines) (risen : Changes) → IsLines f lines → Rises lines.buffer risen →
    (batch : Vec ℕ Global) → length batch.items ≡ 4357 → AreLines risen.news →
    IsLines f (record lines { buffer = risen; batch = batch })
risen_lines f lines risen k r batch long whole = record {
  long = k.long;
  batch = long;
  below = AreBelow-permutation f.heap_lines lines.buffer.news risen.news r.news k.below;
  whole = whole;
  paired = omega (
    arith,
    k.paired,
    length_permutation lines.buffer.olds risen.olds r.olds,
    length_permutation lines.buffer.news risen.news r.news,
  );
  counted = omega (arith, k.counted, length_permutation lines.buffer.olds risen.olds r.olds);
}
