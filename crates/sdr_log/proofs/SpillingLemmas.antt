-- Lines of an open transaction that are spilled, and what a crash leaves of them.
use Rattle.std.proofs.Common.{◌≡◌, ◌≤◌, ◌<◌, ℕ, ◌+◌, ◌*◌, Bool, true, false, ◌||◌, ◌==◌, List, [], ◌∷◌, ◌++◌, length}
use Rattle.std.proofs.Common.{refl, sym, ap, ◌∙◌, subst, arith, true≢false}
use Rattle.std.specs.Prelude.{option_map}
use Rattle.std.proofs.lemmas.Option.{same_Some}
use Rattle.std.proofs.lemmas.Bool.Decides.{nat_tests}
use Rattle.sdr_disk.specs.Moments.{AtEach}
use Rattle.sdr_disk.proofs.MomentsLemmas.{at_both, at_then}
use Rattle.sdr_log.specs.Calls.{AreNamed, HoldLines, MayOpen, MayPut, OpensBatch, Puts}
use Rattle.sdr_log.specs.Log.{AreLines, are_good, heap_of, names_line, put_records}
use Rattle.sdr_log.specs.Logged.{GivesHeap, GivesSame, IsAtRest, Logs}
use Rattle.sdr_log.specs.declared.frame.Frame.{Frame}
use Rattle.sdr_log.specs.declared.record.Record.{Record}
use Rattle.sdr_log.proofs.GoodLemmas.{are_good-before}
use Rattle.sdr_log.proofs.LoggedLemmas.{Logs-lines, length-heap_of, logged_same, put_back_of-logs, rest_gives, rest_logged}
use Rattle.sdr_log.proofs.RecordsLemmas.{SameBut-put_records, are_good-cons, part-same_but}
use Rattle.sdr_log.proofs.TransactionLemmas.{log_end-closed, opens_may_put, rest_reads}
use Rattle.sdr_log.specs.Spilled.{KeepsBegin, MaySpill, Spills}

-- of good records, the later ones name none of the earlier lines
later_unnamed : (n : ℕ) (earlier : List Record) (r : Record) (more : List Record) →
    are_good n (earlier ++ r ∷ more) ≡ true → (names_line earlier r.line ≡ false) × (r.line < n)
later_unnamed n [] r more good = let g = are_good-cons n r more good in (grind arith, g.0)
later_unnamed n (o ∷ earlier) r more good =
    let g = are_good-cons n o (earlier ++ r ∷ more) good in
    let rest = later_unnamed n earlier r more g.2 in
    (apart (o.line == r.line) refl rest.0 g.1, rest.1)
  where
    named_at : (earlier : List Record) (r : Record) (more : List Record) → names_line (earlier ++ r ∷ more) r.line ≡ true
    named_at [] r more = grind (arith, nat_tests)
    named_at (o ∷ earlier) r more = or_true (o.line == r.line) (named_at earlier r more)
      where
        or_true : (b : Bool) {c : Bool} → c ≡ true → (b || c) ≡ true
        or_true b e = grind arith

    apart : (b : Bool) → (o.line == r.line) ≡ b → names_line earlier r.line ≡ false →
        names_line (earlier ++ r ∷ more) o.line ≡ false → (o.line == r.line || names_line earlier r.line) ≡ false
    apart false is other none = grind (arith, is, other)
    apart true is other none =
        let e : o.line ≡ r.line = grind (arith, nat_tests, is) in
        absurd (true≢false (sym (named_at earlier r more) ∙ ap (names_line (earlier ++ r ∷ more)) (sym e) ∙ none))

-- lines that aren't put have the bytes from before
pub HoldLines-unnamed : (n : ℕ) (earlier olds : List Record) (heap : List ℕ) → are_good n (earlier ++ olds) ≡ true →
    AreLines earlier → 64 * n ≤ length heap → HoldLines (put_records earlier heap) olds → HoldLines heap olds
HoldLines-unnamed n earlier [] heap good lines le own = tt
HoldLines-unnamed n earlier (r ∷ olds) heap good lines le own =
    let u = later_unnamed n earlier r olds good in
    let s = SameBut-put_records n earlier heap (are_good-before n earlier (r ∷ olds) good) lines le in (
      own.0 ∙ part-same_but earlier r.line heap (put_records earlier heap) s u.0 (omega (arith, u.1, le)),
      HoldLines-unnamed n earlier olds heap (without n earlier r olds good) lines le own.1,
    )
  where
    without : (n : ℕ) (earlier : List Record) (r : Record) (olds : List Record) →
        are_good n (earlier ++ r ∷ olds) ≡ true → are_good n (earlier ++ olds) ≡ true
    without n [] r olds good = (are_good-cons n r olds good).2
    without n (o ∷ earlier) r olds good =
        let g = are_good-cons n o (earlier ++ r ∷ olds) good in
        let rest = without n earlier r olds g.2 in
        let new = fewer earlier o.line g.1 in
        grind (arith, nat_tests, g.0, rest, new)
      where
        fewer : (earlier : List Record) (line : ℕ) → names_line (earlier ++ r ∷ olds) line ≡ false →
            names_line (earlier ++ olds) line ≡ false
        fewer [] line none = grind (arith, none)
        fewer (p ∷ earlier) line none =
            let rest = fewer earlier line (grind (arith, none)) in grind (arith, none, rest)

-- A disk that keeps the bytes at begin.
module _ (f : Frame) (begun : List ℕ) (place : ℕ) (records : List Record) (x : List ℕ) (left : List ℕ → Type 0)
    (k : KeepsBegin f begun place records x left) where
  -- what a crash leaves gives them
  pub keeps_gives : (image : List ℕ) → left image → GivesHeap begun image
  keeps_gives image l = logged_same f x image left k.logged l ∙ k.gives

  pub keeps_logs : Logs f x records
  keeps_logs = subst (Logs f x) (same_Some _ _ (sym k.logged.logs.log ∙ k.log)) k.logged.logs

  -- they are the heap region with the old bytes of the lines that open batches name
  pub keeps_begun : begun ≡ put_records records (heap_of f x)
  keeps_begun = same_Some _ _ (sym k.gives ∙ put_back_of-logs f x records keeps_logs)

-- at rest no batch is open
pub rest_keeps : (f : Frame) (x : List ℕ) (left : List ℕ → Type 0) → IsAtRest f x left →
    KeepsBegin f (heap_of f x) 0 [] x left
rest_keeps f x left r = record {
  logged = rest_logged f x left r;
  log = rest_reads f x left r;
  ends = log_end-closed f x r.regions r.gate;
  gives = rest_gives f x left r;
}

-- Lines that may be spilled.
module _ (f : Frame) (begun : List ℕ) (place : ℕ) (records olds : List Record) (x : List ℕ) (left : List ℕ → Type 0)
    (m : MaySpill f begun place records olds x left) where
  -- their batch may be opened
  pub spill_open : MayOpen f place olds x left
  spill_open =
      let l = keeps_logs f begun place records x left m.keeps in
      record {
        logged = m.keeps.logged;
        ends = m.keeps.ends;
        good = subst (λ (rs : List Record). are_good f.heap_lines (rs ++ olds) ≡ true)
            (same_Some _ _ (sym m.keeps.log ∙ m.keeps.logged.logs.log)) m.good;
        own = HoldLines-unnamed f.heap_lines records olds (heap_of f x) m.good (Logs-lines f x records l)
            (omega (arith, length-heap_of f x l.regions))
            (subst (λ (b : List ℕ). HoldLines b olds) (keeps_begun f begun place records x left m.keeps) m.own);
      }

  -- while it is written, a crash leaves the bytes at begin
  pub spilling_open : {D : Type 0} (moment : D → ℕ) (may_hold_after : D → ℕ → List ℕ → Type 0) (old now : D) →
      AtEach moment may_hold_after old now (GivesSame x) → AtEach moment may_hold_after old now (GivesHeap begun)
  spilling_open moment may_hold_after old now each =
      at_then moment may_hold_after old now (GivesSame x) (GivesHeap begun) each (λ image same. same ∙ m.keeps.gives)

  -- With the batch open.
  module _ (y : List ℕ) (left' : List ℕ → Type 0) (o : OpensBatch f place olds x y left') (news : List Record)
      (named : AreNamed olds news) where
    pub spill_put : MayPut f news y left'
    spill_put = opens_may_put f place olds news records x y left' o m.keeps.log named

    -- while the lines are put, too
    pub spilling_put : {D : Type 0} (moment : D → ℕ) (may_hold_after : D → ℕ → List ℕ → Type 0) (old mid now : D) →
        AtEach moment may_hold_after old mid (GivesSame x) → AtEach moment may_hold_after mid now (GivesSame y) →
        AtEach moment may_hold_after old now (GivesHeap begun)
    spilling_put moment may_hold_after old mid now before each =
        at_both moment may_hold_after old mid now (GivesSame x) (GivesSame y) (GivesHeap begun) before each
        (λ image same. same ∙ m.keeps.gives) (λ image same. same ∙ o.back ∙ m.keeps.gives)

    -- and then they are spilled
    pub spilled : (z : List ℕ) (left'' : List ℕ → Type 0) → Puts f news y z left'' →
        Spills f begun place records olds news x z left''
    spilled z left'' p = record {
      keeps = record {
        logged = p.logged;
        log = p.log ∙ o.log ∙ ap (option_map (λ rs. rs ++ olds)) m.keeps.log;
        ends = p.ends ∙ o.ends;
        gives = p.back ∙ o.back ∙ m.keeps.gives;
      };
      heap = p.heap ∙ ap (put_records news) o.heap;
    }
