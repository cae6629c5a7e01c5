-- Steps of a transaction, one after another.
use Rattle.std.proofs.Common.{◌≡◌, ◌≤◌, ◌<◌, ◌∙◌, ◌⊎◌, ⊎_elim, ℕ, Bool, true, List, length, sym, ap, subst, arith}
use Rattle.std.specs.Prelude.{Contains}
use Rattle.sdr_disk.specs.Moments.{Reads}
use Rattle.sdr_disk.proofs.MomentsLemmas.{Reads-trans, at_first}
use Rattle.sdr_disk.proofs.RangesLemmas.{Agrees-refl}
use Rattle.sdr_log.specs.Calls.{KeepsOutside}
use Rattle.sdr_log.specs.Logged.{GivesHeap}
use Rattle.sdr_log.specs.declared.frame.Frame.{Frame}
use Rattle.sdr_log.proofs.RestoringLemmas.{at_restored}
use Rattle.sdr_log.proofs.SpillingLemmas.{keeps_gives}
use Rattle.sdr_image.specs.Lines.{AreClean, IsLineOf, IsLines, Keeps, Leaves, Stands, Steps, begun_of, now_of}
use Rattle.sdr_image.specs.Marks.{is_clean, stand_at, touched_in}
use Rattle.sdr_image.specs.QuietLaws.{keeps_read}
use Rattle.sdr_image.specs.declared.lines.Lines.{Lines}

-- with other lines in the cache
pub recached : (f : Frame) (begun : List ℕ) (lines : Lines) (x : List ℕ) (cache : List (ℕ × List ℕ)) →
    Stands f begun lines x → AreClean f x lines.marks cache → Stands f begun (record lines { cache = cache }) x
recached f begun lines x cache s clean = record {
  records = s.records;
  may = s.may;
  same = s.same;
  marked = s.marked;
  room = s.room;
  many = s.many;
  few = s.few;
  permuted = s.permuted;
  clean = clean;
}

pub recached_lines : (f : Frame) (lines : Lines) (cache : List (ℕ × List ℕ)) → IsLines f lines →
    IsLines f (record lines { cache = cache })
recached_lines f lines cache k =
    record { long = k.long; batch = k.batch; below = k.below; whole = k.whole; paired = k.paired; counted = k.counted }

-- a clean line came into the cache
pub cached_clean : (f : Frame) (lines : Lines) (x : List ℕ) (line : ℕ) (cache : List (ℕ × List ℕ)) →
    AreClean f x lines.marks lines.cache → is_clean (stand_at lines.marks line) ≡ true →
    ((e : ℕ × List ℕ) → Contains cache e → Contains lines.cache e ⊎ ((e.0 ≡ line) × IsLineOf f x e)) →
    AreClean f x lines.marks cache
cached_clean f lines x line cache was clean kept e has =
    ⊎_elim (λ old. was e old)
    (λ new. (new.1, ap (λ (n : ℕ). is_clean (stand_at lines.marks n)) new.0 ∙ clean)) (kept e has)

module _ {D : Type 0} {bytes : D → List ℕ} {tells : D → Bool} {moment : D → ℕ}
    {may_hold_after : D → ℕ → List ℕ → Type 0} (f : Frame) where
  -- where the disk was only read
  pub steps_read : (disk disk' : D) (old new : Lines) → Reads bytes tells moment may_hold_after disk disk' →
      IsLines f new → length (touched_in old.marks) ≤ length (touched_in new.marks) →
      Steps bytes tells moment may_hold_after f disk disk' old new
  steps_read disk disk' old new r lines kept = record {
    keeps = record { size = ap length r.same; tells = r.tells };
    inside = subst (λ (y : List ℕ). KeepsOutside f (bytes disk) y) (sym r.same) (Agrees-refl _ (bytes disk));
    forward = omega (arith, r.time);
    lines = lines;
    kept = kept;
    reads = λ none. r;
    any_moment = λ told keeps.
        let P : List ℕ → List ℕ → Type 0 = λ x. GivesHeap (begun_of x) in
        at_restored r P (λ image l. keeps_gives f (begun_of (bytes disk)) keeps.place keeps.records (bytes disk) _ keeps.keeps
        image l) disk'
        (at_first moment may_hold_after disk' (P (bytes disk')) (λ image l.
        let now = keeps_read r f (begun_of (bytes disk)) keeps in
        subst (λ (b : List ℕ). GivesHeap b image) (ap begun_of (sym r.same))
        (keeps_gives f (begun_of (bytes disk)) now.place now.records (bytes disk') _ now.keeps image l)));
  }

  -- and then
  module _ (disk disk' disk'' : D) (old mid new : Lines) (r : Reads bytes tells moment may_hold_after disk disk')
      (touched : touched_in mid.marks ≡ touched_in old.marks) where
    pub steps_then : Steps bytes tells moment may_hold_after f disk' disk'' mid new →
        Steps bytes tells moment may_hold_after f disk disk'' old new
    steps_then s = record {
      keeps = record { size = s.keeps.size ∙ ap length r.same; tells = s.keeps.tells ∙ r.tells };
      inside = subst (λ (y : List ℕ). KeepsOutside f y (bytes disk'')) r.same s.inside;
      forward = omega (arith, r.time, s.forward);
      lines = s.lines;
      kept = omega (arith, s.kept, ap length touched);
      reads = λ none. Reads-trans bytes tells moment may_hold_after disk disk' disk'' r (s.reads none);
      any_moment = λ told keeps.
          let P : List ℕ → List ℕ → Type 0 = λ x. GivesHeap (begun_of x) in
          at_restored r P
          (λ image l. keeps_gives f (begun_of (bytes disk)) keeps.place keeps.records (bytes disk) _ keeps.keeps image l) disk''
          (s.any_moment (r.tells ∙ told)
          (subst (λ (b : List ℕ). Keeps f b (bytes disk') (may_hold_after disk' (moment disk'))) (ap begun_of (sym r.same))
          (keeps_read r f (begun_of (bytes disk)) keeps)));
    }

    pub leaves_then : (now : List ℕ) → Leaves bytes tells moment may_hold_after f disk' disk'' new now →
        Leaves bytes tells moment may_hold_after f disk disk'' new now
    leaves_then now l = record {
      stands = subst (λ (x : List ℕ). Stands f (begun_of x) new (bytes disk'')) r.same l.stands;
      bytes_now = l.bytes_now;
      rests = λ told keeps.
          subst (λ (x : List ℕ). Keeps f (begun_of x) (bytes disk'') (may_hold_after disk'' (moment disk''))) r.same
          (l.rests (r.tells ∙ told)
          (subst (λ (b : List ℕ). Keeps f b (bytes disk') (may_hold_after disk' (moment disk'))) (ap begun_of (sym r.same))
          (keeps_read r f (begun_of (bytes disk)) keeps)));
    }

  -- with other lines in memory, some of which are touched
  pub steps_entered : (disk disk' : D) (old mid new : Lines) → Steps bytes tells moment may_hold_after f disk disk' old mid →
      IsLines f new → length (touched_in mid.marks) ≤ length (touched_in new.marks) → 0 < length (touched_in new.marks) →
      Steps bytes tells moment may_hold_after f disk disk' old new
  steps_entered disk disk' old mid new s lines kept some = record {
    keeps = s.keeps;
    inside = s.inside;
    forward = s.forward;
    lines = lines;
    kept = omega (arith, s.kept, kept);
    reads = λ none. absurd (omega (arith, ap length none, some));
    any_moment = s.any_moment;
  }

  pub leaves_entered : (disk disk' : D) (mid new : Lines) (now now' : List ℕ) →
      Leaves bytes tells moment may_hold_after f disk disk' mid now →
      Stands f (begun_of (bytes disk)) new (bytes disk') → now_of f new (bytes disk') ≡ now' →
      Leaves bytes tells moment may_hold_after f disk disk' new now'
  leaves_entered disk disk' mid new now now' l stands is = record { stands = stands; bytes_now = is; rests = l.rests }
