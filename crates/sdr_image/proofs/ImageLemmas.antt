-- Steps of a transaction, as an image's.
use Rattle.std.proofs.Common.{◌≡◌, ◌≤◌, ◌∙◌, ℕ, ◌+◌, ◌*◌, ◌==◌, ◌++◌, Bool, true, false, List, [], ◌∷◌, length, refl, sym, ap, subst, arith, true≢false}
use Rattle.std.proofs.Common.{not, length-append}
use Rattle.std.specs.Prelude.{IsPermutation, Option, filter, unwrap_or}
use Rattle.std.proofs.lemmas.List.Elements.{filter_agree}
use Rattle.std.proofs.lemmas.List.Sorted.{IsPermutation-append_left, list_any-IsPermutation}
use Rattle.sdr_base.specs.Cells.{is_among, with_lines}
use Rattle.sdr_base.specs.Parts.{overwrite}
use Rattle.sdr_base.proofs.PartsLemmas.{length-overwrite, length-part}
use Rattle.sdr_log.specs.Calls.{AreBelow}
use Rattle.sdr_log.specs.Frame.{disk_bytes, heap_place}
use Rattle.sdr_log.specs.Log.{AreLines, heap_of, put_records}
use Rattle.sdr_log.specs.declared.record.Record.{Record}
use Rattle.sdr_log.proofs.LogLemmas.{put_back_of-closed}
use Rattle.sdr_log.specs.declared.frame.Frame.{Frame}
use Rattle.sdr_image.specs.Lines.{AreClean, IsLines, Keeps, Leaves, Stands, Steps, begun_of, now_of}
use Rattle.sdr_image.specs.Marks.{is_clean, stand_at, touched_in}
use Rattle.sdr_image.specs.Opened.{IsImage, IsQuiet, Opened, image_of}
use Rattle.sdr_image.specs.QuietLaws.{quiet_same}
use Rattle.sdr_image.specs.declared.lines.Lines.{Lines}
use Rattle.sdr_image.specs.declared.marks.Stand.{Stand}
use Rattle.sdr_image.proofs.MarksLemmas.{is_among-line}
use Rattle.sdr_image.proofs.RestedLemmas.{nil_records}
use Rattle.sdr_image.proofs.StandsLemmas.{stands_begun}
use Rattle.sdr_image.proofs.StepsLemmas.{recached, recached_lines}
use Rattle.sdr_image.proofs.TouchedLemmas.{with_lines-touched, with_lines-untouched}

abbrev marks_of : Lines → List Stand
marks_of l = l.marks

pub nil_of : (ns : List ℕ) → length ns ≡ 0 → ns ≡ []
nil_of [] is = refl
nil_of (n ∷ ns) is = absurd (omega (arith, is))

-- A step of a transaction over a disk that hasn't failed.
module _ {D : Type 0} (bytes : D → List ℕ) (tells : D → Bool) (moment : D → ℕ) (may_hold_after : D → ℕ → List ℕ → Type 0)
    (f : Frame) (disk disk' : D) (old new : Lines) (is_open : Bool) (restored : ℕ)
    (s : Steps bytes tells moment may_hold_after f disk disk' old new) where
  abbrev before : Opened D
  before = image_of bytes disk f old is_open false restored

  grows : touched_in new.marks ≡ [] → touched_in old.marks ≡ []
  grows none = nil_of (touched_in old.marks) (omega (arith, s.kept, ap length none))

  -- where it fails
  pub quiet_failed : IsQuiet bytes tells moment may_hold_after before (image_of bytes disk' f new is_open true restored)
  quiet_failed = record {
    frame = refl;
    restored = refl;
    still_open = λ o. o;
    disk = s.keeps;
    inside = s.inside;
    forward = s.forward;
    still = λ failed. absurd (true≢false (sym failed));
    begun = λ sound. absurd (true≢false sound);
    grows = grows;
    reads = s.reads;
    rests = λ rests sound. absurd (true≢false sound);
    any_moment = λ sound rests told. s.any_moment told (rests refl told);
  }

  -- and where it doesn't
  pub quiet_stepped : (now : List ℕ) → Leaves bytes tells moment may_hold_after f disk disk' new now →
      IsQuiet bytes tells moment may_hold_after before (image_of bytes disk' f new is_open false restored)
  quiet_stepped now l =
      let begun = stands_begun f (begun_of (bytes disk)) new (bytes disk') l.stands in
      record {
        frame = refl;
        restored = refl;
        still_open = λ o. o;
        disk = s.keeps;
        inside = s.inside;
        forward = s.forward;
        still = λ failed. absurd (true≢false (sym failed));
        begun = λ sound. begun;
        grows = grows;
        reads = s.reads;
        rests = λ rests sound told.
            let told' = sym s.keeps.tells ∙ told in
            subst (λ (b : List ℕ). Keeps f b (bytes disk') (may_hold_after disk' (moment disk'))) (sym begun)
            (l.rests told' (rests refl told'));
        any_moment = λ sound rests told. s.any_moment told (rests refl told);
      }

-- what an image keeps whose transaction goes on
pub image_stepped : (f : Frame) (x y begun : List ℕ) (old new : Lines) → IsImage x f old true false →
    length y ≡ length x → IsLines f new → begun ≡ begun_of x → Stands f begun new y → IsImage y f new true false
image_stepped f x y begun old new i long lines is stands = record {
  limits = i.limits;
  fits = omega (arith, i.fits, long);
  lines_kept = lines;
  idle = λ closed. absurd (true≢false closed);
  stands = λ sound.
      subst (λ (b : List ℕ). Stands f b new y) (sym (stands_begun f begun new y stands)) stands;
}

-- the touched lines in another order, with a line more
pub with_one-permutation : (a b : List ℕ) (line : ℕ) → IsPermutation a b →
    IsPermutation (with_lines a (line ∷ [])) (with_lines b (line ∷ []))
with_one-permutation a b line p =
    by (is_among a line) refl
  where
    same : is_among a line ≡ is_among b line
    same = list_any-IsPermutation (λ other. other == line) a b p

    by : (v : Bool) → is_among a line ≡ v → IsPermutation (with_lines a (line ∷ [])) (with_lines b (line ∷ []))
    by true is =
        subst (λ (l : List ℕ). IsPermutation l (with_lines b (line ∷ []))) (sym (with_lines-touched a line is))
        (subst (IsPermutation a) (sym (with_lines-touched b line (sym same ∙ is))) p)
    by false is =
        subst (λ (l : List ℕ). IsPermutation l (with_lines b (line ∷ []))) (sym (with_lines-untouched a line is))
        (subst (IsPermutation (a ++ line ∷ [])) (sym (with_lines-untouched b line (sym same ∙ is)))
        (IsPermutation-append_left (line ∷ []) a b p))

-- what an image keeps whose disk was only read
pub image_read : (f : Frame) (x y : List ℕ) (lines l : Lines) (is_open failed : Bool) → IsImage x f lines is_open false →
    y ≡ x → l ≡ record lines { cache = l.cache } → AreClean f x lines.marks l.cache → IsImage y f l is_open failed
image_read f x y lines l is_open failed i same is clean =
    subst (λ (z : List ℕ). IsImage z f l is_open failed) (sym same)
    (subst (λ (m : Lines). IsImage x f m is_open failed) (sym is) record {
      limits = i.limits;
      fits = i.fits;
      lines_kept = recached_lines f lines l.cache i.lines_kept;
      idle = i.idle;
      stands = λ sound. recached f (begun_of x) lines x l.cache (i.stands refl) clean;
    })

-- and the image is the same but for the disk
pub read_ended : {D : Type 0} (bytes : D → List ℕ) (disk disk' : D) (f : Frame) (lines l : Lines)
    (is_open failed failed' : Bool) (restored : ℕ) → bytes disk' ≡ bytes disk → l ≡ record lines { cache = l.cache } →
    image_of bytes disk' f l is_open failed' restored
    ≡ record (image_of bytes disk f lines is_open failed restored) { disk = disk'; failed = failed' }
read_ended bytes disk disk' f lines l is_open failed failed' restored same is =
    (λ i. record {
      disk = disk';
      frame = f;
      bytes = now_of f (is i) (same i);
      begun = begun_of (same i);
      touched = touched_in (marks_of (is i));
      is_open = is_open;
      failed = failed';
      restored = restored;
    })

-- what an image keeps at a step at which its disk failed
pub image_failed : (f : Frame) (x y : List ℕ) (old new : Lines) (is_open failed : Bool) → IsImage x f old is_open failed →
    is_open ≡ true → length y ≡ length x → IsLines f new → IsImage y f new is_open true
image_failed f x y old new is_open failed i open_now long lines = record {
  limits = i.limits;
  fits = omega (arith, i.fits, long);
  lines_kept = lines;
  idle = λ closed. absurd (true≢false (sym open_now ∙ closed));
  stands = λ sound. absurd (true≢false sound);
}

-- how long the bytes now are
length-put_records : (n : ℕ) (rs : List Record) (heap : List ℕ) → AreBelow n rs → AreLines rs → 64 * n ≤ length heap →
    length (put_records rs heap) ≡ length heap
length-put_records n [] heap below whole wide = refl
length-put_records n (r ∷ rs) heap below whole wide =
    let one = length-overwrite (64 * r.line) r.bytes heap (omega (arith, below.0, whole.0, wide)) in
    length-put_records n rs (overwrite (64 * r.line) r.bytes heap) below.1 whole.1 (omega (arith, one, wide)) ∙ one

pub now_long : (f : Frame) (lines : Lines) (x : List ℕ) → IsLines f lines → disk_bytes f ≤ length x →
    length (now_of f lines x) ≡ 64 * f.heap_lines
unfolding heap_of
now_long f lines x k wide =
    let heap : length (heap_of f x) ≡ 64 * f.heap_lines =
    length-part (heap_place f) (64 * f.heap_lines) x (omega (arith, wide)) in
    length-put_records f.heap_lines lines.buffer.news (heap_of f x) k.below k.whole (omega (arith, heap)) ∙ heap

-- the touched lines, and those of a run that are clean, counted
pub touched_count : (marks : List Stand) (own : List ℕ) →
    length (touched_in marks) + length (filter (λ line. is_clean (stand_at marks line)) own)
    ≡ length (with_lines (touched_in marks) own)
unfolding with_lines
touched_count marks own =
    let fresh : ℕ → Bool = λ line. not (is_among (touched_in marks) line) in
    let agree = filter_agree (λ line. is_clean (stand_at marks line)) fresh
    (λ line. sym (not_not (is_clean (stand_at marks line))) ∙ ap not (sym (is_among-line marks line))) own in
    omega (arith, ap length agree, length-append (touched_in marks) (filter fresh own))
  where
    not_not : (b : Bool) → not (not b) ≡ b
    not_not true = refl
    not_not false = refl

-- an image of which no transaction is open: its bytes at begin are those now
pub idle_begun : (f : Frame) (x : List ℕ) (lines : Lines) (is_open failed : Bool) → IsImage x f lines is_open failed →
    is_open ≡ false → begun_of x ≡ now_of f lines x
idle_begun f x lines is_open failed i closed =
    let idle = i.idle closed in
    let none : length lines.buffer.news ≡ 0 = omega (arith, i.lines_kept.counted, ap length idle.0, i.lines_kept.paired) in
    let limits = i.limits in
    ap (λ (o : Option (List ℕ)). unwrap_or o [])
    (put_back_of-closed f x idle.1.regions.head (omega (arith, limits.least_log)) idle.1.regions.inside idle.1.gate)
    ∙ sym (ap (λ (rs : List Record). put_records rs (heap_of f x)) (nil_records lines.buffer.news none))

-- an image in which a transaction is begun
pub quiet_opened : {D : Type 0} (bytes : D → List ℕ) (tells : D → Bool) (moment : D → ℕ)
    (may_hold_after : D → ℕ → List ℕ → Type 0) (disk : D) (f : Frame) (lines : Lines) (is_open failed : Bool) (restored : ℕ) →
    IsQuiet bytes tells moment may_hold_after (image_of bytes disk f lines is_open failed restored)
    (image_of bytes disk f lines true failed restored)
quiet_opened bytes tells moment may_hold_after disk f lines is_open failed restored =
    let q = quiet_same bytes tells moment may_hold_after (image_of bytes disk f lines is_open failed restored) in
    record {
      frame = refl;
      restored = refl;
      still_open = λ o. refl;
      disk = q.disk;
      inside = q.inside;
      forward = q.forward;
      still = q.still;
      begun = q.begun;
      grows = q.grows;
      reads = q.reads;
      rests = q.rests;
      any_moment = q.any_moment;
    }
