-- An image whose transaction has ended.
use Rattle.std.proofs.Common.{◌≡◌, ◌≤◌, ◌<◌, ℕ, zero, suc, ◌+◌, ◌*◌, Bool, true, false, List, [], length, refl, sym, ap, ◌∙◌, subst, arith}
use Rattle.sdr_disk.specs.Pending.{IsSynced}
use Rattle.sdr_log.specs.Calls.{IsFramed, PutsBack}
use Rattle.sdr_log.specs.Log.{heap_of}
use Rattle.sdr_log.specs.Spilled.{Ends, Just}
use Rattle.sdr_log.specs.declared.frame.Frame.{Frame}
use Rattle.std.specs.Prelude.{Contains}
use Rattle.sdr_image.specs.Lines.{HasBytes, IsFresh, IsLines, IsRested, Keeps, Stands, begun_of, now_of}
use Rattle.sdr_image.specs.Marks.{touched_in}
use Rattle.sdr_image.specs.Opened.{HoldsBegun, IsImage, Rests, image_of}
use Rattle.sdr_image.specs.Saved.{calls_of}
use Rattle.sdr_image.specs.declared.lines.Lines.{Lines}
use Rattle.sdr_image.proofs.RestedLemmas.{ends_rest, now_none, rested, rested_lines, unlogged}
use Rattle.sdr_image.proofs.ImageLemmas.{nil_of}
use Rattle.sdr_image.proofs.StandsLemmas.{stands_begun}

-- where a line is touched, a transaction is open
pub touched_open : (f : Frame) (x : List ℕ) (lines : Lines) (is_open failed : Bool) → IsImage x f lines is_open failed →
    0 < length (touched_in lines.marks) → is_open ≡ true
touched_open f x lines true failed i some = refl
touched_open f x lines false failed i some = absurd (omega (arith, some, ap length (i.idle refl).0))

-- what an image keeps that is at rest
pub image_rested : (f : Frame) (x y heap : List ℕ) (old new : Lines) (was is_open failed was_failed : Bool) →
    IsImage x f old was was_failed → length y ≡ length x → IsLines f new → IsRested f heap new y →
    IsImage y f new is_open failed
image_rested f x y heap old new was is_open failed was_failed i long lines r = record {
  limits = i.limits;
  fits = omega (arith, i.fits, long);
  lines_kept = lines;
  idle = λ closed. (r.untouched, subst (λ (h : List ℕ). HasBytes f h y) (sym r.has.heap) r.has);
  stands = λ sound. subst (λ (b : List ℕ). Stands f b new y) (sym (stands_begun f heap new y r.stands)) r.stands;
}

-- and the image then
pub rested_ended : {D : Type 0} (bytes : D → List ℕ) (disk disk' : D) (f : Frame) (heap : List ℕ) (old new : Lines)
    (was failed : Bool) (restored : ℕ) → IsRested f heap new (bytes disk') →
    image_of bytes disk' f new false failed restored ≡ record (image_of bytes disk f old was failed restored) {
      disk = disk';
      bytes = heap;
      begun = heap;
      touched = [];
      is_open = false;
    }
rested_ended bytes disk disk' f heap old new was failed restored r =
    let begun = stands_begun f heap new (bytes disk') r.stands in
    (λ i. record {
      disk = disk';
      frame = f;
      bytes = r.now i;
      begun = begun i;
      touched = r.untouched i;
      is_open = false;
      failed = failed;
      restored = restored;
    })

-- whose disk rests, where nothing is pending on it
pub rested_rests : {D : Type 0} (bytes : D → List ℕ) (tells : D → Bool) (moment : D → ℕ)
    (may_hold_after : D → ℕ → List ℕ → Type 0) (disk' : D) (f : Frame) (heap : List ℕ) (new : Lines) (is_open failed : Bool)
    (restored : ℕ) → IsRested f heap new (bytes disk') → IsSynced bytes tells moment may_hold_after disk' →
    Rests bytes tells moment may_hold_after (image_of bytes disk' f new is_open failed restored)
rested_rests bytes tells moment may_hold_after disk' f heap new is_open failed restored r synced sound told =
    let y = bytes disk' in
    let left = may_hold_after disk' (moment disk') in
    let e : Ends f heap y left = record {
      rest = record { regions = r.has.regions; gate = r.has.gate; only = synced told };
      heap = r.has.heap;
    } in
    subst (λ (b : List ℕ). Keeps f b y left) (sym (stands_begun f heap new y r.stands)) (ends_rest f heap y left e)

-- what an image's disk has, unless it has failed
pub image_holds : (f : Frame) (x : List ℕ) (lines : Lines) (is_open failed : Bool) → IsImage x f lines is_open failed →
    failed ≡ false → HoldsBegun f (begun_of x) (touched_in lines.marks) x
image_holds f x lines is_open failed i sound =
    let s = i.stands sound in
    record {
      gives = s.may.keeps.gives;
      idle = λ none.
          let e = unlogged f (begun_of x) lines x s i.lines_kept (omega (arith, i.lines_kept.counted, ap length none)) in
          record { regions = e.rest.regions; gate = e.rest.gate; heap = e.heap };
    }

-- A disk that was just opened.
module _ (f : Frame) (count : ℕ) (x y : List ℕ) (l : Lines) (fresh : IsFresh f l) (back : PutsBack f count x y) where
  pub opened_rested : IsRested f (heap_of f y) l y
  opened_rested =
      let e : Ends f (heap_of f y) y (Just y) = record {
        rest = record { regions = back.regions; gate = back.gate; only = λ image is. is };
        heap = refl;
      } in
      rested f (heap_of f y) y l e fresh.place fresh.logged fresh.buffer f.heap_lines fresh.marks
      (λ e has. absurd (nothing e (subst (λ (es : List (ℕ × List ℕ)). Contains es e) fresh.cache has)))
    where
      nothing : (e : ℕ × List ℕ) → Contains {X = ℕ × List ℕ} [] e → ⊥
      nothing e has = absurd (omega (arith, has.1))

  pub opened_lines : IsLines f l
  opened_lines = rested_lines f l fresh.logged fresh.buffer fresh.marks fresh.batch

  pub opened_image : IsFramed x f → length y ≡ length x → IsImage y f l false false
  opened_image framed long = record {
    limits = framed.limits;
    fits = omega (arith, framed.fits, long);
    lines_kept = opened_lines;
    idle = λ closed. (opened_rested.untouched, opened_rested.has);
    stands = λ sound.
        subst (λ (b : List ℕ). Stands f b l y) (sym (stands_begun f (heap_of f y) l y opened_rested.stands))
        opened_rested.stands;
  }

-- how many calls an end makes that touched a line
pub calls_of-some : (lines : ℕ) → 0 < lines → calls_of lines ≡ lines + 7
calls_of-some zero some = absurd (omega (arith, some))
calls_of-some (suc lines) some = refl

-- a cancel makes no more than an end, and none where nothing is logged
pub calls_of-lines : {D : Type 0} (moment : D → ℕ) (old new : D) (logged touched : ℕ) → logged ≤ touched →
    (logged ≡ 0 → new ≡ old) → moment new ≤ moment old + 2 * (logged + 3) →
    moment new ≤ moment old + 2 * calls_of touched
calls_of-lines moment old new zero touched le same few = let e = ap moment (same refl) in omega (arith, e)
calls_of-lines moment old new (suc logged) touched le same few =
    omega (arith, few, le, calls_of-some touched (omega (arith, le)))

-- An image that hasn't failed, and has touched no line.
module _ (f : Frame) (x : List ℕ) (lines : Lines) (is_open failed : Bool) (i : IsImage x f lines is_open failed)
    (sound : failed ≡ false) (none : length (touched_in lines.marks) ≡ 0) where
  unspilled : Ends f (begun_of x) x (Just x)
  unspilled = unlogged f (begun_of x) lines x (i.stands sound) i.lines_kept (omega (arith, i.lines_kept.counted, none))

  -- its bytes now are those at begin
  pub untouched_now : now_of f lines x ≡ begun_of x
  untouched_now =
      now_none f (begun_of x) lines x (i.stands sound) (omega (arith, i.lines_kept.counted, none)) ∙ unspilled.heap

  -- and no transaction need be open
  pub untouched_image : IsImage x f lines false failed
  untouched_image = record {
    limits = i.limits;
    fits = i.fits;
    lines_kept = i.lines_kept;
    idle = λ closed. (
      nil_of (touched_in lines.marks) none,
      record {
        regions = unspilled.rest.regions;
        gate = unspilled.rest.gate;
        heap = refl;
      },
    );
    stands = i.stands;
  }
