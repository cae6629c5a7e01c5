-- What stays of the images at each moment as a run of calls goes on.
use Rattle.std.proofs.Common.{◌≡◌, ℕ, Bool, ◌<◌, ◌≤◌, ◌⊎◌, inl, inr, List, [], ◌∷◌, refl, ◌∙◌, arith, subst}
use Rattle.sdr_disk.specs.Moments.{AtEach, SamePast, Reads, Syncs, Writes}
use Rattle.sdr_disk.specs.Ranges.{Agrees, range}

-- no call at all
pub SamePast-refl : (before : ℕ) (left : ℕ → List ℕ → Type 0) → SamePast before left left
SamePast-refl before left = record { now_then = λ m image le l. l; then_now = λ m image le l. l }

-- one call after another
pub SamePast-trans : (before later : ℕ) (old mid new : ℕ → List ℕ → Type 0) → before ≤ later
    → SamePast before old mid → SamePast later mid new → SamePast before old new
SamePast-trans before later old mid new le f g = record {
  now_then = λ m image at l. f.now_then m image at (g.now_then m image (omega arith) l);
  then_now = λ m image at l. g.then_now m image (omega arith) (f.then_now m image at l);
}

-- a moment is up to another or after it
up_to_or_after : (m before : ℕ) → (m ≤ before) ⊎ (before < m)
up_to_or_after m before = grind arith

-- Reads, one after another.
module _ {D : Type 0} (bytes : D → List ℕ) (tells : D → Bool) (moment : D → ℕ)
    (may_hold_after : D → ℕ → List ℕ → Type 0) where
  pub Reads-refl : (old : D) → Reads bytes tells moment may_hold_after old old
  Reads-refl old = record { same = refl; tells = refl; time = refl; past = SamePast-refl (moment old) (may_hold_after old) }

  pub Reads-trans : (old mid new : D) → Reads bytes tells moment may_hold_after old mid →
      Reads bytes tells moment may_hold_after mid new → Reads bytes tells moment may_hold_after old new
  Reads-trans old mid new f g = record {
    same = g.same ∙ f.same;
    tells = g.tells ∙ f.tells;
    time = g.time ∙ f.time;
    past = SamePast-trans (moment old) (moment mid) (may_hold_after old) (may_hold_after mid) (may_hold_after new)
        (omega (arith, f.time)) f.past g.past;
  }

-- Runs of calls whose images all have P.
module _ {D : Type 0} (moment : D → ℕ) (may_hold_after : D → ℕ → List ℕ → Type 0) where
  -- before the first call
  pub at_first : (old : D) (P : List ℕ → Type 0) → ((image : List ℕ) → may_hold_after old (moment old) image → P image)
      → AtEach moment may_hold_after old old P
  at_first old P here = record {
    later = omega arith;
    each = λ m image ge le left.
        here image (let now : m ≡ moment old = omega arith in subst (λ (k : ℕ). may_hold_after old k image) now left);
    past = λ m image le left. left;
  }

  -- one call more, whose own images have P
  pub at_more : (old mid new : D) (P : List ℕ → Type 0) → AtEach moment may_hold_after old mid P
      → moment mid ≤ moment new → SamePast (moment mid) (may_hold_after mid) (may_hold_after new)
      → ((m : ℕ) (image : List ℕ) → moment mid < m → m ≤ moment new → may_hold_after new m image → P image)
      → AtEach moment may_hold_after old new P
  at_more old mid new P so_far later keeps here = record {
    later = omega (arith, so_far.later);
    each = λ m image ge le left. either m image ge le left (up_to_or_after m (moment mid));
    past = λ m image le left.
        so_far.past m image le (keeps.now_then m image (omega (arith, so_far.later)) left);
  }
    where
      either : (m : ℕ) (image : List ℕ) → moment old ≤ m → m ≤ moment new → may_hold_after new m image
          → (m ≤ moment mid) ⊎ (moment mid < m) → P image
      either m image ge le left (inl before) = so_far.each m image ge before (keeps.now_then m image before left)
      either m image ge le left (inr after) = here m image after le left

  -- one run after another
  pub at_both : (old mid new : D) (P Q R : List ℕ → Type 0)
      → AtEach moment may_hold_after old mid P → AtEach moment may_hold_after mid new Q
      → ((image : List ℕ) → P image → R image) → ((image : List ℕ) → Q image → R image)
      → AtEach moment may_hold_after old new R
  at_both old mid new P Q R f g p q = record {
    later = omega (arith, f.later, g.later);
    each = λ m image ge le left. either m image ge le left (up_to_or_after m (moment mid));
    past = λ m image le left. f.past m image le (g.past m image (omega (arith, f.later)) left);
  }
    where
      either : (m : ℕ) (image : List ℕ) → moment old ≤ m → m ≤ moment new → may_hold_after new m image
          → (m ≤ moment mid) ⊎ (moment mid < m) → R image
      either m image ge le left (inl before) = p image (f.each m image ge before (g.past m image before left))
      either m image ge le left (inr after) = q image (g.each m image (omega arith) le left)

  -- less is said
  pub at_then : (old new : D) (P Q : List ℕ → Type 0) → AtEach moment may_hold_after old new P
      → ((image : List ℕ) → P image → Q image) → AtEach moment may_hold_after old new Q
  at_then old new P Q f q = record {
    later = f.later;
    each = λ m image ge le left. q image (f.each m image ge le left);
    past = f.past;
  }

  -- one sync more
  pub at_synced : (old mid new : D) (P : List ℕ → Type 0) → AtEach moment may_hold_after old mid P
      → Syncs moment may_hold_after mid new → AtEach moment may_hold_after old new P
  at_synced old mid new P so_far s =
      at_more old mid new P so_far s.later s.past
      (λ m image gt le left. so_far.each (moment mid) image so_far.later (omega arith) (s.waits m image gt le left))

  -- one write more, where an image from before it has P with any bytes in the range
  pub at_written : (old mid new : D) (P : List ℕ → Type 0) (place count : ℕ) → AtEach moment may_hold_after old mid P
      → Writes moment may_hold_after place count mid new
      → ((whole image : List ℕ) → may_hold_after mid (moment mid) whole
      → Agrees (range place count ∷ []) whole image → P image)
      → AtEach moment may_hold_after old new P
  at_written old mid new P place count so_far w here =
      at_more old mid new P so_far w.later w.past
      (λ m image gt le left. let t = w.torn m image gt le left in here t.whole image t.left_before t.agrees)

  -- reads more
  pub at_read : (old mid new : D) (P : List ℕ → Type 0) → AtEach moment may_hold_after old mid P
      → moment new ≡ moment mid → SamePast (moment mid) (may_hold_after mid) (may_hold_after new) →
      AtEach moment may_hold_after old new P
  at_read old mid new P so_far time keeps =
      at_more old mid new P so_far (omega (arith, time)) keeps (λ m image gt le left. absurd (omega (arith, time)))
