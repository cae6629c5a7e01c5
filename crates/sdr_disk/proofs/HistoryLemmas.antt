-- One change more in the history of a disk in memory.
use Rattle.std.proofs.Common.{◌≡◌, ℕ, zero, suc, ◌+◌, ◌*◌, ◌<◌, ◌≤◌, ◌⊎◌, inl, inr, List, [], ◌∷◌, ◌++◌, length}
use Rattle.std.proofs.Common.{refl, sym, ◌∙◌, ap, subst, arith, length-append}
use Rattle.sdr_disk.specs.History.{History, Leaves, MayLeave, State, after, after_all, bytes_read, during}
use Rattle.sdr_disk.specs.History.{moment_of, ranges_of, start, state_at, with_change, written_over}
use Rattle.sdr_disk.specs.HistoryLaws.{state_at-now}
use Rattle.sdr_disk.specs.Moments.{IsTorn, SamePast, Only, Syncs, Writes}
use Rattle.sdr_base.specs.Parts.{overwrite, part}
use Rattle.sdr_disk.specs.Ranges.{Agrees, Range, range}
use Rattle.sdr_disk.specs.declared.change.Change.{Change}
use Rattle.sdr_disk.specs.declared.change.Change.TheVariants.{Write, Sync}
use Rattle.sdr_disk.specs.declared.change.Outcome.{Outcome}
use Rattle.sdr_disk.specs.declared.change.Outcome.TheVariants.{Done, Failed}
use Rattle.sdr_disk.proofs.RangesLemmas.{Agrees-nil, Agrees-overwrite, Agrees-part_back, Agrees-refl}
use Rattle.sdr_base.proofs.PartsLemmas.{length-part}
use Rattle.sdr_disk.proofs.RangesLemmas.{Agrees-sym, Agrees-trans}

-- The states along a history.

pub after_all-push : (s : State) (changes : List Change) (x : Change)
    → after_all s (changes ++ x ∷ []) ≡ after (after_all s changes) x
after_all-push s [] x = refl
after_all-push s (y ∷ changes) x = after_all-push (after s y) changes x

-- a change more is nothing to the moments before it
pub state_at-past : (s : State) (changes : List Change) (x : Change) (m : ℕ) → m ≤ 2 * length changes
    → state_at s (changes ++ x ∷ []) m ≡ state_at s changes m
state_at-past s [] x zero le = refl
state_at-past s [] x (suc m) le = absurd (omega arith)
state_at-past s (y ∷ changes) x zero le = refl
state_at-past s (y ∷ changes) x (suc zero) le = refl
state_at-past s (y ∷ changes) x (suc (suc m)) le = state_at-past (after s y) changes x m (omega arith)

-- at its begin it runs, and from its return on it has happened
pub state_at-push : (s : State) (changes : List Change) (x : Change) (m : ℕ) → 2 * length changes < m
    → (state_at s (changes ++ x ∷ []) m ≡ during (after_all s changes) x)
    ⊎ (state_at s (changes ++ x ∷ []) m ≡ after (after_all s changes) x)
state_at-push s [] x zero gt = absurd (omega arith)
state_at-push s [] x (suc zero) gt = inl refl
state_at-push s [] x (suc (suc m)) gt = inr refl
state_at-push s (y ∷ changes) x zero gt = absurd (omega arith)
state_at-push s (y ∷ changes) x (suc zero) gt = absurd (omega arith)
state_at-push s (y ∷ changes) x (suc (suc m)) gt = state_at-push (after s y) changes x m (omega arith)

-- a sync changes nothing that a read gives
pub read-sync : (outcome : Outcome) (s : State) → (after s (Sync outcome)).read ≡ s.read
read-sync Done s = refl
read-sync Failed s = refl

-- whether a write is done or not, a read gives the same bytes outside its range
pub Agrees-written_over : (outcome : Outcome) (place : ℕ) (from x : List ℕ) (ranges : List Range)
    → place + length from ≤ length x
    → Agrees (range place (length from) ∷ ranges) x (written_over outcome place from x)
Agrees-written_over Done place from x ranges inside = Agrees-overwrite place from x ranges inside
Agrees-written_over Failed place from x ranges inside = Agrees-refl (range place (length from) ∷ ranges) x

-- an image of one state is an image of another at another length, where both are the same
pub Leaves-moved : (size size' : ℕ) (s s' : State) (image : List ℕ) → size ≡ size' → s ≡ s'
    → Leaves size s image → Leaves size' s' image
Leaves-moved size size' s s' image e f left =
    subst (λ (t : State). Leaves size' t image) f (subst (λ (n : ℕ). Leaves n s image) e left)

-- The state now.
module _ (h : History) where
  abbrev pub state_now : State
  state_now = after_all (start h.first) h.changes

  pub MayLeave-now : (image : List ℕ) → Leaves (length (bytes_read h)) state_now image → MayLeave h (moment_of h) image
  MayLeave-now image left =
      Leaves-moved _ _ _ _ image refl (sym (state_at-now (start h.first) h.changes (moment_of h) (omega arith))) left

-- One change more, by which the disk keeps its length.
module _ (h : History) (x : Change) (long : length (bytes_read (with_change x h)) ≡ length (bytes_read h)) where
  pub SamePast-push : SamePast (moment_of h) (MayLeave h) (MayLeave (with_change x h))
  SamePast-push = record {
    now_then = λ m image le left.
        Leaves-moved _ _ _ _ image long (state_at-past (start h.first) h.changes x m le) left;
    then_now = λ m image le left.
        Leaves-moved _ _ _ _ image (sym long) (sym (state_at-past (start h.first) h.changes x m le)) left;
  }

  -- what a crash leaves at its moments it leaves while the change runs or after it
  pub MayLeave-push : (m : ℕ) (image : List ℕ) → moment_of h < m → MayLeave (with_change x h) m image
      → Leaves (length (bytes_read h)) (during (state_now h) x) image
      ⊎ Leaves (length (bytes_read h)) (after (state_now h) x) image
  MayLeave-push m image gt left = at (state_at-push (start h.first) h.changes x m gt)
    where
      at : (state_at (start h.first) (h.changes ++ x ∷ []) m ≡ during (state_now h) x)
          ⊎ (state_at (start h.first) (h.changes ++ x ∷ []) m ≡ after (state_now h) x)
          → Leaves (length (bytes_read h)) (during (state_now h) x) image
          ⊎ Leaves (length (bytes_read h)) (after (state_now h) x) image
      at (inl e) = inl (Leaves-moved _ _ _ _ image long e left)
      at (inr e) = inr (Leaves-moved _ _ _ _ image long e left)

pub moment_of-push : (h : History) (x : Change) → moment_of (with_change x h) ≡ moment_of h + 2
moment_of-push h x = omega (arith, length-append h.changes (x ∷ []))

pub bytes_read-push : (h : History) (x : Change) → bytes_read (with_change x h) ≡ (after (state_now h) x).read
bytes_read-push h x = ap (λ (s : State). s.read) (after_all-push (start h.first) h.changes x)

-- One write more, inside the disk.
module _ (h : History) (place : ℕ) (from : List ℕ) (outcome : Outcome)
    (inside : place + length from ≤ length (bytes_read h)) where
  abbrev write : Change
  write = Write place from outcome

  over : (ranges : List Range)
      → Agrees (range place (length from) ∷ ranges) (bytes_read h) (written_over outcome place from (bytes_read h))
  over ranges = Agrees-written_over outcome place from (bytes_read h) ranges inside

  pub length-write : length (bytes_read (with_change write h)) ≡ length (bytes_read h)
  length-write = ap length (bytes_read-push h write) ∙ (over []).long

  -- an image with any bytes in the range comes from one that has there what a read gave
  torn_from : (image : List ℕ)
      → Agrees (range place (length from) ∷ ranges_of (state_now h).written) (bytes_read h) image
      → IsTorn (MayLeave h (moment_of h)) place (length from) image
  torn_from image f =
      let old : List ℕ = part place (length from) (bytes_read h) in
      let many : length old ≡ length from = length-part place (length from) (bytes_read h) inside in
      let whole = Agrees-part_back place (length from) (bytes_read h) image (ranges_of (state_now h).written) inside f
      in
      record {
        whole = overwrite place old image;
        left_before = MayLeave-now h (overwrite place old image) (record { long = whole.long; same = whole.same });
        agrees = Agrees-sym _ image (overwrite place old image)
            (subst (λ (n : ℕ). Agrees (range place n ∷ []) image (overwrite place old image)) many
            (Agrees-overwrite place old image [] (omega (arith, many, f.long))));
      }

  pub Writes-push : Writes moment_of MayLeave place (length from) h (with_change write h)
  Writes-push = record {
    later = omega (arith, moment_of-push h write);
    soon = omega (arith, moment_of-push h write);
    past = SamePast-push h write length-write;
    torn = λ m image gt le left. at image (MayLeave-push h write length-write m image gt left);
  }
    where
      at : (image : List ℕ) → Leaves (length (bytes_read h)) (during (state_now h) write) image
          ⊎ Leaves (length (bytes_read h)) (after (state_now h) write) image
          → IsTorn (MayLeave h (moment_of h)) place (length from) image
      at image (inl f) = torn_from image (record { long = f.long; same = f.same })
      at image (inr f) =
          let done = over (ranges_of (state_now h).written) in
          torn_from image
          (Agrees-trans _ (bytes_read h) _ image done (record { long = f.long ∙ sym done.long; same = f.same }))

-- One sync more.
module _ (h : History) (outcome : Outcome) where
  abbrev sync : Change
  sync = Sync outcome

  pub bytes_read-sync : bytes_read (with_change sync h) ≡ bytes_read h
  bytes_read-sync = bytes_read-push h sync ∙ read-sync outcome (state_now h)

  -- what a crash leaves after a sync it leaves before it
  waited : (o : Outcome) (image : List ℕ) → Leaves (length (bytes_read h)) (after (state_now h) (Sync o)) image
      → Leaves (length (bytes_read h)) (state_now h) image
  waited Done image f = record { long = f.long; same = λ i o. f.same i tt }
  waited Failed image f = f

  pub Syncs-push : Syncs moment_of MayLeave h (with_change sync h)
  Syncs-push = record {
    later = omega (arith, moment_of-push h sync);
    soon = omega (arith, moment_of-push h sync);
    past = SamePast-push h sync (ap length bytes_read-sync);
    waits = λ m image gt le left.
        MayLeave-now h image (at image (MayLeave-push h sync (ap length bytes_read-sync) m image gt left));
  }
    where
      at : (image : List ℕ) → Leaves (length (bytes_read h)) (during (state_now h) sync) image
          ⊎ Leaves (length (bytes_read h)) (after (state_now h) sync) image
          → Leaves (length (bytes_read h)) (state_now h) image
      at image (inl f) = f
      at image (inr f) = waited outcome image f

-- after a good sync a crash leaves what a read gives
pub Only-synced : (h : History)
    → let g = with_change (Sync Done) h in Only (bytes_read g) (MayLeave g (moment_of g))
Only-synced h image left =
    let now = state_at-now (start h.first) (h.changes ++ Sync Done ∷ []) _ (omega arith) in
    let is = now ∙ after_all-push (start h.first) h.changes (Sync Done) in
    let f = Leaves-moved _ _ _ _ image (ap length (bytes_read-sync h Done)) is left in
    Agrees-nil (bytes_read h) image (record { long = f.long; same = f.same }) ∙ sym (bytes_read-sync h Done)
