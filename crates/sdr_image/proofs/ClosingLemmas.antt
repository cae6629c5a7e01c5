-- How all batches are closed, with the buffer's lines by rising number.
use Rattle.std.proofs.Common.{◌≡◌, ◌≤◌, ◌<◌, ◌∙◌, ◌∷◌, ℕ, List, [], length, refl, sym, ap, subst, arith}
use Rattle.std.specs.Vec.{with_items}
use Rattle.std.proofs.lemmas.List.Sorted.{length_permutation}
use Rattle.sdr_base.specs.Parts.{overwrite}
use Rattle.sdr_disk.specs.Moments.{AtEach}
use Rattle.sdr_log.specs.Batch.{with_batch}
use Rattle.sdr_log.specs.Calls.{AreBelow, AreNamed, HasPlace, with_records}
use Rattle.sdr_log.specs.Log.{AreLines, first_gate, heap_of, put_records}
use Rattle.sdr_log.specs.Spilled.{Ends, GivesEither, Just, MaySpill}
use Rattle.sdr_log.specs.declared.frame.Frame.{Frame}
use Rattle.sdr_log.specs.declared.record.Record.{Record}
use Rattle.sdr_log.proofs.SpilledLemmas.{ends_bytes, ends_with_bytes}
use Rattle.sdr_image.specs.Buffer.{Changes, Rises}
use Rattle.sdr_image.specs.Changed.{HasChanged}
use Rattle.sdr_image.specs.Lines.{IsLines, Keeps, Stands, now_of}
use Rattle.sdr_image.specs.Marks.{touched_in}
use Rattle.sdr_image.specs.declared.lines.Lines.{Lines}
use Rattle.sdr_image.proofs.ChangedLemmas.{changed_once}
use Rattle.sdr_image.proofs.RestedLemmas.{closed_none, logged_some, nil_records, now_none, positive, risen_lines}
use Rattle.sdr_image.proofs.StandsLemmas.{keeps_left, risen_below, risen_long, risen_may, risen_named, risen_now, risen_place}
use Rattle.sdr_image.proofs.StandsLemmas.{stands_wide}
use Rattle.sdr_image.proofs.VecLemmas.{items_anew}

module _ {f : Frame} {begun : List ℕ} {lines : Lines} {x : List ℕ} {risen : Changes} {count : ℕ}
    (s : Stands f begun lines x) (k : IsLines f lines) (r : Rises lines.buffer risen) (many : count ≡ length risen.olds) where
  as_many : length lines.buffer.olds ≡ count
  as_many = sym (length_permutation lines.buffer.olds risen.olds r.olds) ∙ sym many

  -- Where none is in the buffer, all are in the heap region.
  module _ (none : count ≡ 0) (some : 0 < length (touched_in lines.marks)) where
    pub none_logged : 0 < length s.records
    none_logged = logged_some f begun lines x s k (nil_records lines.buffer.olds (as_many ∙ none)) some

    heap_now : heap_of f x ≡ now_of f lines x
    heap_now = sym (now_none f begun lines x s (as_many ∙ none))

    pub none_ends : (y : List ℕ) → y ≡ overwrite 64 (0 ∷ []) x → Ends f (now_of f lines x) y (Just y)
    none_ends y is =
        subst (λ (heap : List ℕ). Ends f heap y (Just y)) heap_now
        (ends_bytes f begun lines.place s.records x y s.may.keeps none_logged is)

    pub none_open : {T : Type 0} → first_gate x ≡ 0 → T
    none_open gate = absurd (omega (arith, closed_none f begun lines x s k gate, s.many, none_logged))

    pub none_moments : {D : Type 0} (moment : D → ℕ) (may_hold_after : D → ℕ → List ℕ → Type 0) (old new : D) →
        AtEach moment may_hold_after old new (GivesEither begun (heap_of f x)) →
        AtEach moment may_hold_after old new (GivesEither begun (now_of f lines x))
    none_moments moment may_hold_after old new each =
        subst (λ (heap : List ℕ). AtEach moment may_hold_after old new (GivesEither begun heap)) heap_now each

  -- Where some are, they are the last batch.
  module _ {olds news : List Record} (were : olds ≡ risen.olds) (are : news ≡ risen.news) (some : count ≡ 0 → ⊥)
      (few : count ≤ 64) where
    some_olds : 0 < length lines.buffer.olds
    some_olds = omega (arith, as_many, positive count some)

    few_olds : length lines.buffer.olds ≤ 64
    few_olds = omega (arith, as_many, few)

    pub last_place : (bytes : ℕ) → bytes ≡ 4357 → HasPlace f lines.place (length olds) bytes
    last_place bytes is =
        subst (λ (rs : List Record). HasPlace f lines.place (length rs) bytes) (sym were)
        (risen_place f begun lines x s k risen r some_olds few_olds bytes is)

    pub last_below : AreBelow f.heap_lines news
    last_below = subst (AreBelow f.heap_lines) (sym are) (risen_below f begun lines x s k risen r some_olds few_olds)

    pub last_named : AreNamed olds news
    last_named =
        subst (λ (rs : List Record). AreNamed rs news) (sym were)
        (subst (AreNamed risen.olds) (sym are) (risen_named f begun lines x s k risen r some_olds few_olds))

    pub last_may : (left : List ℕ → Type 0) → Keeps f begun x left → MaySpill f begun lines.place s.records olds x left
    last_may left keeps =
        subst (λ (rs : List Record). MaySpill f begun lines.place s.records rs x left) (sym were)
        (risen_may f begun lines x s k risen r some_olds few_olds left (keeps_left f begun lines x s left keeps))

    last_now : AreLines risen.news → put_records risen.news (heap_of f x) ≡ now_of f lines x
    last_now whole =
        risen_now f begun lines x s k risen r some_olds few_olds (heap_of f x) whole (stands_wide f begun lines x s)

    pub last_moments : {D : Type 0} (moment : D → ℕ) (may_hold_after : D → ℕ → List ℕ → Type 0) (old new : D) →
        AreLines risen.news → AtEach moment may_hold_after old new (GivesEither begun (put_records news (heap_of f x))) →
        AtEach moment may_hold_after old new (GivesEither begun (now_of f lines x))
    last_moments moment may_hold_after old new whole each =
        subst (λ (heap : List ℕ). AtEach moment may_hold_after old new (GivesEither begun heap))
        (ap (λ (rs : List Record). put_records rs (heap_of f x)) are ∙ last_now whole) each

    -- With the batch opened, the lines put and the first gate closed.
    module _ (y : List ℕ) (is : y ≡ overwrite 64 (0 ∷ []) (with_records f news (with_batch lines.place olds x))) where
      is_risen : y ≡ overwrite 64 (0 ∷ []) (with_records f risen.news (with_batch lines.place risen.olds x))
      is_risen =
          is
          ∙ ap (λ (rs : List Record). overwrite 64 (0 ∷ []) (with_records f news (with_batch lines.place rs x))) were
          ∙ ap (λ (rs : List Record). overwrite 64 (0 ∷ []) (with_records f rs (with_batch lines.place risen.olds x))) are

      pub last_ends : AreLines risen.olds → AreLines risen.news → Ends f (now_of f lines x) y (Just y)
      last_ends whole whole' =
          subst (λ (heap : List ℕ). Ends f heap y (Just y)) (last_now whole')
          (ends_with_bytes f begun lines.place s.records risen.olds risen.news x y
          (risen_may f begun lines x s k risen r some_olds few_olds (Just x) s.may.keeps) whole
          (omega (arith, risen_long f begun lines x s k risen r some_olds few_olds, some_olds))
          (risen_place f begun lines x s k risen r some_olds few_olds 4357 refl).fits
          (risen_named f begun lines x s k risen r some_olds few_olds) whole' is_risen)

      pub last_changed : first_gate x ≡ 0 → HasChanged f begun (now_of f lines x) (touched_in lines.marks) x y
      last_changed gate = changed_once f begun lines x s k gate risen y r is_risen

  -- what is kept of the lines, with the batch written anew
  pub last_lines : AreLines risen.news → (value buffer : List ℕ) → value ≡ lines.batch.items → length value ≡ lines.batch.len →
      length buffer ≡ length value → IsLines f (record lines { buffer = risen; batch = with_items lines.batch buffer })
  last_lines whole value buffer is long same =
      risen_lines f lines risen k r (with_items lines.batch buffer)
      (ap length (items_anew lines.batch.len buffer lines.batch.items (same ∙ long)) ∙ same ∙ ap length is ∙ k.batch) whole
