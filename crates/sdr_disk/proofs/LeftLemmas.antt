-- Why the image that is made is one that a crash may leave.
use Rattle.std.proofs.Common.{◌≡◌, ℕ, zero, suc, ◌+◌, ◌≤◌, List, [], ◌∷◌, length, replicate}
use Rattle.std.proofs.Common.{sym, ◌∙◌, subst, arith}
use Rattle.std.specs.List.{AllByRecursion}
use Rattle.std.proofs.lemmas.List.{length-replicate}
use Rattle.sdr_disk.specs.History.{History, Leaves, MayLeave, State, Written, after, bytes_read, during, image_of}
use Rattle.sdr_disk.specs.History.{ranges_of, start, state_at, tear, tear_all}
use Rattle.sdr_disk.specs.Kept.{AllReplace, LeadsBytes, Replaces, changes_of, history_of, undone_all}
use Rattle.sdr_base.specs.Parts.{overwrite}
use Rattle.sdr_disk.specs.Ranges.{Agrees, range}
use Rattle.sdr_disk.specs.declared.change.Change.{Change}
use Rattle.sdr_disk.specs.declared.change.Change.TheVariants.{Write, Sync}
use Rattle.sdr_disk.specs.declared.change.KeptChange.{KeptChange}
use Rattle.sdr_disk.specs.declared.change.Outcome.TheVariants.{Done, Failed}
use Rattle.sdr_disk.specs.declared.torn.Torn.{Torn}
use Rattle.sdr_disk.specs.declared.torn.Torn.TheVariants.{Old, New, Filled}
use Rattle.sdr_disk.proofs.HistoryLemmas.{Agrees-written_over}
use Rattle.sdr_disk.proofs.ImageLemmas.{torn_in}
use Rattle.sdr_disk.proofs.KeptLemmas.{length-after_all}
use Rattle.sdr_disk.proofs.RangesLemmas.{Agrees-more, Agrees-one_more, Agrees-overwrite, Agrees-refl}
use Rattle.sdr_disk.proofs.RangesLemmas.{Agrees-sym, Agrees-trans}

-- all of it was written inside so many bytes
abbrev AllInside : ℕ → List Written → Type 0
AllInside size written = AllByRecursion (λ w. w.place + length w.bytes ≤ size) written

-- on a disk of so many bytes a read gives what was synced, but where something was written since
record IsSound (size : ℕ) (s : State) : Type 0 where
  long : length s.read ≡ size
  agrees : Agrees (ranges_of s.written) s.read s.synced
  inside : AllInside size s.written

IsSound-during : (size : ℕ) (s : State) (change : Change) (before : List ℕ) → Replaces change before s.read
    → IsSound size s → IsSound size (during s change)
IsSound-during size s (Write place from outcome) before replaces sound = record {
  long = sound.long;
  agrees = Agrees-one_more (range place (length from)) _ _ _ sound.agrees;
  inside = (omega (arith, replaces.0, sound.long), sound.inside);
}
IsSound-during size s (Sync outcome) before replaces sound = sound

IsSound-after : (size : ℕ) (s : State) (change : Change) (before : List ℕ) → Replaces change before s.read
    → IsSound size s → IsSound size (after s change)
IsSound-after size s (Write place from outcome) before replaces sound =
    let over = Agrees-written_over outcome place from s.read (ranges_of s.written) replaces.0 in
    let synced = Agrees-one_more (range place (length from)) (ranges_of s.written) _ _ sound.agrees in
    record {
      long = over.long ∙ sound.long;
      agrees = Agrees-trans _ _ _ _ (Agrees-sym _ _ _ over) synced;
      inside = (omega (arith, replaces.0, sound.long), sound.inside);
    }
IsSound-after size s (Sync Done) before replaces sound =
    record { long = sound.long; agrees = Agrees-refl [] s.read; inside = tt }
IsSound-after size s (Sync Failed) before replaces sound = sound

IsSound-state_at : (size : ℕ) (s : State) (kept : List KeptChange) (m : ℕ) → AllReplace s kept → IsSound size s
    → IsSound size (state_at s (changes_of kept) m)
IsSound-state_at size s [] m each sound = sound
IsSound-state_at size s (k ∷ kept) zero each sound = sound
IsSound-state_at size s (k ∷ kept) (suc zero) each sound = IsSound-during size s k.change k.before each.0 sound
IsSound-state_at size s (k ∷ kept) (suc (suc m)) each sound =
    IsSound-state_at size (after s k.change) kept m each.1 (IsSound-after size s k.change k.before each.0 sound)

-- a torn write changes nothing outside its range
Agrees-tear : (torn : Torn) (w : Written) (image : List ℕ) → w.place + length w.bytes ≤ length image
    → Agrees (range w.place (length w.bytes) ∷ []) image (tear torn w image)
Agrees-tear Old w image inside = Agrees-refl (range w.place (length w.bytes) ∷ []) image
Agrees-tear New w image inside = Agrees-overwrite w.place w.bytes image [] inside
Agrees-tear (Filled byte) w image inside =
    let bytes : List ℕ = replicate (length w.bytes) byte in
    let many : length bytes ≡ length w.bytes = length-replicate (length w.bytes) byte in
    subst (λ (n : ℕ). Agrees (range w.place n ∷ []) image (overwrite w.place bytes image)) many
    (Agrees-overwrite w.place bytes image [] (omega (arith, many)))

Agrees-tear_all : (torn : Torn) (written : List Written) (synced : List ℕ) → AllInside (length synced) written
    → Agrees (ranges_of written) synced (tear_all torn written synced)
Agrees-tear_all torn [] synced inside = Agrees-refl [] synced
Agrees-tear_all torn (w ∷ older) synced inside =
    let rest = Agrees-tear_all torn older synced inside.1 in
    let newest = Agrees-tear torn w (tear_all torn older synced) (omega (arith, rest.long, inside.0)) in
    Agrees-trans _ _ _ _
    (Agrees-one_more (range w.place (length w.bytes)) (ranges_of older) _ _ rest)
    (Agrees-more (range w.place (length w.bytes) ∷ []) _ _ _ (λ i o. (o.0, tt)) newest)

Leaves-torn_in : (torn : Torn) (size : ℕ) (s : State) → IsSound size s → Leaves size s (torn_in torn s)
Leaves-torn_in torn size s sound =
    let size' : size ≡ length s.synced = sym (sound.agrees.long ∙ sound.long) in
    let torn' = Agrees-tear_all torn s.written s.synced (subst (λ (n : ℕ). AllInside n s.written) size' sound.inside) in
    record {
      long = torn'.long ∙ sym size';
      same = λ i o. torn'.same i o ∙ sound.agrees.same i o;
    }

MayLeave-image_of : (torn : Torn) (kept : List KeptChange) (now : List ℕ) (m : ℕ) → LeadsBytes (undone_all kept now)
    kept now
    → MayLeave (history_of kept now) m (image_of torn (history_of kept now) m)
MayLeave-image_of torn kept now m leads =
    let first = undone_all kept now in
    let long : length first ≡ length (bytes_read (history_of kept now)) =
    sym (length-after_all (start first) kept leads.each) in
    Leaves-torn_in torn _ (state_at (start first) (changes_of kept) m)
    (IsSound-state_at _ (start first) kept m leads.each
    (record { long = long; agrees = Agrees-refl [] first; inside = tt }))

-- an image that equals that of a crash, in a history that what is kept stands for
pub MayLeave-made : (torn : Torn) (kept : List KeptChange) (now : List ℕ) (m : ℕ) (h : History) (image : List ℕ)
    → LeadsBytes (undone_all kept now) kept now → history_of kept now ≡ h → image ≡ image_of torn h m →
    MayLeave h m image
MayLeave-made torn kept now m h image leads is made =
    subst (MayLeave h m) (sym made)
    (subst (λ (g : History). MayLeave g m (image_of torn g m)) is (MayLeave-image_of torn kept now m leads))
