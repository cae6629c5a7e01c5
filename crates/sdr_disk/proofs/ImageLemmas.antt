-- Why the image that is made is the image of a crash.
use Rattle.std.proofs.Common.{◌≡◌, ℕ, zero, suc, ◌+◌, ◌-◌, ◌*◌, ◌/◌, ◌%◌, ◌<◌, ◌≤◌, true, false}
use Rattle.std.proofs.Common.{List, [], ◌∷◌, ◌++◌, length, take, drop, get_or, refl, sym, ◌∙◌, ap, subst}
use Rattle.std.proofs.Common.{arith, length-take}
use Rattle.std.specs.List.{AllByRecursion}
use Rattle.std.proofs.lemmas.List.{drop-take, length-map, length-take-le, take-append-drop, take-take}
use Rattle.std.proofs.lemmas.List.{take_more, take_rest}
use Rattle.std.proofs.Math.Seq.{take-nil}
use Rattle.sdr_disk.specs.History.{State, Written, after, after_all, during, image_of, start, state_at, tear_all}
use Rattle.sdr_disk.specs.Image.{AllFit, Fits, IsSettled, SplitsAtSync, is_good_sync, tear_change, tear_changes}
use Rattle.sdr_disk.specs.Kept.{AllReplace, LeadsBytes, Replaces, changes_of, history_of, undone_all}
use Rattle.sdr_disk.specs.declared.change.Change.{Change}
use Rattle.sdr_disk.specs.declared.change.Change.TheVariants.{Write, Sync}
use Rattle.sdr_disk.specs.declared.change.KeptChange.{KeptChange}
use Rattle.sdr_disk.specs.declared.change.Outcome.TheVariants.{Done, Failed}
use Rattle.sdr_disk.specs.declared.torn.Torn.{Torn}
use Rattle.sdr_disk.proofs.HistoryLemmas.{after_all-push}
use Rattle.sdr_disk.proofs.KeptLemmas.{AllReplace-back, changes_of-append, length-after, length-after_all}
use Rattle.sdr_disk.proofs.KeptLemmas.{undone_all-after_all, undone_all-push}
use Rattle.sdr_base.proofs.PartsLemmas.{length-part}

-- Changes that fit.

pub AllFit-last : (size : ℕ) (earlier : List KeptChange) (last : KeptChange) → AllFit size (earlier ++ last ∷ [])
    → AllFit size earlier × Fits size last.change last.before
AllFit-last size [] last fit = (tt, fit.0)
AllFit-last size (k ∷ earlier) last fit = let f = AllFit-last size earlier last fit.1 in ((fit.0, f.0), f.1)

-- undoing, the last change first
pub ruleset undoing = (AllFit-last, undone_all-push)

Fits-replaced : (size : ℕ) (change : Change) (before : List ℕ) (s : State) → length s.read ≡ size
    → Replaces change before s.read → Fits size change before
Fits-replaced size (Write place from outcome) before s long replaces =
    (omega (arith, long, replaces.0), ap length replaces.1 ∙ length-part place (length from) s.read replaces.0)
Fits-replaced size (Sync outcome) before s long replaces = tt

AllFit-replaced : (size : ℕ) (s : State) (kept : List KeptChange) → length s.read ≡ size → AllReplace s kept
    → AllFit size kept
AllFit-replaced size s [] long each = tt
AllFit-replaced size s (k ∷ kept) long each = (
  Fits-replaced size k.change k.before s long each.0,
  AllFit-replaced size (after s k.change) kept (length-after k.change k.before s each.0 ∙ long) each.1,
)

pub AllFit-led : (first : List ℕ) (kept : List KeptChange) (now : List ℕ) → LeadsBytes first kept now →
    AllFit (length now) kept
AllFit-led first kept now leads =
    let long = sym (length-after_all (start first) kept leads.each) ∙ ap length leads.forth in
    AllFit-replaced (length now) (start first) kept long leads.each

pub AllFit-take : (size count : ℕ) (kept : List KeptChange) → AllFit size kept → AllFit size (take count kept)
AllFit-take size zero [] fit = tt
AllFit-take size (suc count) [] fit = tt
AllFit-take size zero (k ∷ kept) fit = tt
AllFit-take size (suc count) (k ∷ kept) fit = (fit.0, AllFit-take size count kept fit.1)

AllFit-drop : (size count : ℕ) (kept : List KeptChange) → AllFit size kept → AllFit size (drop count kept)
AllFit-drop size zero [] fit = tt
AllFit-drop size (suc count) [] fit = tt
AllFit-drop size zero (k ∷ kept) fit = fit
AllFit-drop size (suc count) (k ∷ kept) fit = AllFit-drop size count kept fit.1

-- the changes from a count on, as a slice has them
pub AllFit-rest : (size count : ℕ) (kept : List KeptChange) → AllFit size kept
    → AllFit size (take (length kept - count) (drop count kept))
AllFit-rest size count kept fit = subst (AllFit size) (sym (take_rest kept count)) (AllFit-drop size count kept fit)

-- The last good sync.

IsSettled-good_sync : (change : Change) (s : State) → is_good_sync change ≡ true → IsSettled (after s change)
IsSettled-good_sync (Write place from outcome) s is = absurd cc
IsSettled-good_sync (Sync Done) s is = record { read = refl; written = refl }
IsSettled-good_sync (Sync Failed) s is = absurd cc

-- where the change before a count is a good sync, and none from there on
pub SplitsAtSync-after : (kept : List KeptChange) (count : ℕ) (k : KeptChange) → 0 < count → count ≤ length kept
    → k ≡ get_or kept (count - 1) k → is_good_sync k.change ≡ true
    → AllByRecursion (λ k. is_good_sync k.change ≡ false) (drop count kept) → SplitsAtSync kept count
SplitsAtSync-after kept count k some within at good since =
    record { within = within; settled = settled; since = since }
  where
    earlier : List KeptChange
    earlier = take (count - 1) kept

    front : take count kept ≡ earlier ++ k ∷ []
    front =
        ap (λ (n : ℕ). take n kept) (omega arith)
        ∙ take_more kept (count - 1) k (omega arith)
        ∙ ap (λ (e : KeptChange). earlier ++ e ∷ []) (sym at)

    settled : (first : List ℕ) → IsSettled (after_all (start first) (changes_of (take count kept)))
    settled first =
        let s = after_all (start first) (changes_of earlier) in
        let last =
        ap (after_all (start first)) (ap changes_of front ∙ changes_of-append earlier (k ∷ []))
        ∙ after_all-push (start first) (changes_of earlier) k.change in
        subst IsSettled (sym last) (IsSettled-good_sync k.change s good)

-- What has returned and what has begun by a moment.

-- the changes that had returned by a moment
abbrev returned_by : ℕ → List KeptChange → List KeptChange
returned_by m [] = []
returned_by zero (k ∷ kept) = []
returned_by (suc zero) (k ∷ kept) = []
returned_by (suc (suc m)) (k ∷ kept) = k ∷ returned_by m kept

-- the changes that had begun by a moment
abbrev begun_by : ℕ → List KeptChange → List KeptChange
begun_by m [] = []
begun_by zero (k ∷ kept) = []
begun_by (suc zero) (k ∷ kept) = k ∷ []
begun_by (suc (suc m)) (k ∷ kept) = k ∷ begun_by m kept

take-suc : (count fewer : ℕ) (k : KeptChange) (kept : List KeptChange) → count ≡ suc fewer
    → take count (k ∷ kept) ≡ k ∷ take fewer kept
take-suc count fewer k kept e = ap (λ (n : ℕ). take n (k ∷ kept)) e

returned_by-take : (m : ℕ) (kept : List KeptChange) → take (m / 2) kept ≡ returned_by m kept
returned_by-take m [] = take-nil (m / 2)
returned_by-take zero (k ∷ kept) = refl
returned_by-take (suc zero) (k ∷ kept) = refl
returned_by-take (suc (suc m)) (k ∷ kept) =
    take-suc (suc (suc m) / 2) (m / 2) k kept (omega arith)
    ∙ ap (λ (l : List KeptChange). k ∷ l) (returned_by-take m kept)

begun_by-take : (m : ℕ) (kept : List KeptChange) → take (m / 2 + m % 2) kept ≡ begun_by m kept
begun_by-take m [] = take-nil (m / 2 + m % 2)
begun_by-take zero (k ∷ kept) = refl
begun_by-take (suc zero) (k ∷ kept) = refl
begun_by-take (suc (suc m)) (k ∷ kept) =
    take-suc (suc (suc m) / 2 + suc (suc m) % 2) (m / 2 + m % 2) k kept (omega arith)
    ∙ ap (λ (l : List KeptChange). k ∷ l) (begun_by-take m kept)

-- What tearing gives.

-- the image of a state, with the writes since its last good sync torn
abbrev pub torn_in : Torn → State → List ℕ
torn_in torn s = tear_all torn s.written s.synced

torn_in-during : (torn : Torn) (s : State) (change : Change)
    → torn_in torn (during s change) ≡ tear_change torn change (torn_in torn s)
torn_in-during torn s (Write place from outcome) = refl
torn_in-during torn s (Sync outcome) = refl

torn_in-after : (torn : Torn) (s : State) (change : Change) → is_good_sync change ≡ false
    → torn_in torn (after s change) ≡ tear_change torn change (torn_in torn s)
torn_in-after torn s (Write place from outcome) good = refl
torn_in-after torn s (Sync Done) good = absurd cc
torn_in-after torn s (Sync Failed) good = refl

-- where no good sync has returned since a state, its image at a moment is the state's, with what has begun since torn
torn_in-state_at : (torn : Torn) (s : State) (kept : List KeptChange) (m : ℕ)
    → AllByRecursion (λ k. is_good_sync k.change ≡ false) (returned_by m kept)
    → torn_in torn (state_at s (changes_of kept) m) ≡ tear_changes torn (changes_of (begun_by m kept)) (torn_in torn s)
torn_in-state_at torn s [] m since = refl
torn_in-state_at torn s (k ∷ kept) zero since = refl
torn_in-state_at torn s (k ∷ kept) (suc zero) since = torn_in-during torn s k.change
torn_in-state_at torn s (k ∷ kept) (suc (suc m)) since =
    torn_in-state_at torn (after s k.change) kept m since.1
    ∙ ap (tear_changes torn (changes_of (begun_by m kept))) (torn_in-after torn s k.change since.0)

after_all-append : (s : State) (xs ys : List Change) → after_all s (xs ++ ys) ≡ after_all (after_all s xs) ys
after_all-append s [] ys = refl
after_all-append s (x ∷ xs) ys = after_all-append (after s x) xs ys

state_at-append : (s : State) (xs ys : List Change) (m n : ℕ) → m ≡ 2 * length xs + n
    → state_at s (xs ++ ys) m ≡ state_at (after_all s xs) ys n
state_at-append s [] ys m n e = ap (state_at s ys) (e ∙ omega arith)
state_at-append s (x ∷ xs) ys zero n e = absurd (omega arith)
state_at-append s (x ∷ xs) ys (suc zero) n e = absurd (omega arith)
state_at-append s (x ∷ xs) ys (suc (suc m)) n e = state_at-append (after s x) xs ys m n (omega arith)

-- The image of a moment, made of the bytes now and a count of changes up to the last good sync that had returned.
module _ (torn : Torn) (kept : List KeptChange) (now : List ℕ) (m count : ℕ)
    (leads : LeadsBytes (undone_all kept now) kept now) (split : SplitsAtSync (take (m / 2) kept) count) where
  abbrev front : List KeptChange
  front = take count kept

  abbrev back : List KeptChange
  back = drop count kept

  -- the moments since the last good sync
  abbrev later : ℕ
  later = m - 2 * count

  abbrev first : List ℕ
  first = undone_all kept now

  -- the state at the last good sync
  abbrev s : State
  s = after_all (start first) (changes_of front)

  in_time : count ≤ m / 2
  in_time = omega (arith, split.within, length-take (m / 2) kept)

  there : count ≤ length kept
  there = omega (arith, split.within, length-take (m / 2) kept)

  changes_split : changes_of kept ≡ changes_of front ++ changes_of back
  changes_split = ap changes_of (sym (take-append-drop count kept)) ∙ changes_of-append front back

  state_split : state_at (start first) (changes_of kept) m ≡ state_at s (changes_of back) later
  state_split =
      ap (λ (l : List Change). state_at (start first) l m) changes_split
      ∙ state_at-append (start first) (changes_of front) (changes_of back) m later
      (omega (arith, in_time, length-map front (λ (k : KeptChange). k.change), length-take-le count kept there))

  settled : IsSettled s
  settled =
      subst (λ (l : List KeptChange). IsSettled (after_all (start first) (changes_of l)))
      (take-take count (m / 2) kept in_time) (split.settled first)

  -- nothing was written since: there is nothing to tear
  torn_in-settled : torn_in torn s ≡ s.read
  torn_in-settled = ap (λ (l : List Written). tear_all torn l s.synced) settled.written ∙ sym settled.read

  -- the changes up to some count, but for those up to the last good sync
  back-take : (i j : ℕ) → i ≡ count + j → drop count (take i kept) ≡ take j back
  back-take i j e = ap (λ (n : ℕ). drop count (take n kept)) e ∙ drop-take count j kept

  since : AllByRecursion (λ k. is_good_sync k.change ≡ false) (returned_by later back)
  since =
      subst (AllByRecursion (λ k. is_good_sync k.change ≡ false))
      (back-take (m / 2) (later / 2) (omega (arith, in_time)) ∙ returned_by-take later back) split.since

  began : drop count (take (m / 2 + m % 2) kept) ≡ begun_by later back
  began =
      back-take (m / 2 + m % 2) (later / 2 + later % 2) (omega (arith, in_time)) ∙ begun_by-take later back

  undone-back : undone_all back now ≡ s.read
  undone-back =
      ap (undone_all back)
      (sym leads.forth
      ∙ ap (λ (l : List Change). (after_all (start first) l).read) changes_split
      ∙ ap (λ (t : State). t.read) (after_all-append (start first) (changes_of front) (changes_of back)))
      ∙ undone_all-after_all s back
      (AllReplace-back (start first) front back
      (subst (AllReplace (start first)) (sym (take-append-drop count kept)) leads.each))

  image_of-made : tear_changes torn (changes_of (drop count (take (m / 2 + m % 2) kept))) (undone_all back now)
      ≡ image_of torn (history_of kept now) m
  image_of-made =
      ap (λ (l : List KeptChange). tear_changes torn (changes_of l) (undone_all back now)) began
      ∙ ap (tear_changes torn (changes_of (begun_by later back))) (undone-back ∙ sym torn_in-settled)
      ∙ sym (torn_in-state_at torn s back later since)
      ∙ ap (torn_in torn) (sym state_split)

  -- the same, with the changes from a count on as slices have them
  pub image_of-crash : (begun : List KeptChange) (undone' torn' : List ℕ) → begun ≡ take (m / 2 + m % 2) kept
      → undone' ≡ undone_all (take (length kept - count) (drop count kept)) now
      → torn' ≡ tear_changes torn (changes_of (take (length begun - count) (drop count begun))) undone'
      → torn' ≡ image_of torn (history_of kept now) m
  image_of-crash begun undone' torn' are undoes tears =
      tears
      ∙ ap (λ (l : List KeptChange). tear_changes torn (changes_of l) undone')
      (take_rest begun count ∙ ap (drop count) are)
      ∙ ap (tear_changes torn (changes_of (drop count (take (m / 2 + m % 2) kept))))
      (undoes ∙ ap (λ (l : List KeptChange). undone_all l now) (take_rest kept count))
      ∙ image_of-made
