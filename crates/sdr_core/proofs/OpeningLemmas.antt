-- What an image opens to, where a journal has one entry more.
use Rattle.std.proofs.Common.{◌≡◌, ◌∙◌, ℕ, zero, suc, ◌+◌, ◌<◌, ◌≤◌, ◌⊎◌, inl, inr, Bool, true, false, List, [], ◌∷◌, ◌++◌, length, take, Option, Some, refl, sym, ap, subst, arith, length-append}
use Rattle.std.proofs.lemmas.List.{take-append-le}
use Rattle.std.proofs.lemmas.Option.{slice_get_within}
use Rattle.std.specs.Prelude.{slice_get}
use Rattle.sdr_base.specs.Media.{Told}
use Rattle.sdr_disk.specs.Moments.{AtEach}
use Rattle.sdr_model.specs.declared.journal.Entry.{Entry}
use Rattle.sdr_model.specs.declared.journal.What.{What}
use Rattle.sdr_machine.specs.Crash.{AfterSome, IsCrashSafe, KeptInVain, LeavesBefore, LeavesOr, OpensAfter, as_ended, begun_below, done_by, is_sound, is_whole}
use Rattle.sdr_machine.specs.Ground.{State, committed}
use Rattle.sdr_machine.specs.Legal.{IsAfter, Lead, MayFollow}
use Rattle.sdr_machine.specs.Standing.{GroundState}
use Rattle.sdr_machine.specs.declared.has_ground.HasGround.{Ghosts}
use Rattle.law_runs.proofs.JournalLemmas.{lead_more, take_all}
use Rattle.sdr_core.proofs.CrashLemmas.{begun-more, crash_ended, crash_faulted, done_by-unsound}

-- The entry, in which the disk failed as its transaction ended, might stand behind the journal if the end had been answered, and
-- would leave this state.
pub record WouldStand (told : Option Told) (daemons : List ℕ) (journal : List Entry) (before : State) (e : Entry) (left : State) : Type 0 where
  pub what : What
  pub ended : as_ended e.what ≡ Some what
  pub stands : MayFollow told daemons journal before e.number e.daemon what left

-- the states after the first entries stay where one is added
after_more : (told : Option Told) (daemons : List ℕ) (first : State) (journal : List Entry) (e : Entry) (k : ℕ) (s : State) → k ≤ length journal
    → IsAfter told daemons first journal k s → IsAfter told daemons first (journal ++ e ∷ []) k s
after_more told daemons first journal e k s le after = subst (λ entries. Lead told daemons [] first entries s) (sym (take-append-le k journal (e ∷ []) le)) after

-- the state after all entries is the one that the last leaves
after_last : (told : Option Told) (daemons : List ℕ) (first : State) (journal : List Entry) (e : Entry) (s s' : State) → IsAfter told daemons first journal (length journal) s
    → MayFollow told daemons journal s e.number e.daemon e.what s' → IsAfter told daemons first (journal ++ e ∷ []) (length journal + 1) s'
after_last told daemons first journal e s s' after stands =
    let all : length (journal ++ e ∷ []) ≡ length journal + 1 = length-append journal (e ∷ []) in
    subst (λ entries. Lead told daemons [] first entries s') (sym (ap (λ n. take n (journal ++ e ∷ [])) (sym all) ∙ take_all (journal ++ e ∷ [])))
    (lead_more told daemons [] first journal s e s' (subst (λ entries. Lead told daemons [] first entries s) (take_all journal) after) stands)

-- an entry stays at its place where one is added
get_more : (journal : List Entry) (e x : Entry) (i : ℕ) → slice_get journal i ≡ Some x → slice_get (journal ++ e ∷ []) i ≡ Some x
get_more [] e x i at = absurd cc
get_more (d ∷ journal) e x zero at = at
get_more (d ∷ journal) e x (suc i) at = get_more journal e x i at

-- the one that is added stands last
get_last : (journal : List Entry) (e : Entry) → slice_get (journal ++ e ∷ []) (length journal) ≡ Some e
get_last [] e = refl
get_last (d ∷ journal) e = get_last journal e

in_vain_more : (told : Option Told) (daemons : List ℕ) (first : State) (journal : List Entry) (e : Entry) (k : ℕ) (s : State) → KeptInVain told daemons first journal k s
    → KeptInVain told daemons first (journal ++ e ∷ []) k s
in_vain_more told daemons first journal e k s vain =
    let within = slice_get_within journal vain.before vain.entry vain.at in
    let le : vain.before ≤ length journal = omega arith in
    record {
      before = vain.before;
      next = vain.next;
      entry = vain.entry;
      at = get_more journal e vain.entry vain.before vain.at;
      left = vain.left;
      after = after_more told daemons first journal e vain.before vain.left le vain.after;
      what = vain.what;
      ended = vain.ended;
      kept = subst (λ entries. MayFollow told daemons entries vain.left vain.entry.number vain.entry.daemon vain.what s) (sym (take-append-le vain.before journal (e ∷ []) le)) vain.kept;
    }

module _ {T : Type 0} (g : Ghosts T) (told : Option Told) (daemons : List ℕ) (first : State) (start : ℕ) (journal : List Entry) (old new : T) where
  -- what an image opens to after the first entries of a journal
  abbrev Opens : List Entry → ℕ → List ℕ → Type 0
  Opens entries = OpensAfter g.opens told daemons first entries

  abbrev Safe : List Entry → T → Type 0
  Safe entries t = IsCrashSafe g.moment g.left (Opens entries) start entries t

  opens_more : (e : Entry) (k : ℕ) (image : List ℕ) → k ≤ length journal → Opens journal k image → Opens (journal ++ e ∷ []) k image
  opens_more e k image le opens = record { state = opens.state; opened = opens.opened; tells = by opens.tells }
    where
      by : IsAfter told daemons first journal k opens.state ⊎ KeptInVain told daemons first journal k opens.state
          → IsAfter told daemons first (journal ++ e ∷ []) k opens.state ⊎ KeptInVain told daemons first (journal ++ e ∷ []) k opens.state
      by (inl after) = inl (after_more told daemons first journal e k opens.state le after)
      by (inr vain) = inr (in_vain_more told daemons first journal e k opens.state vain)

  module _ (v : GroundState) (safe : Safe journal old) (all : (m : ℕ) → g.moment old ≤ m → done_by m journal ≡ length journal)
      (here : IsAfter told daemons first journal (length journal) v.before) (stands : g.stands old v) where
    opens_here : (image : List ℕ) → g.opens image v.before → Opens journal (length journal) image
    opens_here image opened = record { state = v.before; opened = opened; tells = inl here }

    -- no entry is added, and none is kept
    pub still_safe : LeavesBefore g old new → Safe journal new
    still_safe leaves m image ge le left = by (split m (g.moment old))
      where
        at : AtEach g.moment g.left old new (λ image. g.opens image v.before)
        at = leaves.each v stands

        split : (m n : ℕ) → (m ≤ n) ⊎ (n < m)
        split m n = grind arith

        by : (m ≤ g.moment old) ⊎ (g.moment old < m) → AfterSome (Opens journal) m journal image
        by (inl before) = safe m image ge before (at.past m image before left)
        by (inr later) =
            let le' : g.moment old ≤ m = omega arith in
            inl (subst (λ k. Opens journal k image) (sym (all m le')) (opens_here image (at.each m image le' le left)))

    module _ (keeps : Bool) (leaves : LeavesOr keeps g old new) (e : Entry) (begun : e.begun ≡ g.moment old) where
      -- what an image opens to while the entry is made, where it opens so if it is kept
      each_of : (keeps ≡ true → (image : List ℕ) → g.opens image (committed v.now) → Opens (journal ++ e ∷ []) (length journal + 1) image)
          → AtEach g.moment g.left old new (λ image. Opens journal (length journal) image ⊎ Opens (journal ++ e ∷ []) (length journal + 1) image)
      each_of if_kept = by keeps refl leaves
        where
          by : (b : Bool) → keeps ≡ b → LeavesOr b g old new
              → AtEach g.moment g.left old new (λ image. Opens journal (length journal) image ⊎ Opens (journal ++ e ∷ []) (length journal + 1) image)
          by false is before =
              let at = before.each v stands in
              record { later = at.later; each = λ m image ge le left. inl (opens_here image (at.each m image ge le left)); past = at.past }
          by true is either =
              let at = either.each v stands in
              record { later = at.later; each = λ m image ge le left. or image (if_kept is image) (at.each m image ge le left); past = at.past }
            where
              or : (image : List ℕ) → (g.opens image (committed v.now) → Opens (journal ++ e ∷ []) (length journal + 1) image) → g.opens image v.before ⊎ g.opens image (committed v.now)
                  → Opens journal (length journal) image ⊎ Opens (journal ++ e ∷ []) (length journal + 1) image
              or image so (inl opened) = inl (opens_here image opened)
              or image so (inr opened) = inr (so opened)

      -- an entry is added in which the disk didn't fail
      pub whole_safe : (v' : GroundState) → is_whole e ≡ true → e.done ≡ g.moment new → g.stands new v' → MayFollow told daemons journal v.before e.number e.daemon e.what v'.before
          → (keeps ≡ true → v'.before ≡ committed v.now) → ((t : T) (w : GroundState) (image : List ℕ) → g.stands t w → g.left t (g.moment t) image → g.opens image w.before)
          → Safe (journal ++ e ∷ []) new
      whole_safe v' whole done there entry is_kept crash_now =
          let last : (image : List ℕ) → g.opens image v'.before → Opens (journal ++ e ∷ []) (length journal + 1) image =
          λ image opened. record { state = v'.before; opened = opened; tells = inl (after_last told daemons first journal e v.before v'.before here entry) } in
          crash_ended g.moment g.left (Opens journal) (Opens (journal ++ e ∷ [])) start journal e old new (opens_more e) safe all begun
          (each_of (λ keeping image opened. last image (subst (g.opens image) (sym (is_kept keeping)) opened))) whole done
          (λ image left. last image (crash_now new v' image there left))

      -- an entry is added in which the disk failed
      pub faulted_safe : is_whole e ≡ false
          → (keeps ≡ true → WouldStand told daemons journal v.before e (committed v.now))
          → Safe (journal ++ e ∷ []) new
      faulted_safe broken in_vain =
          crash_faulted g.moment g.left (Opens journal) (Opens (journal ++ e ∷ [])) start journal e old new (opens_more e) safe all begun
          (each_of (λ keeping image opened. let would = in_vain keeping in record {
            state = committed v.now;
            opened = opened;
            tells = inr (record {
              before = length journal;
              next = refl;
              entry = e;
              at = get_last journal e;
              left = v.before;
              after = after_more told daemons first journal e (length journal) v.before (omega arith) here;
              what = would.what;
              ended = would.ended;
              kept =
                  subst (λ entries. MayFollow told daemons entries v.before e.number e.daemon would.what
                  (committed v.now))
                  (sym (take-append-le (length journal) journal (e ∷ []) (omega arith) ∙ take_all journal)) would.stands;
            });
          })) broken

  -- behind an entry in which the disk failed one is added, and the ground isn't asked
  pub failed_safe : (e : Entry) → is_sound journal ≡ false → Safe journal old → new ≡ old → Safe (journal ++ e ∷ []) new
  failed_safe e unsound safe same = subst (Safe (journal ++ e ∷ [])) (sym same) (λ m image ge le left. by m image (safe m image ge le left))
    where
      by : (m : ℕ) (image : List ℕ) → AfterSome (Opens journal) m journal image → AfterSome (Opens (journal ++ e ∷ [])) m (journal ++ e ∷ []) image
      by m image some =
          let k = done_by m journal in
          let stuck = done_by-unsound m journal e unsound in
          let at : AfterSome (Opens journal) m journal image → Opens (journal ++ e ∷ []) k image ⊎ ((begun_below m k (journal ++ e ∷ []) ≡ true) × Opens (journal ++ e ∷ []) (k + 1) image) =
          λ some. either m image k stuck.1 some in
          subst (λ n. Opens (journal ++ e ∷ []) n image ⊎ ((begun_below m n (journal ++ e ∷ []) ≡ true) × Opens (journal ++ e ∷ []) (n + 1) image)) (sym stuck.0) (at some)
        where
          either : (m : ℕ) (image : List ℕ) (k : ℕ) → k < length journal → Opens journal k image ⊎ ((begun_below m k journal ≡ true) × Opens journal (k + 1) image)
              → Opens (journal ++ e ∷ []) k image ⊎ ((begun_below m k (journal ++ e ∷ []) ≡ true) × Opens (journal ++ e ∷ []) (k + 1) image)
          either m image k lt (inl opens) = inl (opens_more e k image (omega arith) opens)
          either m image k lt (inr begins) = inr (begun-more m k journal e lt ∙ begins.0, opens_more e (k + 1) image (omega arith) begins.1)
