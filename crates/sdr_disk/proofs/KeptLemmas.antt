-- How kept changes lead from the first bytes to those now, and back.
use Rattle.std.proofs.Common.{◌≡◌, ℕ, ◌+◌, ◌≤◌, List, [], ◌∷◌, ◌++◌, length, refl, sym, ◌∙◌, ap, subst}
use Rattle.std.proofs.Common.{length-append}
use Rattle.std.proofs.lemmas.List.{map-append}
use Rattle.sdr_disk.specs.History.{State, after, after_all, start, with_change, written_over}
use Rattle.sdr_disk.specs.Kept.{AllReplace, LeadsBytes, Replaces, changes_of, history_of, undone, undone_all}
use Rattle.sdr_base.specs.Parts.{overwrite, part}
use Rattle.sdr_disk.specs.declared.change.Change.{Change}
use Rattle.sdr_disk.specs.declared.change.Change.TheVariants.{Write, Sync}
use Rattle.sdr_disk.specs.declared.change.KeptChange.{KeptChange}
use Rattle.sdr_disk.specs.declared.change.Outcome.{Outcome}
use Rattle.sdr_disk.specs.declared.change.Outcome.TheVariants.{Done, Failed}
use Rattle.sdr_disk.proofs.HistoryLemmas.{Agrees-written_over, after_all-push, read-sync}
use Rattle.sdr_base.proofs.PartsLemmas.{overwrite-part}
use Rattle.sdr_disk.proofs.RangesLemmas.{overwrite-overwrite}

-- Undoing.

-- putting back what stood there undoes a write, whether it was done or not
undone-written_over : (outcome : Outcome) (place : ℕ) (from now : List ℕ) → place + length from ≤ length now
    → overwrite place (part place (length from) now) (written_over outcome place from now) ≡ now
undone-written_over Done place from now inside = overwrite-overwrite place from now inside
undone-written_over Failed place from now inside = overwrite-part place (length from) now inside

undone-after : (change : Change) (before : List ℕ) (s : State) → Replaces change before s.read
    → undone change before (after s change).read ≡ s.read
undone-after (Write place from outcome) before s replaces =
    ap (λ (l : List ℕ). overwrite place l (written_over outcome place from s.read)) replaces.1
    ∙ undone-written_over outcome place from s.read replaces.0
undone-after (Sync outcome) before s replaces = read-sync outcome s

-- what these changes made of a state is undone again
pub undone_all-after_all : (s : State) (kept : List KeptChange) → AllReplace s kept
    → undone_all kept (after_all s (changes_of kept)).read ≡ s.read
undone_all-after_all s [] each = refl
undone_all-after_all s (k ∷ kept) each =
    ap (undone k.change k.before) (undone_all-after_all (after s k.change) kept each.1)
    ∙ undone-after k.change k.before s each.0

pub undone_all-push : (kept : List KeptChange) (k : KeptChange) (now : List ℕ)
    → undone_all (kept ++ k ∷ []) now ≡ undone_all kept (undone k.change k.before now)
undone_all-push [] k now = refl
undone_all-push (e ∷ kept) k now = ap (undone e.change e.before) (undone_all-push kept k now)

-- The disk keeps its length.

pub length-after : (change : Change) (before : List ℕ) (s : State) → Replaces change before s.read
    → length (after s change).read ≡ length s.read
length-after (Write place from outcome) before s replaces =
    (Agrees-written_over outcome place from s.read [] replaces.0).long
length-after (Sync outcome) before s replaces = ap length (read-sync outcome s)

pub length-after_all : (s : State) (kept : List KeptChange) → AllReplace s kept
    → length (after_all s (changes_of kept)).read ≡ length s.read
length-after_all s [] each = refl
length-after_all s (k ∷ kept) each =
    length-after_all (after s k.change) kept each.1 ∙ length-after k.change k.before s each.0

-- Changes one after another.

pub changes_of-append : (front back : List KeptChange) → changes_of (front ++ back) ≡ changes_of front
    ++ changes_of back
changes_of-append front back = map-append (λ (k : KeptChange). k.change) front back

AllReplace-push : (s : State) (kept : List KeptChange) (k : KeptChange) → AllReplace s kept
    → Replaces k.change k.before (after_all s (changes_of kept)).read → AllReplace s (kept ++ k ∷ [])
AllReplace-push s [] k each last = (last, tt)
AllReplace-push s (e ∷ kept) k each last = (each.0, AllReplace-push (after s e.change) kept k each.1 last)

pub AllReplace-back : (s : State) (front back : List KeptChange) → AllReplace s (front ++ back)
    → AllReplace (after_all s (changes_of front)) back
AllReplace-back s [] back each = each
AllReplace-back s (k ∷ front) back each = AllReplace-back (after s k.change) front back each.1

-- what is kept and the bytes, now and then, are those of a history with a change more
pub record Grows (change : Change) (kept kept' : List KeptChange) (now now' : List ℕ) : Type 0 where
  pub history : history_of kept' now' ≡ with_change change (history_of kept now)
  pub leads : LeadsBytes (undone_all kept' now') kept' now'
  pub more : length kept' ≡ length kept + 1

-- where a change makes other bytes of those now, and undoing it these again
Grows-push : (k : KeptChange) (kept : List KeptChange) (now now' : List ℕ) → LeadsBytes (undone_all kept now) kept now
    → Replaces k.change k.before now → ((s : State) → s.read ≡ now → (after s k.change).read ≡ now')
    → undone k.change k.before now' ≡ now → Grows k.change kept (kept ++ k ∷ []) now now'
Grows-push k kept now now' leads replaces reads undoes = record {
  history =
      ap (λ (b : List ℕ). record { first = b; changes = changes_of (kept ++ k ∷ []) }) same
      ∙ ap (λ (l : List Change). record { first = first; changes = l }) (changes_of-append kept (k ∷ []));
  leads = subst (λ (b : List ℕ). LeadsBytes b (kept ++ k ∷ []) now') (sym same) (record {
    forth =
        ap (λ (l : List Change). (after_all (start first) l).read) (changes_of-append kept (k ∷ []))
        ∙ ap (λ (s : State). s.read) (after_all-push (start first) (changes_of kept) k.change)
        ∙ reads (after_all (start first) (changes_of kept)) leads.forth;
    back = same;
    each =
        AllReplace-push (start first) kept k leads.each
        (subst (Replaces k.change k.before) (sym leads.forth) replaces);
  });
  more = length-append kept (k ∷ []);
}
  where
    first : List ℕ
    first = undone_all kept now

    same : undone_all (kept ++ k ∷ []) now' ≡ first
    same = undone_all-push kept k now' ∙ ap (undone_all kept) undoes

Grows-moved : (change : Change) (kept kept' kept'' : List KeptChange) (now now' now'' : List ℕ)
    → kept'' ≡ kept' → now'' ≡ now' → Grows change kept kept' now now' → Grows change kept kept'' now now''
Grows-moved change kept kept' kept'' now now' now'' e f grows =
    subst (λ (b : List ℕ). Grows change kept kept'' now b) (sym f)
    (subst (λ (l : List KeptChange). Grows change kept l now now') (sym e) grows)

-- one write more, by the equations that its steps give
pub Grows-write : (outcome : Outcome) (place : ℕ) (from from' before : List ℕ)
    (kept kept' : List KeptChange) (now now' : List ℕ)
    → LeadsBytes (undone_all kept now) kept now → place + length from ≤ length now
    → from' ≡ from → before ≡ part place (length from) now
    → kept' ≡ kept ++ record { change = Write place from' outcome; before = before } ∷ []
    → now' ≡ written_over outcome place from now → Grows (Write place from outcome) kept kept' now now'
Grows-write outcome place from from' before kept kept' now now' leads inside same old is reads =
    let old' = part place (length from) now in
    let undoes = undone-written_over outcome place from now inside in
    Grows-moved _ kept _ kept' now _ now'
    (is
    ∙ ap (λ (l : List ℕ). kept ++ record { change = Write place l outcome; before = before } ∷ []) same
    ∙ ap (λ (l : List ℕ). kept ++ record { change = Write place from outcome; before = l } ∷ []) old)
    reads
    (Grows-push (record { change = Write place from outcome; before = old' }) kept now _ leads (inside, refl)
    (λ s e. ap (written_over outcome place from) e) undoes)

-- one sync more
pub Grows-sync : (outcome : Outcome) (before : List ℕ) (kept kept' : List KeptChange) (now : List ℕ)
    → LeadsBytes (undone_all kept now) kept now
    → kept' ≡ kept ++ record { change = Sync outcome; before = before } ∷ [] → Grows (Sync outcome) kept kept' now now
Grows-sync outcome before kept kept' now leads is =
    Grows-moved _ kept _ kept' now now now is refl
    (Grows-push (record { change = Sync outcome; before = before }) kept now now leads tt
    (λ s e. read-sync outcome s ∙ e) refl)
