-- How many numbers a daemon may have drawn, as it goes on.
use Rattle.std.proofs.Common.{◌≡◌, ◌∙◌, ◌≤◌, ◌==◌, ◌+◌, ◌&&◌, ◌||◌, ℕ, List, [], ◌∷◌, ◌++◌, Bool, true, false, Option, None, Some, inl, inr, arith, refl, sym, ap, cond, length, append-nil}
use Rattle.std.proofs.lemmas.List.Folds.{list_any-append}
use Rattle.std.proofs.lemmas.List.Sorted.{IsPermutation-reverse, list_any-IsPermutation}
use Rattle.std.specs.List.{filter, find, list_any}
use Rattle.std.specs.Prelude.{is_some, reverse}
use Rattle.law_runs.proofs.CoreLemmas.{or_true}
use Rattle.law_runs.specs.LastEntries.{AgreesWithLast, waits_by}
use Rattle.sdr_machine.specs.Legal.{last_entry}
use Rattle.sdr_machine.specs.declared.daemon.Daemon.{Daemon}
use Rattle.sdr_model.specs.declared.journal.Entry.{Entry}
use Rattle.sdr_model.specs.declared.script.ScriptStep.{ScriptStep}
use Rattle.sdr_daemon.specs.Progressing.{steps_ahead}
use Rattle.sdr_daemon.specs.Scripts.{MayHaveDrawn, is_wait}
use Rattle.sdr_daemon.specs.Turns.{entries_by}

-- by more entries, and at most as many numbers as lines were done
pub drawn_more : (drawn drawn' : ℕ) (entries more entries' : List Entry) (steps rest rest' : List ScriptStep) → MayHaveDrawn drawn entries steps rest → entries' ≡ entries ++ more
    → drawn' + length rest' ≤ drawn + length rest → MayHaveDrawn drawn' entries' steps rest'
drawn_more drawn drawn' entries more entries' steps rest rest' (inl waited) grown fewer =
    inl (ap (list_any is_wait) grown ∙ list_any-append is_wait entries more ∙ ap (λ c. c || list_any is_wait more) waited)
drawn_more drawn drawn' entries more entries' steps rest rest' (inr used) grown fewer = inr (omega (arith, used, fewer))

-- by at most as many numbers as lines were done
pub drawn_on : (drawn drawn' : ℕ) (entries : List Entry) (steps rest rest' : List ScriptStep) → MayHaveDrawn drawn entries steps rest → drawn' + length rest' ≤ drawn + length rest
    → MayHaveDrawn drawn' entries steps rest'
drawn_on drawn drawn' entries steps rest rest' may fewer = drawn_more drawn drawn' entries [] entries steps rest rest' may (sym (append-nil entries)) fewer

-- a line that is done is ahead no more, so one number may be drawn by it
pub fewer_lines : (script : List ScriptStep) (id from to : ℕ) (step : ScriptStep) (after : ℕ) → steps_ahead script id from ≡ step ∷ steps_ahead script id after → to ≡ after → (drawn drawn' : ℕ) → drawn' ≤ drawn + 1
    → drawn' + length (steps_ahead script id to) ≤ drawn + length (steps_ahead script id from)
fewer_lines script id from to step after is place drawn drawn' one =
    let line = ap length is in
    let end = ap (λ p. length (steps_ahead script id p)) place in
    omega (arith, line, end, one)

-- where the last entry is a wait, one is
pub wait_added : (entries : List Entry) (e : Entry) → is_wait e ≡ true → list_any is_wait (entries ++ e ∷ []) ≡ true
wait_added entries e wait =
    list_any-append is_wait entries (e ∷ []) ∙ ap (λ c. list_any is_wait entries || (c || false)) wait ∙ or_true (list_any is_wait entries)

-- what is found first passes both tests
found_passes : (p q : Entry → Bool) (entries : List Entry) (e : Entry) → find p entries ≡ Some e → q e ≡ true → list_any (λ x. p x && q x) entries ≡ true
found_passes p q [] e found passes = absurd cc
found_passes p q (x ∷ entries) e found passes = by (p x) found (λ later. found_passes p q entries e later passes)
  where
    by : (b : Bool) → cond b (Some x) (find p entries) ≡ Some e → (find p entries ≡ Some e → list_any (λ z. p z && q z) entries ≡ true)
        → ((b && q x) || list_any (λ z. p z && q z) entries) ≡ true
    by true here rest = let same : x ≡ e = cc in ap (λ z. q z || list_any (λ z. p z && q z) entries) same ∙ ap (λ c. c || list_any (λ z. p z && q z) entries) passes
    by false later rest = rest later

-- one passes both tests where one of those that are picked by the first passes the second
picked_passes : (p q : Entry → Bool) (entries : List Entry) → list_any q (filter p entries) ≡ list_any (λ x. p x && q x) entries
picked_passes p q [] = refl
picked_passes p q (x ∷ entries) = by (p x) (picked_passes p q entries)
  where
    by : (b : Bool) → list_any q (filter p entries) ≡ list_any (λ z. p z && q z) entries
        → list_any q (cond b (x ∷ filter p entries) (filter p entries)) ≡ ((b && q x) || list_any (λ z. p z && q z) entries)
    by true rest = ap (λ c. q x || c) rest
    by false rest = rest

-- a daemon that waits by the roll has an entry that waits
pub waited_before : (journal : List Entry) (id : ℕ) (d : Daemon) (ticket : ℕ) → AgreesWithLast (last_entry journal id) d → d.waits ≡ Some ticket → list_any is_wait (entries_by id journal) ≡ true
waited_before journal id d ticket agrees waits = by (last_entry journal id) refl (sym agrees.waits ∙ waits)
  where
    mine : Entry → Bool
    mine x = x.daemon == id

    by : (last : Option Entry) → last_entry journal id ≡ last → waits_by last ≡ Some ticket → list_any is_wait (entries_by id journal) ≡ true
    by None is waited = absurd cc
    by (Some e) is waited =
        picked_passes mine is_wait journal ∙ list_any-IsPermutation (λ (x : Entry). mine x && is_wait x) journal (reverse journal) (IsPermutation-reverse journal)
        ∙ found_passes mine is_wait (reverse journal) e is (ap is_some waited)
