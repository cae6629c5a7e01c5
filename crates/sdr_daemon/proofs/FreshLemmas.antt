-- Before any turn each daemon is at its first line.
use Rattle.std.proofs.Common.{◌≡◌, ◌∙◌, ◌<◌, ◌+◌, ◌≤◌, ◌==◌, ℕ, zero, suc, List, [], ◌∷◌, Bool, true, false, Some, arith, inr, refl, sym, ap, subst, cond, length, map}
use Rattle.std.proofs.lemmas.Bool.Decides.{nat_tests}
use Rattle.std.proofs.lemmas.List.{length-map}
use Rattle.std.proofs.lemmas.List.FromFn.{length-range_with_len}
use Rattle.std.proofs.lemmas.List.Sums.{count_by-le-length, length-filter}
use Rattle.std.specs.List.{AllByRecursion, IsDistinct, filter, list_any, range_with_len}
use Rattle.std.specs.Prelude.{All, nat_eq, slice_index_or}
use Rattle.sdr_machine.proofs.RollLemmas.{among, number_same, same_number}
use Rattle.sdr_core.specs.CoreKept.{LoggedLock, RunStart}
use Rattle.sdr_machine.specs.Holders.{hold_none}
use Rattle.sdr_machine.specs.Roll.{Roll, first_roll, newcomer}
use Rattle.sdr_machine.specs.declared.daemon.Daemon.{Daemon}
use Rattle.sdr_machine.specs.declared.has_ground.HasGround.{Ghosts}
use Rattle.sdr_model.specs.declared.journal.Entry.{Entry}
use Rattle.sdr_model.specs.declared.script.ScriptStep.{ScriptStep}
use Rattle.sdr_words.specs.Daemons.{all_daemons, daemons_of}
use Rattle.sdr_daemon.specs.Progressing.{IsFresh, IsScriptedRun, ProgressHolds, first_progress}
use Rattle.sdr_daemon.specs.Turns.{at_start}
use Rattle.sdr_daemon.specs.declared.script_place.ScriptPlace.{ScriptPlace}

-- what holds of each of some numbers holds of each of those that are picked
each_picked : (P : ℕ → Type 0) (p : ℕ → Bool) (numbers : List ℕ) → AllByRecursion P numbers → AllByRecursion P (filter p numbers)
each_picked P p [] each = tt
each_picked P p (n ∷ numbers) each = by (p n) (each_picked P p numbers each.1)
  where
    by : (b : Bool) → AllByRecursion P (filter p numbers) → AllByRecursion P (cond b (n ∷ filter p numbers) (filter p numbers))
    by true rest = (each.0, rest)
    by false rest = rest

-- of distinct numbers those that are picked are distinct
picked_apart : (p : ℕ → Bool) (numbers : List ℕ) → IsDistinct nat_eq numbers → IsDistinct nat_eq (filter p numbers)
unfolding IsDistinct
picked_apart p [] apart = tt
picked_apart p (n ∷ numbers) apart = by (p n) (picked_apart p numbers apart.1)
  where
    by : (b : Bool) → IsDistinct nat_eq (filter p numbers) → IsDistinct nat_eq (cond b (n ∷ filter p numbers) (filter p numbers))
    by true rest = (each_picked (λ m. nat_eq n m ≡ false) p numbers apart.0, rest)
    by false rest = rest

-- a number isn't among those above it
above_other : (n from len : ℕ) → n < from → AllByRecursion (λ m. nat_eq n m ≡ false) (range_with_len from len)
above_other n from zero above = tt
above_other n from (suc len) above =
    let other : nat_eq n from ≡ false = grind (arith, nat_tests) in
    (other, above_other n (from + 1) len (omega (arith, above)))

-- numbers in order are distinct
range_apart : (from len : ℕ) → IsDistinct nat_eq (range_with_len from len)
unfolding IsDistinct
range_apart from zero = tt
range_apart from (suc len) = (above_other from (from + 1) len (omega arith), range_apart (from + 1) len)

-- the daemons that a script names are distinct
named_apart : (script : List ScriptStep) → IsDistinct nat_eq (daemons_of script)
named_apart script = picked_apart (λ daemon. list_any (λ (step : ScriptStep). step.daemon == daemon) script) all_daemons (range_apart 1 16)

-- and at most 16
named_few : (script : List ScriptStep) → length (daemons_of script) ≤ 16
named_few script =
    let p : ℕ → Bool = λ daemon. list_any (λ (step : ScriptStep). step.daemon == daemon) script in
    let kept = length-filter p all_daemons in
    let few = count_by-le-length p all_daemons in
    let all = length-range_with_len 1 16 in
    omega (arith, kept, few, all)

-- newcomers hold no number
none_hold : (ids : List ℕ) → hold_none (map newcomer ids) ≡ true
none_hold [] = refl
none_hold (id ∷ ids) = none_hold ids

-- the progress of newcomers is each one's first
progress_of-newcomers : (ids : List ℕ) → map (λ (d : Daemon). first_progress d.id) (map newcomer ids) ≡ map first_progress ids
progress_of-newcomers [] = refl
progress_of-newcomers (id ∷ ids) = ap (λ these. first_progress id ∷ these) (progress_of-newcomers ids)

ids_of-first : (ids : List ℕ) → map (λ (s : ScriptPlace). s.daemon) (map first_progress ids) ≡ ids
ids_of-first [] = refl
ids_of-first (id ∷ ids) = ap (λ these. id ∷ these) (ids_of-first ids)

-- a newcomer is found among them
abbrev IsNewcomer : List ℕ → ℕ → Type 0
IsNewcomer all id = among id (map newcomer all) ≡ Some (newcomer id)

newcomer_here : (id : ℕ) (all : List ℕ) → IsNewcomer (id ∷ all) id
newcomer_here id all = ap (λ b. cond b (Some (newcomer id)) (among id (map newcomer all))) (number_same id id refl)

newcomer_later : (first : ℕ) (all : List ℕ) (id : ℕ) → IsNewcomer all id → IsNewcomer (first ∷ all) id
newcomer_later first all id found = by (first == id) refl
  where
    by : (b : Bool) → (first == id) ≡ b → cond b (Some (newcomer first)) (among id (map newcomer all)) ≡ Some (newcomer id)
    by true is = ap (λ n. Some (newcomer n)) (same_number first id is)
    by false is = found

each_later : (P Q : ℕ → Type 0) → ((id : ℕ) → P id → Q id) → (ids : List ℕ) → AllByRecursion P ids → AllByRecursion Q ids
each_later P Q more [] each = tt
each_later P Q more (id ∷ ids) each = (more id each.0, each_later P Q more ids each.1)

each_newcomer : (ids : List ℕ) → AllByRecursion (IsNewcomer ids) ids
each_newcomer [] = tt
each_newcomer (id ∷ ids) = (newcomer_here id ids, each_later (IsNewcomer ids) (IsNewcomer (id ∷ ids)) (newcomer_later id ids) ids (each_newcomer ids))

-- what holds of each daemon's first progress holds of all of it
all_first : (P : ScriptPlace → Type 0) (Q : ℕ → Type 0) → ((id : ℕ) → Q id → P (first_progress id)) → (ids : List ℕ) → AllByRecursion Q ids
    → (i : ℕ) (d : ScriptPlace) → i < length (map first_progress ids) → P (slice_index_or (map first_progress ids) i d)
all_first P Q to [] each i d within = absurd (omega (arith, within))
all_first P Q to (id ∷ ids) each zero d within = to id each.0
all_first P Q to (id ∷ ids) each (suc i) d within = all_first P Q to ids each.1 i d (omega (arith, within))

-- a newcomer's progress holds where there is no entry
first_holds : (b : RunStart) (script : List ScriptStep) (ids : List ℕ) (id : ℕ) → IsNewcomer ids id → ProgressHolds b script (first_roll ids) [] (first_progress id)
first_holds b script ids id found = record {
  daemon = newcomer id;
  found = found;
  drawn = omega arith;
  few = omega arith;
  within = omega arith;
  state = record {
    at = at_start;
    kept = record { turns = []; taken = tt; at_is = refl; steps_are = refl; entries_are = refl; next = tt };
    below = omega arith;
    few = omega arith;
    names = λ stays. refl;
    agrees = tt;
    means = tt;
    may = inr (omega arith);
  };
}

-- before any turn
pub fresh_run : {T : Type 0} (g : Ghosts T) (b : RunStart) (script : List ScriptStep) (k : LoggedLock T) → IsFresh g b k → b.daemons ≡ daemons_of script
    → IsScriptedRun g b script k (map first_progress b.daemons)
fresh_run g b script k fresh named = record {
  free = ap (λ (r : Roll). hold_none r.daemons) fresh.roll ∙ none_hold b.daemons;
  unsaid = fresh.works;
  holds =
      subst (λ (r : Roll). All (ProgressHolds b script r k.log.journal) (map first_progress b.daemons)) (sym fresh.roll)
      (subst (λ (journal : List Entry). All (ProgressHolds b script (first_roll b.daemons) journal) (map first_progress b.daemons)) (sym fresh.journal)
      (all_first (ProgressHolds b script (first_roll b.daemons) []) (IsNewcomer b.daemons) (first_holds b script b.daemons) b.daemons (each_newcomer b.daemons)));
  ids = ids_of-first b.daemons;
  named = named;
  apart = subst (IsDistinct nat_eq) (sym named) (named_apart script);
  drawn = let none = ap (λ (r : Roll). r.drawn) fresh.roll in omega (arith, none);
  lasts = fresh.lasts;
}

-- the progress that is made of a fresh core's roll
pub fresh_progress : {T : Type 0} (g : Ghosts T) (b : RunStart) (k : LoggedLock T) (r : Roll) (these : List ScriptPlace) → IsFresh g b k → r ≡ k.lock.roll
    → these ≡ map (λ (d : Daemon). first_progress d.id) r.daemons → these ≡ map first_progress b.daemons
fresh_progress g b k r these fresh same is =
    is ∙ ap (λ (z : Roll). map (λ (d : Daemon). first_progress d.id) z.daemons) (same ∙ fresh.roll) ∙ progress_of-newcomers b.daemons

-- a fresh core has at most 16 daemons
pub fresh_few : {T : Type 0} (g : Ghosts T) (b : RunStart) (script : List ScriptStep) (k : LoggedLock T) (r : Roll) → IsFresh g b k → b.daemons ≡ daemons_of script → r ≡ k.lock.roll → length r.daemons ≤ 16
fresh_few g b script k r fresh named same =
    let is : length r.daemons ≡ length (map newcomer b.daemons) = ap (λ (z : Roll). length z.daemons) (same ∙ fresh.roll) in
    let ids : length b.daemons ≡ length (daemons_of script) = ap length named in
    omega (arith, is, ids, length-map b.daemons newcomer, named_few script)
