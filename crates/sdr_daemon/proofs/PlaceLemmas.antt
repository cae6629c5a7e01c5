-- Which place has made an entry, and where a daemon has left.
use Rattle.std.proofs.Common.{◌≡◌, ◌∙◌, ◌<◌, ◌==◌, ◌+◌, ◌||◌, ℕ, suc, zero, List, [], ◌∷◌, ◌++◌, Bool, true, false, true≢false, MatchBool, arith, refl, sym, ap, subst, cond, flat_map, not}
use Rattle.std.proofs.lemmas.List.{length-map}
use Rattle.std.proofs.lemmas.List.Folds.{list_any-append}
use Rattle.std.specs.List.{IsDistinct}
use Rattle.std.specs.Option.{option_map_or}
use Rattle.std.specs.Prelude.{filter, length, map, nat_eq, slice_index_or}
use Rattle.law_runs.proofs.CoreLemmas.{or_true}
use Rattle.sdr_core.specs.CoreKept.{LoggedLock, RunStart}
use Rattle.sdr_machine.proofs.RollLemmas.{number_same, same_number, turned}
use Rattle.sdr_machine.specs.Core.{has_left}
use Rattle.sdr_machine.specs.Legal.{is_leave}
use Rattle.sdr_machine.specs.declared.daemon.Daemon.{Daemon}
use Rattle.sdr_machine.specs.declared.has_ground.HasGround.{Ghosts}
use Rattle.sdr_model.specs.declared.journal.Entry.{Entry}
use Rattle.sdr_model.specs.declared.journal.Said.{Said}
use Rattle.sdr_model.specs.declared.journal.What.TheVariants as whats
use Rattle.sdr_model.specs.declared.journal.What.{What}
use Rattle.sdr_model.specs.declared.script.ScriptStep.{ScriptStep}
use Rattle.sdr_daemon.proofs.LineLemmas.{other_number}
use Rattle.sdr_daemon.proofs.NextLemmas.{gone_is}
use Rattle.sdr_daemon.proofs.RunLemmas.{each_at}
use Rattle.sdr_daemon.specs.Drawing.{entries_at, have_leave, place_of}
use Rattle.sdr_daemon.specs.Progressing.{IsOnWay, IsScriptedRun, ProgressHolds, WasLookRefused}
use Rattle.sdr_daemon.specs.Scripts.{DaemonKeepsToScript}
use Rattle.sdr_daemon.specs.TakingTurns.{is_gone}
use Rattle.sdr_daemon.specs.Turns.{DaemonTurn, EndsLook, GivesEntry, IsTurn, Reached, TakeTurns, after_turn, at_start, entries_by, steps_by}
use Rattle.sdr_daemon.specs.declared.script_place.ScriptPlace.{ScriptPlace}

next_same : (n i : ℕ) → (1 + n == suc i) ≡ (n == i)
next_same n i = by (n == i) refl
  where
    by : (b : Bool) → (n == i) ≡ b → (1 + n == suc i) ≡ (n == i)
    by true is = let one : n ≡ i = same_number n i is in number_same (1 + n) (suc i) (omega (arith, one)) ∙ sym is
    by false is = other_number (1 + n) (suc i) (λ one. true≢false (sym (number_same n i (omega (arith, one))) ∙ is)) ∙ sym is

-- the place of a number among distinct daemons is that of the one daemon that has it
pub place_test : (these : List ScriptPlace) → IsDistinct nat_eq (map (λ (s : ScriptPlace). s.daemon) these) → (i : ℕ) (d : ScriptPlace) → i < length these → (id : ℕ)
    → (place_of (map (λ (s : ScriptPlace). s.daemon) these) id == i) ≡ (id == (slice_index_or these i d).daemon)
unfolding IsDistinct
place_test [] apart i d within id = absurd (omega (arith, within))
place_test (s ∷ these) apart zero d within id = by (s.daemon == id) refl
  where
    ds : List ℕ
    ds = map (λ (z : ScriptPlace). z.daemon) these

    by : (b : Bool) → (s.daemon == id) ≡ b → (cond (not (s.daemon == id)) (1 + place_of ds id) 0 == 0) ≡ (id == s.daemon)
    by true is =
        let one : s.daemon ≡ id = same_number s.daemon id is in
        ap (λ b. cond (not b) (1 + place_of ds id) 0 == 0) is ∙ sym (number_same id s.daemon (sym one))
    by false is =
        ap (λ b. cond (not b) (1 + place_of ds id) 0 == 0) is ∙ other_number (1 + place_of ds id) 0 (λ one. absurd (omega (arith, one)))
        ∙ sym (turned s.daemon id is)
place_test (s ∷ these) apart (suc i) d within id = by (s.daemon == id) refl (place_test these apart.1 i d (omega (arith, within)) id)
  where
    ds : List ℕ
    ds = map (λ (z : ScriptPlace). z.daemon) these

    other : ℕ
    other = (slice_index_or these i d).daemon

    by : (b : Bool) → (s.daemon == id) ≡ b → (place_of ds id == i) ≡ (id == other) → (cond (not (s.daemon == id)) (1 + place_of ds id) 0 == suc i) ≡ (id == other)
    by true is rest =
        let one : s.daemon ≡ id = same_number s.daemon id is in
        ap (λ b. cond (not b) (1 + place_of ds id) 0 == suc i) is ∙ other_number 0 (suc i) (λ one. absurd (omega (arith, one)))
        ∙ sym (ap (λ n. n == other) (sym one) ∙ each_at (λ n. nat_eq s.daemon n ≡ false) these apart.0 i d (omega (arith, within)))
    by false is rest = ap (λ b. cond (not b) (1 + place_of ds id) 0 == suc i) is ∙ next_same (place_of ds id) i ∙ rest

-- no leave is among the entries of a turn
no_leave : (R : ℕ → ℕ → Type 0) (at : Reached) (t : DaemonTurn) → IsTurn R at t → have_leave t.entries ≡ false
no_leave R at t turns = by turns
  where
    given : (what : What) → GivesEntry at t what → is_leave what ≡ false → have_leave t.entries ≡ false
    given what gives isnt = ap have_leave gives.is ∙ ap (λ w. is_leave w || false) gives.what_is ∙ ap (λ b. b || false) isnt

    ends : (ticket : ℕ) (s : Said) (what : What) → EndsLook ticket s what → is_leave what ≡ false
    ends ticket s what (EndsLook.awarded answer is) = ap is_leave is
    ends ticket s what (EndsLook.stalled answer is) = ap is_leave is
    ends ticket s what (EndsLook.failed answer is) = ap is_leave is

    by : IsTurn R at t → have_leave t.entries ≡ false
    by (IsTurn.passes s ready said refused answer none number phase) = ap have_leave none
    by (IsTurn.works close ready opens gives phase) = given (whats.Work t.said close) gives refl
    by (IsTurn.cut close s leave ready opens line event gives phase) = given (whats.Work (t.said ++ s ∷ []) close) gives refl
    by (IsTurn.waits ticket ready lines gives phase) = given (whats.Waits ticket) gives refl
    by (IsTurn.looks ticket said what may gives end phase) = given what gives (ends ticket said.said what end)
    by (IsTurn.refused_look ticket said may answer none higher refused phase) = ap have_leave none

-- nor among those of turns
no_leaves : (R : ℕ → ℕ → Type 0) (at : Reached) (turns : List DaemonTurn) → TakeTurns R at turns → have_leave (flat_map (λ (t : DaemonTurn). t.entries) turns) ≡ false
no_leaves R at [] taken = refl
no_leaves R at (t ∷ turns) taken =
    list_any-append (λ (e : Entry). is_leave e.what) t.entries (flat_map (λ (u : DaemonTurn). u.entries) turns)
    ∙ (λ i. no_leave R at t taken.0 i || no_leaves R (after_turn at t) turns taken.2 i)

module _ {T : Type 0} (g : Ghosts T) (b : RunStart) (script : List ScriptStep) (k : LoggedLock T) where
  -- where a daemon's progress holds, it has left just where one of its entries is a leave
  left_by_entries : (s : ScriptPlace) → ProgressHolds b script k.lock.roll k.log.journal s → has_left k.lock.roll s.daemon ≡ have_leave (entries_by s.daemon k.log.journal)
  left_by_entries s holds = ap (λ o. option_map_or (λ (d : Daemon). d.left) o false) holds.found ∙ by holds.daemon.left holds.state
    where
      by : (left : Bool)
          → MatchBool left (DaemonKeepsToScript (WasLookRefused b k.lock.roll.drawn k.log.journal) k.log.journal (steps_by s.daemon script) (entries_by s.daemon k.log.journal))
          (IsOnWay b script k.lock.roll k.log.journal holds.daemon s)
          → left ≡ have_leave (entries_by s.daemon k.log.journal)
      by true keeps =
          sym (ap have_leave keeps.all ∙ list_any-append (λ (e : Entry). is_leave e.what) keeps.before (keeps.last ∷ [])
          ∙ ap (λ w. have_leave keeps.before || (is_leave w || false)) keeps.leaves ∙ or_true (have_leave keeps.before))
      by false way = sym (ap have_leave way.kept.entries_are ∙ no_leaves (WasLookRefused b k.lock.roll.drawn k.log.journal) at_start way.kept.turns way.kept.taken)

  module _ (these : List ScriptPlace) (run : IsScriptedRun g b script k these) (place : ℕ) where
    daemons_are : length b.daemons ≡ length these
    daemons_are = sym (ap length run.ids) ∙ length-map these (λ (s : ScriptPlace). s.daemon)

    module _ (d : ScriptPlace) (within : place < length these) where
      test : (id : ℕ) → (place_of b.daemons id == place) ≡ (id == (slice_index_or these place d).daemon)
      test id = ap (λ ds. place_of ds id == place) (sym run.ids) ∙ place_test these (subst (IsDistinct nat_eq) (sym run.ids) run.apart) place d within id

      -- a place is that of its daemon
      pub place_is : place_of b.daemons (slice_index_or these place d).daemon ≡ place
      place_is =
          let id = (slice_index_or these place d).daemon in
          same_number (place_of b.daemons id) place (test id ∙ number_same id id refl)

      -- the entries of a place are those of its daemon
      pub entries_are : entries_at b.daemons place k.log.journal ≡ entries_by (slice_index_or these place d).daemon k.log.journal
      entries_are i = filter (λ (e : Entry). test e.daemon i) k.log.journal

    -- the daemon at a place has left just where one of the entries of that place is a leave
    pub left_at : place < length b.daemons → is_gone place (record { core = k; progress = these }) ≡ have_leave (entries_at b.daemons place k.log.journal)
    left_at below = by these refl (omega (arith, below, daemons_are))
      where
        by : (zs : List ScriptPlace) → zs ≡ these → place < length these → is_gone place (record { core = k; progress = these }) ≡ have_leave (entries_at b.daemons place k.log.journal)
        by [] is within = absurd (let none = ap length is in omega (arith, none, within))
        by (z ∷ zs) is within =
            gone_is place (record { core = k; progress = these }) z within
            ∙ left_by_entries (slice_index_or these place z) (run.holds place z within) ∙ sym (ap have_leave (entries_are z within))
