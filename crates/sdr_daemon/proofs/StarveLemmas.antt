-- All daemons mean to leave for want of memory.
use Rattle.std.proofs.Common.{◌≡◌, ◌∙◌, ◌<◌, ◌≤◌, ◌+◌, ℕ, suc, zero, List, [], ◌∷◌, ◌++◌, Bool, true, false, MatchBool, Option, None, Some, arith, refl, sym, ap, subst, drop, map, take}
use Rattle.std.proofs.lemmas.List.{get_or-map, length-map}
use Rattle.std.proofs.lemmas.List.Sums.{sum_by-cons}
use Rattle.std.specs.Prelude.{length, slice_index_or, slice_set, sum_by, unwrap_or}
use Rattle.arrayvec.proofs.ArrayVecLemmas.{items-with_items}
use Rattle.arrayvec.specs.ArrayVec.{ArrayVec, with_items}
use Rattle.sdr_core.specs.CoreKept.{LoggedLock, RunStart}
use Rattle.sdr_machine.specs.Roll.{Roll}
use Rattle.sdr_machine.specs.declared.has_ground.HasGround.{Ghosts}
use Rattle.sdr_model.specs.declared.event.Leave.TheVariants as leaves
use Rattle.sdr_model.specs.declared.event.Leave.{Leave}
use Rattle.sdr_model.specs.declared.journal.Entry.{Entry}
use Rattle.sdr_model.specs.declared.script.ScriptStep.{ScriptStep}
use Rattle.sdr_daemon.specs.Drawing.{starved}
use Rattle.sdr_daemon.specs.Progressing.{IsOnWay, IsScriptedRun, PhaseAgrees, ProgressHolds, WasLookRefused, steps_ahead}
use Rattle.sdr_daemon.specs.Scripts.{DaemonKeepsToScript, MeansToLeave}
use Rattle.sdr_daemon.specs.Turns.{Phase, entries_by, steps_by}
use Rattle.sdr_daemon.specs.declared.script_place.ScriptPlace.{ScriptPlace}

-- the progress of a daemon holds also where it means to leave for want of memory
starved_holds : (b : RunStart) (script : List ScriptStep) (r : Roll) (journal : List Entry) (s : ScriptPlace) → ProgressHolds b script r journal s → ProgressHolds b script r journal (starved s)
starved_holds b script r journal s holds = record {
  daemon = holds.daemon;
  found = holds.found;
  drawn = holds.drawn;
  few = holds.few;
  within = holds.within;
  state = by holds.daemon.left holds.state;
}
  where
    ahead : List ScriptStep
    ahead = steps_ahead script s.daemon s.place

    agrees : (phase : Phase) → PhaseAgrees phase holds.daemon s.leaving → PhaseAgrees phase holds.daemon (Some (unwrap_or s.leaving leaves.Memory))
    agrees Phase.ready was = tt
    agrees (Phase.waiting ticket) was = was
    agrees (Phase.leaving leave) was = ap (λ o. Some (unwrap_or o leaves.Memory)) was

    means : (o : Option Leave) → MeansToLeave ahead o → MeansToLeave ahead (Some (unwrap_or o leaves.Memory))
    means None was = tt
    means (Some leave) was = was

    by : (left : Bool)
        → MatchBool left (DaemonKeepsToScript (WasLookRefused b r.drawn journal) journal (steps_by s.daemon script) (entries_by s.daemon journal)) (IsOnWay b script r journal holds.daemon s)
        → MatchBool left (DaemonKeepsToScript (WasLookRefused b r.drawn journal) journal (steps_by s.daemon script) (entries_by s.daemon journal)) (IsOnWay b script r journal holds.daemon (starved s))
    by true keeps = keeps
    by false way = record {
      at = way.at;
      kept = way.kept;
      below = way.below;
      few = way.few;
      names = λ none. absurd cc;
      agrees = agrees way.at.phase way.agrees;
      means = means s.leaving way.means;
      may = way.may;
    }

same_daemons : (these : List ScriptPlace) → map (λ (s : ScriptPlace). s.daemon) (map starved these) ≡ map (λ (s : ScriptPlace). s.daemon) these
same_daemons [] = refl
same_daemons (s ∷ these) = ap (λ l. s.daemon ∷ l) (same_daemons these)

same_drawn : (these : List ScriptPlace) → sum_by (λ (s : ScriptPlace). s.drawn) (map starved these) ≡ sum_by (λ (s : ScriptPlace). s.drawn) these
same_drawn [] = refl
same_drawn (s ∷ these) =
    sum_by-cons (λ (z : ScriptPlace). z.drawn) (starved s) (map starved these) ∙ ap (λ n. s.drawn + n) (same_drawn these)
    ∙ sym (sum_by-cons (λ (z : ScriptPlace). z.drawn) s these)

-- so does what holds of all
pub starved_run : {T : Type 0} (g : Ghosts T) (b : RunStart) (script : List ScriptStep) (k : LoggedLock T) (these : List ScriptPlace) → IsScriptedRun g b script k these
    → IsScriptedRun g b script k (map starved these)
starved_run g b script k these run = record {
  free = run.free;
  unsaid = run.unsaid;
  holds = each;
  ids = same_daemons these ∙ run.ids;
  named = run.named;
  apart = run.apart;
  drawn = subst (λ n. k.lock.roll.drawn ≤ n) (sym (same_drawn these)) run.drawn;
  lasts = run.lasts;
}
  where
    each : (i : ℕ) (d : ScriptPlace) → i < length (map starved these) → ProgressHolds b script k.lock.roll k.log.journal (slice_index_or (map starved these) i d)
    each i d inside =
        let long = length-map these starved in
        let within : i < length these = omega (arith, inside, long) in
        subst (ProgressHolds b script k.lock.roll k.log.journal) (sym (get_or-map starved these i d d within))
        (starved_holds b script k.lock.roll k.log.journal (slice_index_or these i d) (run.holds i d within))

-- the daemons before the first of these mean to leave, and those from there on are as they were
abbrev pub starved_to : ℕ → List ScriptPlace → List ScriptPlace
starved_to i these = map starved (take i these) ++ drop i these

pub starved_none : (these : List ScriptPlace) → starved_to 0 these ≡ these
starved_none [] = refl
starved_none (s ∷ these) = refl

pub starved_all : (these : List ScriptPlace) → starved_to (length these) these ≡ map starved these
starved_all [] = refl
starved_all (s ∷ these) = ap (λ l. starved s ∷ l) (starved_all these)

-- the next one is as it was
pub starved_read : (these : List ScriptPlace) (i : ℕ) (d : ScriptPlace) → slice_index_or (starved_to i these) i d ≡ slice_index_or these i d
starved_read [] zero d = refl
starved_read [] (suc i) d = refl
starved_read (s ∷ these) zero d = refl
starved_read (s ∷ these) (suc i) d = starved_read these i d

-- and means to leave, too, once it is starved
pub starved_next : (these : List ScriptPlace) (i : ℕ) (d : ScriptPlace) → i < length these → slice_set (starved_to i these) i (starved (slice_index_or these i d)) ≡ starved_to (suc i) these
starved_next [] i d inside = absurd (omega (arith, inside))
starved_next (s ∷ these) zero d inside = refl
starved_next (s ∷ these) (suc i) d inside = ap (λ l. starved s ∷ l) (starved_next these i d (omega (arith, inside)))

-- one more is starved, where it is read from those of which the ones before it are
pub starved_step : (these now next : List ScriptPlace) (i : ℕ) (item : ScriptPlace) → now ≡ starved_to i these → item ≡ slice_index_or now i item → i < length these → next ≡ slice_set now i (starved item)
    → next ≡ starved_to (i + 1) these
starved_step these now next i item so_far read inside is =
    let same : item ≡ slice_index_or these i item = read ∙ ap (λ l. slice_index_or l i item) so_far ∙ starved_read these i item in
    let one : suc i ≡ i + 1 = omega arith in
    is ∙ ap (λ l. slice_set l i (starved item)) so_far ∙ ap (λ z. slice_set (starved_to i these) i (starved z)) same ∙ starved_next these i item inside ∙ ap (λ n. starved_to n these) one

-- what is written through the slice of these stands there
pub starved_at : (v : ArrayVec ScriptPlace) (seen new : List ScriptPlace) → seen ≡ v.items → new ≡ map starved seen → (with_items v new).items ≡ map starved v.items
starved_at v seen new same is = items-with_items v new (ap length is ∙ length-map seen starved ∙ ap length same) ∙ is ∙ ap (map starved) same
