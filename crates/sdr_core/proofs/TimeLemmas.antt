-- The moments of the entries of a core run.
use Rattle.std.proofs.Common.{◌≤◌, ◌++◌, ℕ, List, [], ◌∷◌, false, Option, None, Some, subst, sym, arith, append-nil}
use Rattle.std.specs.Option.{option_map, option_map_or, option_to_list}
use Rattle.sdr_base.specs.Media.{Told}
use Rattle.sdr_machine.specs.Core.{AreInTime, Core, CoreStep, RunsCore, Under, entry_of, under, what_of}
use Rattle.sdr_machine.specs.Machine.{Made}
use Rattle.sdr_machine.specs.Roll.{daemon_of}
use Rattle.sdr_machine.specs.declared.daemon.Daemon.{Daemon}
use Rattle.sdr_model.specs.declared.journal.Entry.{Entry}
use Rattle.sdr_model.specs.declared.journal.What.{What}
use Rattle.law_runs.proofs.RunLemmas.{step_adds}
use Rattle.law_runs.specs.Adding.{entry_under}
use Rattle.sdr_core.specs.CoreKept.{AreMadeBetween, IsMadeBetween, last_done}

-- so they are up to a later moment
pub between_more : (start moment later : ℕ) → moment ≤ later → (journal : List Entry) → AreMadeBetween start moment journal → AreMadeBetween start later journal
between_more start moment later le [] are = tt
between_more start moment later le (e ∷ journal) are =
    (record { begun = are.0.begun; done = let done = are.0.done in omega arith }, between_more start moment later le journal are.1)

-- and with one entry more that is
between_push : (start moment : ℕ) (journal : List Entry) (e : Entry) → AreMadeBetween start moment journal → IsMadeBetween start moment e
    → AreMadeBetween start moment (journal ++ e ∷ [])
between_push start moment [] e are is = (is, tt)
between_push start moment (first ∷ journal) e are is = (are.0, between_push start moment journal e are.1 is)

-- an event that is made later adds an entry of its own moments
step_between : (told : Option Told) (start moment : ℕ) (c : Core) (e : Made) (c' : Core) → start ≤ moment → AreMadeBetween start moment c.log.journal → moment ≤ e.begun
    → e.begun ≤ e.done → CoreStep told c e c' → AreMadeBetween start e.done c'.log.journal
step_between told start moment c e c' from are later lasts step =
    subst (AreMadeBetween start e.done) (sym (step_adds told c e c' step)) (by (daemon_of c.machine.roll e.daemon))
  where
    before : AreMadeBetween start e.done c.log.journal
    before = between_more start moment e.done (omega arith) c.log.journal are

    of : (u : Under) (o : Option What) → AreMadeBetween start e.done (c.log.journal ++ option_to_list (option_map (entry_of u.number e) o))
    of u None = subst (AreMadeBetween start e.done) (sym (append-nil c.log.journal)) before
    of u (Some what) = between_push start e.done c.log.journal (entry_of u.number e what) before (record { begun = omega arith; done = omega arith })

    by : (o : Option Daemon)
        → AreMadeBetween start e.done (c.log.journal ++ option_to_list (option_map_or (λ (d : Daemon). entry_under (under c.machine.roll d c'.machine.roll e.said.event) c e) o None))
    by None = of (record { number = 0; waited = false; left = false }) None
    by (Some d) = of (under c.machine.roll d c'.machine.roll e.said.event) (what_of (under c.machine.roll d c'.machine.roll e.said.event) c.log.works e)

-- Each entry that a run of events in time adds was made between the first moment and the last event's.
pub run_between : (told : Option Told) (start moment : ℕ) (made : List Made) (c c' : Core) → start ≤ moment → AreMadeBetween start moment c.log.journal
    → AreInTime moment made → RunsCore told c made c' → AreMadeBetween start (last_done moment made) c'.log.journal
run_between told start moment [] c c' from are time runs = subst (λ (x : Core). AreMadeBetween start moment x.log.journal) (sym runs) are
run_between told start moment (e ∷ made) c c' from are time runs =
    run_between told start e.done made runs.0 c' (let begun = time.0 in let done = time.1 in omega arith)
    (step_between told start moment c e runs.0 from are time.0 time.1 runs.1) time.2 runs.2
