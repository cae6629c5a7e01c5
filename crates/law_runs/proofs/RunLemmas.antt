-- What a core keeps in its run.
use Rattle.std.proofs.Common.{true, ◌==◌, ◌≡◌, ◌≤◌, ◌<◌, ◌∙◌, ◌++◌, ℕ, List, [], ◌∷◌, false, Option, None, Some, arith, refl, sym, ap, subst, length, map, nat_eq, append-nil}
use Rattle.std.specs.List.{IsDistinct}
use Rattle.std.proofs.lemmas.List.Elements.{All-nil}
use Rattle.std.specs.List.{list_any}
use Rattle.std.specs.Option.{option_map, option_map_or, option_to_list}
use Rattle.std.specs.Prelude.{All}
use Rattle.sdr_base.specs.Media.{Told}
use Rattle.sdr_model.specs.World.{World}
use Rattle.sdr_model.specs.declared.journal.Entry.{Entry}
use Rattle.sdr_model.specs.declared.journal.What.{What}
use Rattle.sdr_machine.specs.Core.{AreInTime, Core, CoreStep, RunsCore, entry_of, first_core, log_after, under, what_of, Under}
use Rattle.sdr_machine.specs.Ground.{State, resting}
use Rattle.sdr_machine.specs.Legal.{IsAfter, IsLegal, Lead, have_stalled}
use Rattle.sdr_machine.specs.Machine.{Made}
use Rattle.sdr_machine.specs.Roll.{daemon_of, is_stalled, newcomer}
use Rattle.sdr_machine.specs.declared.daemon.Daemon.{Daemon}
use Rattle.sdr_machine.specs.declared.daemon.Holding.{Holding}
use Rattle.law_runs.specs.Adding.{AddsRightly, FailsRightly, entry_added, entry_under}
use Rattle.law_runs.specs.Rising.{MomentsRise, NumbersRise}
use Rattle.law_runs.specs.LastEntries.{AgreesWithJournal}
use Rattle.law_runs.proofs.CoreLemmas.{KeepsCore}
use Rattle.law_runs.proofs.CurrentLemmas.{Current}
use Rattle.law_runs.proofs.JournalLemmas.{all_above, all_below, both_rise, last_done, last_done-more, moments_more, take_all}
use Rattle.sdr_machine.specs.Served.{HoldsNumber}
use Rattle.sdr_machine.proofs.RollLemmas.{among, each_found, each_newcomer, numbers_of_newcomers}
use Rattle.sdr_machine.proofs.ServedLemmas.{first_drawn, held_within}
use Rattle.law_runs.proofs.StalledLemmas.{stalled_same}
use Rattle.law_runs.proofs.StepLemmas.{step_keeps}
use Rattle.law_runs.proofs.WorkLemmas.{Untouched}

-- a daemon that hasn't come holds nothing, and agrees with a journal that has no entry of it
first_daemon : (ids : List ℕ) (id : ℕ) (d : Daemon) → among id (map newcomer ids) ≡ Some d → (d.holds ≡ None) × (d.left ≡ false) × (d.waits ≡ None)
first_daemon ids id d found =
    each_found (λ (x : Daemon). (x.holds ≡ None) × (x.left ≡ false) × (x.waits ≡ None)) (map newcomer ids) id d found
    (each_newcomer (λ (x : Daemon). (x.holds ≡ None) × (x.left ≡ false) × (x.waits ≡ None)) (λ id. (refl, refl, refl)) ids)

first_keeps : (told : Option Told) (daemons : List ℕ) (first : State) → KeepsCore told daemons first (first_core daemons first)
first_keeps told daemons first = record {
  roll = record {
    numbers = numbers_of_newcomers daemons;
    held = first_drawn daemons;
    last = omega arith;
    above = λ id d h held. absurd (holds_nothing id d h held.found held.holds);
    agree = λ id d found. let f = first_daemon daemons id d found in record { left = f.1; waits = f.2 };
  };
  journal = record { leads = refl; rise = tt; members = All-nil (λ (e : Entry). list_any (λ n. n == e.daemon) daemons ≡ true); ends = tt; sound = λ none. tt };
  works = λ none. record {
    apart = tt;
    current = Current.rests refl (λ id d found. subst (Untouched told []) (sym (first_daemon daemons id d found).0) refl);
  };
}
  where
    holds_nothing : (id : ℕ) (d : Daemon) (h : Holding) → among id (map newcomer daemons) ≡ Some d → d.holds ≡ Some h → ⊥
    holds_nothing id d h found holds = let none : d.holds ≡ None = (first_daemon daemons id d found).0 in cc

-- a step of the core
pub core_step_keeps : (told : Option Told) (daemons : List ℕ) (first : State) (c : Core) (e : Made) (c' : Core) → KeepsCore told daemons first c → CoreStep told c e c'
    → KeepsCore told daemons first c' × AddsRightly told daemons c e c'.machine × FailsRightly c e c'.machine
core_step_keeps told daemons first c e c' keeps step =
    let after = step_keeps (record { keeps = keeps }) step.next step.step step.media in (
      subst (KeepsCore told daemons first) (sym step.history) after.keeps,
      subst (λ (x : Core). AddsRightly told daemons c e x.machine) (sym step.history) after.adds,
      subst (λ (x : Core). FailsRightly c e x.machine) (sym step.history) after.fails,
    )

-- a run of it
run_keeps_on : (told : Option Told) (daemons : List ℕ) (first : State) (made : List Made) (c c' : Core) → KeepsCore told daemons first c → RunsCore told c made c'
    → KeepsCore told daemons first c'
run_keeps_on told daemons first [] c c' keeps runs = subst (KeepsCore told daemons first) (sym runs) keeps
run_keeps_on told daemons first (e ∷ made) c c' keeps runs =
    run_keeps_on told daemons first made runs.0 c' (core_step_keeps told daemons first c e runs.0 keeps runs.1).0 runs.2

pub run_keeps : (told : Option Told) (daemons : List ℕ) (first : State) (made : List Made) (core : Core) → RunsCore told (first_core daemons first) made core
    → KeepsCore told daemons first core
run_keeps told daemons first made core runs = run_keeps_on told daemons first made (first_core daemons first) core (first_keeps told daemons first) runs

-- the state before the open transaction is that after all entries
pub run_is_after : (told : Option Told) (daemons : List ℕ) (first : State) (made : List Made) (core : Core) → RunsCore told (first_core daemons first) made core
    → IsAfter told daemons first core.log.journal (length core.log.journal) core.machine.before
run_is_after told daemons first made core runs =
    let keeps = run_keeps told daemons first made core runs in
    subst (λ entries. Lead told daemons [] first entries core.machine.before) (sym (take_all core.log.journal)) keeps.journal.leads

-- the entry that one more event adds may stand
pub run_adds : (told : Option Told) (daemons : List ℕ) (first : State) (made : List Made) (core : Core) → RunsCore told (first_core daemons first) made core
    → (e : Made) (next : Core) → CoreStep told core e next → AddsRightly told daemons core e next.machine
run_adds told daemons first made core runs e next step = (core_step_keeps told daemons first core e next (run_keeps told daemons first made core runs) step).1

-- the entry that an event adds
pub step_adds : (told : Option Told) (c : Core) (e : Made) (c' : Core) → CoreStep told c e c' → c'.log.journal ≡ c.log.journal ++ option_to_list (entry_added c e c'.machine)
step_adds told c e c' step =
    ap (λ (x : Core). x.log.journal) step.history ∙ by (daemon_of c.machine.roll e.daemon)
    ∙ ap (λ (x : Core). c.log.journal ++ option_to_list (entry_added c e x.machine)) (sym step.history)
  where
    by : (o : Option Daemon)
        → (option_map_or (λ (d : Daemon). log_after (under c.machine.roll d step.next.roll e.said.event) c.log e) o c.log).journal
        ≡ c.log.journal ++ option_to_list (option_map_or (λ (d : Daemon). let u = under c.machine.roll d step.next.roll e.said.event in option_map (entry_of u.number e) (what_of u c.log.works e)) o None)
    by None = sym (append-nil c.log.journal)
    by (Some d) = refl

-- the numbers of a run
pub run_rises : (told : Option Told) (daemons : List ℕ) (first : State) (made : List Made) (core : Core) → RunsCore told (first_core daemons first) made core
    → NumbersRise 0 core.log.journal
run_rises told daemons first made core runs = (run_keeps told daemons first made core runs).journal.rise

pub run_drawn : (told : Option Told) (daemons : List ℕ) (first : State) (made : List Made) (core : Core) → RunsCore told (first_core daemons first) made core
    → All (λ (x : Entry). x.number ≤ core.machine.roll.drawn) core.log.journal
run_drawn told daemons first made core runs =
    let keeps = run_keeps told daemons first made core runs in
    all_below 0 core.machine.roll.drawn core.log.journal keeps.journal.rise keeps.roll.last

pub run_held : (told : Option Told) (daemons : List ℕ) (first : State) (made : List Made) (core : Core) → RunsCore told (first_core daemons first) made core
    → (id : ℕ) (d : Daemon) (h : Holding) → daemon_of core.machine.roll id ≡ Some d → d.holds ≡ Some h
    → (h.number ≤ core.machine.roll.drawn) × All (λ (x : Entry). x.number < h.number) core.log.journal
run_held told daemons first made core runs id d h found holds =
    let keeps = run_keeps told daemons first made core runs in
    let held : HoldsNumber core.machine.roll id d h = record { found = found; holds = holds } in (
      (held_within keeps.roll.held held).1,
      all_above 0 h.number core.log.journal keeps.journal.rise (keeps.roll.above id d h held),
    )

-- its entries are the daemons'
pub run_members : (told : Option Told) (daemons : List ℕ) (first : State) (made : List Made) (core : Core) → RunsCore told (first_core daemons first) made core
    → All (λ (x : Entry). list_any (λ n. n == x.daemon) daemons ≡ true) core.log.journal
run_members told daemons first made core runs = (run_keeps told daemons first made core runs).journal.members

-- the roll and the journal of a run
pub run_agrees : (told : Option Told) (daemons : List ℕ) (first : State) (made : List Made) (core : Core) → RunsCore told (first_core daemons first) made core
    → AgreesWithJournal core.log.journal core.machine.roll
run_agrees told daemons first made core runs = (run_keeps told daemons first made core runs).roll.agree

pub run_stalls : (told : Option Told) (daemons : List ℕ) (first : State) (made : List Made) (core : Core) → RunsCore told (first_core daemons first) made core
    → IsDistinct nat_eq daemons → (w : World) → is_stalled core.machine.roll w ≡ have_stalled daemons core.log.journal w
run_stalls told daemons first made core runs distinct w =
    stalled_same daemons core.log.journal core.machine.roll w (run_keeps told daemons first made core runs).roll distinct

-- the moments of the entries, where the last of them was done by this one
record IsTimed (moment : ℕ) (journal : List Entry) : Type 0 where
  rise : MomentsRise 0 journal
  done : last_done 0 journal ≤ moment

-- an event that is made later adds an entry that is
step_timed : (told : Option Told) (moment : ℕ) (c : Core) (e : Made) (c' : Core) → IsTimed moment c.log.journal → moment ≤ e.begun → e.begun ≤ e.done → CoreStep told c e c'
    → IsTimed e.done c'.log.journal
step_timed told moment c e c' timed later lasts step =
    subst (IsTimed e.done) (sym (step_adds told c e c' step)) (by (daemon_of c.machine.roll e.daemon))
  where
    of : (u : Under) (o : Option What) → IsTimed e.done (c.log.journal ++ option_to_list (option_map (entry_of u.number e) o))
    of u None = subst (IsTimed e.done) (sym (append-nil c.log.journal)) (record { rise = timed.rise; done = let done = timed.done in omega arith })
    of u (Some what) = record {
      rise = moments_more 0 c.log.journal (entry_of u.number e what) timed.rise (let done = timed.done in omega arith) lasts;
      done = subst (λ n. n ≤ e.done) (sym (last_done-more 0 c.log.journal (entry_of u.number e what))) (omega arith);
    }

    by : (o : Option Daemon)
        → IsTimed e.done (c.log.journal ++ option_to_list (option_map_or (λ (d : Daemon). entry_under (under c.machine.roll d c'.machine.roll e.said.event) c e) o None))
    by None = of (record { number = 0; waited = false; left = false }) None
    by (Some d) = of (under c.machine.roll d c'.machine.roll e.said.event) (what_of (under c.machine.roll d c'.machine.roll e.said.event) c.log.works e)

run_timed : (told : Option Told) (moment : ℕ) (made : List Made) (c c' : Core) → IsTimed moment c.log.journal → AreInTime moment made → RunsCore told c made c'
    → MomentsRise 0 c'.log.journal
run_timed told moment [] c c' timed time runs = subst (λ (x : Core). MomentsRise 0 x.log.journal) (sym runs) timed.rise
run_timed told moment (e ∷ made) c c' timed time runs =
    run_timed told e.done made runs.0 c' (step_timed told moment c e runs.0 timed time.0 time.1 runs.1) time.2 runs.2

-- the journal is legal
pub run_is_legal : (told : Option Told) (daemons : List ℕ) (first : State) (moment : ℕ) (made : List Made) (core : Core) → first ≡ resting first.world first.base
    → AreInTime moment made → RunsCore told (first_core daemons first) made core → IsLegal told daemons first core.log.journal
run_is_legal told daemons first moment made core rests time runs =
    let keeps = run_keeps told daemons first made core runs in
    record {
      rests = rests;
      rise =
          both_rise 0 0 core.log.journal keeps.journal.rise
          (run_timed told moment made (first_core daemons first) core (record { rise = tt; done = omega arith }) time runs);
      last_state = core.machine.before;
      leads = keeps.journal.leads;
      faults = keeps.journal.ends;
    }
