-- What is said in a run stands at most once in its journal and its open transactions.
use Rattle.std.proofs.Common.{◌≡◌, ◌≤◌, ◌+◌, ◌++◌, ◌==◌, ◌∙◌, ℕ, List, [], ◌∷◌, Bool, true, false, not, Option, None, Some, MatchOption, cond, filter, flat_map, refl, sym, ap, subst, arith, append-nil}
use Rattle.std.proofs.lemmas.Bool.Decides.{nat_tests}
use Rattle.std.proofs.lemmas.List.Sums.{sum_by-append, sum_by-cons}
use Rattle.std.specs.List.{sum_by}
use Rattle.std.specs.Option.{option_map, option_map_or, option_to_list}
use Rattle.std.specs.Prelude.{if◌then◌else◌, ⊤}
use Rattle.sdr_base.specs.Media.{Told}
use Rattle.sdr_machine.specs.Core.{Core, CoreStep, Log, RunsCore, Under, Work, all_said, closed_by, entry_of, first_core, log_after, said_by, under, was_outside, what_added, with_said, without_work}
use Rattle.sdr_machine.specs.Ground.{State}
use Rattle.sdr_machine.specs.Machine.{Made}
use Rattle.sdr_machine.specs.Roll.{daemon_of}
use Rattle.sdr_machine.specs.declared.daemon.Daemon.{Daemon}
use Rattle.sdr_model.specs.declared.answer.Answer.{Answer}
use Rattle.sdr_model.specs.declared.answer.Answer.TheVariants as answers
use Rattle.sdr_model.specs.declared.answer.Close.{Close}
use Rattle.sdr_model.specs.declared.event.Event.{Event}
use Rattle.sdr_model.specs.declared.event.Event.TheVariants as events
use Rattle.sdr_model.specs.declared.journal.Entry.{Entry}
use Rattle.sdr_model.specs.declared.journal.Said.{Said}
use Rattle.sdr_model.specs.declared.journal.What.{What}
use Rattle.sdr_model.specs.declared.journal.What.TheVariants as whats
use Rattle.sdr_core.proofs.StepLemmas.{step_closes}
use Rattle.sdr_core.specs.Caused.{AreCaused, EntriesAreCaused, MediaChange, RoseBy, answers_in, is_media_fault, is_short, media_faults, once, said_of, short_answers}
use Rattle.sdr_core.specs.Logging.{ClosesWithin}

number_same : (a : ℕ) → (a == a) ≡ true
number_same a = grind (arith, nat_tests)

module _ (f : Said → ℕ) where
  of_work : Work → ℕ
  of_work = λ w. sum_by f w.said

  of_entry : Entry → ℕ
  of_entry = λ e. sum_by f (said_of e.what)

  abbrev in_works : List Work → ℕ
  in_works works = sum_by (λ (w : Work). sum_by f w.said) works

  abbrev in_journal : List Entry → ℕ
  in_journal journal = sum_by (λ (e : Entry). sum_by f (said_of e.what)) journal

  -- one more is said in a transaction
  works_more : (works : List Work) (id : ℕ) (said : Said) → in_works (with_said works id said) ≡ in_works works + f said
  works_more [] id said =
      let new : Work = record { daemon = id; said = said ∷ [] } in
      omega (arith, sum_by-cons (λ (w : Work). sum_by f w.said) new [], sum_by-cons f said [])
  works_more (w ∷ works) id said = by (w.daemon == id) refl (works_more works id said)
    where
      by : (b : Bool) → (w.daemon == id) ≡ b → in_works (with_said works id said) ≡ in_works works + f said → in_works (with_said (w ∷ works) id said) ≡ in_works (w ∷ works) + f said
      by true e rest =
          let longer : Work = record w { said = w.said ++ said ∷ [] } in
          ap (λ b. in_works (if b then longer ∷ works else w ∷ with_said works id said)) e
          ∙ omega (arith, sum_by-cons (λ (w : Work). sum_by f w.said) longer works, sum_by-cons (λ (w : Work). sum_by f w.said) w works, sum_by-append f w.said (said ∷ []), sum_by-cons f said [])
      by false e rest =
          let longer : Work = record w { said = w.said ++ said ∷ [] } in
          ap (λ b. in_works (if b then longer ∷ works else w ∷ with_said works id said)) e
          ∙ omega (arith, sum_by-cons (λ (w : Work). sum_by f w.said) w (with_said works id said), sum_by-cons (λ (w : Work). sum_by f w.said) w works, rest)

  -- the transactions are a daemon's and the others
  works_parts : (works : List Work) (id : ℕ) → in_works works ≡ sum_by f (said_by works id) + in_works (without_work works id)
  works_parts [] id = omega arith
  works_parts (w ∷ works) id = by (w.daemon == id) refl (works_parts works id)
    where
      by : (b : Bool) → (w.daemon == id) ≡ b → in_works works ≡ sum_by f (said_by works id) + in_works (without_work works id)
          → in_works (w ∷ works) ≡ sum_by f (said_by (w ∷ works) id) + in_works (without_work (w ∷ works) id)
      by true e rest =
          let own : said_by (w ∷ works) id ≡ w.said ++ said_by works id =
          ap (λ b. flat_map (λ (x : Work). x.said) (cond b (w ∷ filter (λ (x : Work). x.daemon == id) works) (filter (λ (x : Work). x.daemon == id) works))) e in
          let others : without_work (w ∷ works) id ≡ without_work works id = ap (λ b. cond (not b) (w ∷ without_work works id) (without_work works id)) e in
          omega (arith, sum_by-cons (λ (w : Work). sum_by f w.said) w works, ap (λ s. sum_by f s) own, sum_by-append f w.said (said_by works id), ap (λ ws. in_works ws) others, rest)
      by false e rest =
          let own : said_by (w ∷ works) id ≡ said_by works id =
          ap (λ b. flat_map (λ (x : Work). x.said) (cond b (w ∷ filter (λ (x : Work). x.daemon == id) works) (filter (λ (x : Work). x.daemon == id) works))) e in
          let others : without_work (w ∷ works) id ≡ w ∷ without_work works id = ap (λ b. cond (not b) (w ∷ without_work works id) (without_work works id)) e in
          omega (arith, sum_by-cons (λ (w : Work). sum_by f w.said) w works, sum_by-cons (λ (w : Work). sum_by f w.said) w (without_work works id), ap (λ s. sum_by f s) own, ap (λ ws. in_works ws) others, rest)

-- the others stay where a daemon says more
others_stay : (works : List Work) (id : ℕ) (said : Said) → without_work (with_said works id said) id ≡ without_work works id
others_stay [] id said =
    let new : Work = record { daemon = id; said = said ∷ [] } in
    ap (λ b. cond (not b) (new ∷ []) []) (number_same id)
others_stay (w ∷ works) id said = by (w.daemon == id) refl (others_stay works id said)
  where
    longer : Work
    longer = record w { said = w.said ++ said ∷ [] }

    by : (b : Bool) → (w.daemon == id) ≡ b → without_work (with_said works id said) id ≡ without_work works id
        → without_work (with_said (w ∷ works) id said) id ≡ without_work (w ∷ works) id
    by true e rest =
        ap (λ b. without_work (if b then longer ∷ works else w ∷ with_said works id said) id) e
        ∙ ap (λ b. cond (not b) (longer ∷ without_work works id) (without_work works id)) e
        ∙ sym (ap (λ b. cond (not b) (w ∷ without_work works id) (without_work works id)) e)
    by false e rest =
        ap (λ b. without_work (if b then longer ∷ works else w ∷ with_said works id said) id) e
        ∙ ap (λ b. cond (not b) (w ∷ without_work (with_said works id said) id) (without_work (with_said works id said) id)) e
        ∙ ap (λ ws. w ∷ ws) rest
        ∙ sym (ap (λ b. cond (not b) (w ∷ without_work works id) (without_work works id)) e)

module _ (f : Said → ℕ) where
  -- how much is said in the entry of this, if there is one
  abbrev in_some : Option What → ℕ
  in_some o = option_map_or (λ (what : What). sum_by f (said_of what)) o 0

  -- nothing is said in the entry of a look or a leave
  none_added : (u : Under) (event : Event) (answer : Answer) → in_some (what_added u event answer) ≡ 0
  none_added u (events.Look ticket) answers.Awarded = refl
  none_added u (events.Look ticket) answers.Stalled = refl
  none_added u (events.Look ticket) answers.Waits = by u.waited
    where
      by : (b : Bool) → in_some (if b then None else Some (whats.Waits ticket)) ≡ 0
      by true = refl
      by false = refl
  none_added u (events.Look ticket) answer = refl
  none_added u (events.Leaves leave) answer = by u.left
    where
      by : (b : Bool) → in_some (if b then Some (whats.Leaves leave) else None) ≡ 0
      by true = refl
      by false = refl
  none_added u event answer = refl

  module _ (u : Under) (log : Log) (e : Made) where
    abbrev works_then : Bool → Option Close → List Work
    works_then b o = if b then log.works else option_map_or (λ (close : Close). without_work log.works e.daemon) o (with_said log.works e.daemon e.said)

    abbrev what_then : Option Close → Option What
    what_then o =
        option_map_or (λ (close : Close). Some (whats.Work (all_said log.works e.daemon e.said) close)) o (what_added u e.said.event e.said.answer)

    abbrev journal_then : Option What → List Entry
    journal_then o = log.journal ++ option_to_list (option_map (entry_of u.number e) o)

    journal_more : (o : Option What) → in_journal f (journal_then o) ≡ in_journal f log.journal + in_some o
    journal_more None = let same = ap (λ j. in_journal f j) (append-nil log.journal) in omega (arith, same)
    journal_more (Some what) =
        omega (
          arith,
          sum_by-append (λ (x : Entry). sum_by f (said_of x.what)) log.journal (entry_of u.number e what ∷ []),
          sum_by-cons (λ (x : Entry). sum_by f (said_of x.what)) (entry_of u.number e what) [],
        )

    -- an event adds no more than it says
    log_more : ClosesWithin e.said → in_works f (log_after u log e).works + in_journal f (log_after u log e).journal ≤ in_works f log.works + in_journal f log.journal + f e.said
    log_more within = by (closed_by e.said.answer) refl within
      where
        by : (o : Option Close) → closed_by e.said.answer ≡ o → MatchOption o ⊤ (λ (close : Close). was_outside e.said ≡ false)
            → in_works f (works_then (was_outside e.said) (closed_by e.said.answer)) + in_journal f (journal_then (what_then (closed_by e.said.answer)))
            ≤ in_works f log.works + in_journal f log.journal + f e.said
        by (Some close) is inside =
            let works : in_works f (works_then (was_outside e.said) (closed_by e.said.answer)) ≡ in_works f (without_work log.works e.daemon) =
            λ i. in_works f (works_then (inside i) (is i)) in
            let journal = ap (λ o. in_journal f (journal_then (what_then o))) is ∙ journal_more (Some (whats.Work (all_said log.works e.daemon e.said) close)) in
            let same = ap (λ ws. in_works f ws) (others_stay log.works e.daemon e.said) in
            omega (arith, works, journal, works_more f log.works e.daemon e.said, works_parts f (with_said log.works e.daemon e.said) e.daemon, same)
        by None is inside = outside (was_outside e.said) refl
          where
            journal : in_journal f (journal_then (what_then (closed_by e.said.answer))) ≡ in_journal f log.journal + in_some (what_added u e.said.event e.said.answer)
            journal = ap (λ o. in_journal f (journal_then (what_then o))) is ∙ journal_more (what_added u e.said.event e.said.answer)

            outside : (b : Bool) → was_outside e.said ≡ b
                → in_works f (works_then (was_outside e.said) (closed_by e.said.answer)) + in_journal f (journal_then (what_then (closed_by e.said.answer)))
                ≤ in_works f log.works + in_journal f log.journal + f e.said
            outside true out =
                let works : in_works f (works_then (was_outside e.said) (closed_by e.said.answer)) ≡ in_works f log.works = λ i. in_works f (works_then (out i) (is i)) in
                omega (arith, works, journal, none_added u e.said.event e.said.answer)
            outside false out =
                let works : in_works f (works_then (was_outside e.said) (closed_by e.said.answer)) ≡ in_works f (with_said log.works e.daemon e.said) = λ i. in_works f (works_then (out i) (is i)) in
                omega (arith, works, journal, none_added u e.said.event e.said.answer, works_more f log.works e.daemon e.said)

  -- so is it with a step of the core
  step_more : (told : Option Told) (c : Core) (e : Made) (c' : Core) → CoreStep told c e c'
      → in_works f c'.log.works + in_journal f c'.log.journal ≤ in_works f c.log.works + in_journal f c.log.journal + f e.said
  step_more told c e c' step =
      subst (λ (x : Core). in_works f x.log.works + in_journal f x.log.journal ≤ in_works f c.log.works + in_journal f c.log.journal + f e.said) (sym step.history)
      (by (daemon_of c.machine.roll e.daemon))
    where
      log_of : Option Daemon → Log
      log_of o = option_map_or (λ (d : Daemon). log_after (under c.machine.roll d step.next.roll e.said.event) c.log e) o c.log

      by : (o : Option Daemon) → in_works f (log_of o).works + in_journal f (log_of o).journal ≤ in_works f c.log.works + in_journal f c.log.journal + f e.said
      by None = omega arith
      by (Some d) = log_more (under c.machine.roll d step.next.roll e.said.event) c.log e (step_closes c.machine e step.next step.step)

  run_more : (told : Option Told) (made : List Made) (c c' : Core) → RunsCore told c made c'
      → in_works f c'.log.works + in_journal f c'.log.journal ≤ in_works f c.log.works + in_journal f c.log.journal + sum_by (λ (e : Made). f e.said) made
  run_more told [] c c' runs =
      subst (λ (x : Core). in_works f x.log.works + in_journal f x.log.journal ≤ in_works f c.log.works + in_journal f c.log.journal + 0) (sym runs) (omega arith)
  run_more told (e ∷ made) c c' runs =
      let first = step_more told c e runs.0 runs.1 in
      let rest = run_more told made runs.0 c' runs.2 in
      omega (arith, first, rest, sum_by-cons (λ (x : Made). f x.said) e made)

  -- what is said in the journal of a run is no more than was said in it
  pub run_said : (told : Option Told) (daemons : List ℕ) (first : State) (made : List Made) (core : Core) → RunsCore told (first_core daemons first) made core
      → in_journal f core.log.journal ≤ sum_by (λ (e : Made). f e.said) made
  run_said told daemons first made core runs = let all = run_more told made (first_core daemons first) core runs in omega (arith, all)

-- so often does an answer stand in the entries at most as it was given
answers_said : (told : Option Told) (daemons : List ℕ) (first : State) (is : Answer → Bool) (made : List Made) (core : Core) → RunsCore told (first_core daemons first) made core
    → answers_in is core.log.journal ≤ sum_by (λ (e : Made). once (is e.said.answer)) made
answers_said told daemons first is made core runs = run_said (λ (s : Said). once (is s.answer)) told daemons first made core runs

-- what caused the answers of a run caused those in its journal
pub entries_caused : (told : Option Told) (daemons : List ℕ) (first : State) (media : MediaChange) (made : List Made) (core : Core)
    → RunsCore told (first_core daemons first) made core → AreCaused made media → EntriesAreCaused core.log.journal media
entries_caused told daemons first media made core runs caused = record {
  told = caused.told;
  faults = fewer (media_faults made) (answers_in is_media_fault core.log.journal) media.before.faults media.after.faults
      (answers_said told daemons first is_media_fault made core runs) caused.faults;
  short = fewer (short_answers made) (answers_in is_short core.log.journal) media.before.short media.after.short
      (answers_said told daemons first is_short made core runs) caused.short;
}
  where
    fewer : (more less before now : ℕ) → less ≤ more → RoseBy more before now → RoseBy less before now
    fewer more less before now le rose = omega (arith, le, rose)
