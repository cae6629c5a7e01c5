-- An event of a run, and how a journal grows by a turn.
use Rattle.std.proofs.Common.{◌≡◌, ◌∙◌, ◌<◌, ◌≤◌, ◌==◌, ◌&&◌, ◌||◌, ℕ, List, [], ◌∷◌, ◌++◌, suc, Bool, true, false, true≢false, not, Some, arith, refl, sym, ap, subst, append-nil, cond}
use Rattle.std.proofs.lemmas.Bool.Decides.{nat_tests}
use Rattle.std.proofs.lemmas.List.Folds.{list_any-append}
use Rattle.std.specs.List.{list_all, list_any, filter}
use Rattle.std.specs.Prelude.{All, nat_lt}
use Rattle.law_runs.proofs.CoreLemmas.{KeepsCore}
use Rattle.sdr_machine.proofs.RollLemmas.{among, number_same, put_here, put_later}
use Rattle.law_runs.proofs.RunLemmas.{run_drawn, run_keeps}
use Rattle.sdr_core.proofs.RunLemmas.{keeps_after}
use Rattle.sdr_core.specs.CoreKept.{RunStart, LoggedLock, MakesCoreStep, core_at, KeepsRun}
use Rattle.sdr_machine.specs.Core.{CoreStep}
use Rattle.sdr_machine.specs.Crash.{is_sound, commits_by}
use Rattle.sdr_machine.specs.Legal.{is_fault}
use Rattle.sdr_machine.specs.Machine.{Made}
use Rattle.sdr_machine.specs.Roll.{put_daemon}
use Rattle.sdr_machine.specs.Serving.{made_by}
use Rattle.sdr_machine.specs.Standing.{GroundState}
use Rattle.sdr_machine.specs.declared.came.Came.{Came}
use Rattle.sdr_machine.specs.declared.daemon.Daemon.{Daemon}
use Rattle.sdr_machine.specs.declared.has_ground.HasGround.{Ghosts}
use Rattle.sdr_model.specs.declared.event.Event.TheVariants as events
use Rattle.sdr_model.specs.declared.event.Event.{Event}
use Rattle.sdr_model.specs.declared.journal.Entry.{Entry}
use Rattle.sdr_model.specs.declared.script.ScriptStep.{ScriptStep}
use Rattle.sdr_words.specs.Bindings.{Binding, event_of, given_of}
use Rattle.sdr_words.specs.Events.{event_by}
use Rattle.sdr_words.specs.Verbs.{verb_at}
use Rattle.sdr_words.specs.declared.given.Given.{Given}
use Rattle.sdr_words.specs.declared.verb.Verb.TheVariants as verbs
use Rattle.sdr_words.specs.declared.verb.Verb.{Verb}
use Rattle.sdr_daemon.proofs.ScriptLemmas.{entries_own, refused_later}
use Rattle.sdr_daemon.specs.Progressing.{WasLookRefused}
use Rattle.sdr_daemon.specs.Scripts.{IsLookRefused}
use Rattle.sdr_daemon.specs.TakingTurns.{AddsAtMostOne}
use Rattle.sdr_daemon.specs.TurnEvents.{BeforeTurn}
use Rattle.sdr_daemon.specs.Turns.{entries_by}

-- whether the event may be a statement's
abbrev pub is_statement : Event → Bool
is_statement events.Request = false
is_statement (events.Leaves leave) = false
is_statement event = true

-- no verb makes a request or a leave
verb_states : (verb : Verb) (given : Given) → is_statement (event_by verb given) ≡ true
verb_states verbs.Begin given = refl
verb_states verb given = refl

pub step_states : (names : List Binding) (step : ScriptStep) → is_statement (event_of names step) ≡ true
step_states names step = verb_states (verb_at step.verb) (given_of names step.daemon step.args)

-- An event of a run: it is a step of the core that the lock stood for.
pub record IsStep {T : Type 0} (g : Ghosts T) (b : RunStart) (daemon line : ℕ) (event : Event) (a : Came) (old new : LoggedLock T) : Type 0 where
  pub v : GroundState
  pub v' : GroundState
  pub step : CoreStep b.told (core_at old v) (made_by daemon event a (g.moment old.lock.base) (g.moment new.lock.base) line v') (core_at new v')
  pub keeps : KeepsCore b.told b.daemons b.first (core_at old v)
  pub drawn : All (λ (e : Entry). e.number ≤ old.lock.roll.drawn) old.log.journal
  pub run : KeepsRun g b new

pub is_step : {T : Type 0} (g : Ghosts T) (b : RunStart) (daemon line : ℕ) (event : Event) (a : Came) (old new : LoggedLock T) → KeepsRun g b old
    → MakesCoreStep g daemon line event a old.lock old.log new.lock new.log → IsStep g b daemon line event a old new
is_step g b daemon line event a old new run makes =
    let s = makes.step.each run.for run.stood in
    let e : Made = made_by daemon event a (g.moment old.lock.base) (g.moment new.lock.base) line s.for in
    let step : CoreStep b.told (core_at old run.for) e (core_at new s.for) = subst (λ told. CoreStep told (core_at old run.for) e (core_at new s.for)) run.media s.tells in
    record {
      v = run.for;
      v' = s.for;
      step = step;
      keeps = run_keeps b.told b.daemons b.first run.made (core_at old run.for) run.runs;
      drawn = run_drawn b.told b.daemons b.first run.made (core_at old run.for) run.runs;
      run = keeps_after g b (commits_by old.lock.roll daemon event) daemon line event a old new makes.step makes.asks run;
    }

-- what was refused stays so behind a turn
pub refused_grows : (b : RunStart) (o : BeforeTurn) (entries journal : List Entry) (drawn : ℕ) → AddsAtMostOne o entries → journal ≡ o.journal ++ entries → o.roll.drawn ≤ drawn
    → (n ticket : ℕ) → WasLookRefused b o.roll.drawn o.journal n ticket → WasLookRefused b drawn journal n ticket
refused_grows b o entries journal drawn (AddsAtMostOne.none none) grows more n ticket was =
    let by = was.drawn_by in
    let same : o.journal ≡ journal = sym (grows ∙ ap (λ l. o.journal ++ l) none ∙ append-nil o.journal) in
    record { drawn_by = omega arith; refused_at = subst (λ l. IsLookRefused b.told b.daemons b.first l n ticket) same was.refused_at }
refused_grows b o entries journal drawn (AddsAtMostOne.one e one number own) grows more n ticket was =
    let by = was.drawn_by in
    record {
      drawn_by = omega arith;
      refused_at =
          subst (λ l. IsLookRefused b.told b.daemons b.first l n ticket) (sym (grows ∙ ap (λ l. o.journal ++ l) one))
          (refused_later b.told b.daemons b.first o.journal e n ticket (omega (arith, number, by)) was.refused_at);
    }

-- where the disk has failed in an entry, it is one of a lower number than the next
pub unsound_below : (journal : List Entry) (drawn number : ℕ) → drawn < number → All (λ (e : Entry). e.number ≤ drawn) journal → is_sound journal ≡ false
    → list_any (λ (e : Entry). is_fault e.what && nat_lt e.number number) journal ≡ true
unsound_below [] drawn number above all broken = absurd (true≢false broken)
unsound_below (e ∷ journal) drawn number above all broken =
    by (is_fault e.what) refl (unsound_below journal drawn number above (λ k d within. all (suc k) d (omega (arith, within))))
  where
    P : Entry → Bool
    P x = is_fault x.what && nat_lt x.number number

    by : (b : Bool) → is_fault e.what ≡ b → (is_sound journal ≡ false → list_any P journal ≡ true) → list_any P (e ∷ journal) ≡ true
    by true is rest =
        let first : e.number ≤ drawn = all 0 e (omega arith) in
        let low : nat_lt e.number number ≡ true = grind (arith, nat_tests) in
        (λ i. (is i && low i) || list_any P journal)
    by false is rest =
        ap (λ c. (c && nat_lt e.number number) || list_any P journal) is ∙ rest (ap (λ c. not c && is_sound journal) (sym is) ∙ broken)

pub any_more : (P : Entry → Bool) (journal : List Entry) (e : Entry) → list_any P journal ≡ true → list_any P (journal ++ e ∷ []) ≡ true
any_more P journal e is = list_any-append P journal (e ∷ []) ∙ ap (λ b. b || list_any P (e ∷ [])) is

-- a daemon is put in its own place
pub put_same : (ds : List Daemon) (d : Daemon) → among d.id ds ≡ Some d → put_daemon ds d ≡ ds
put_same [] d found = refl
put_same (y ∷ ds) d found = by (y.id == d.id) refl found (put_same ds d)
  where
    by : (b : Bool) → (y.id == d.id) ≡ b → cond b (Some y) (among d.id ds) ≡ Some d → (among d.id ds ≡ Some d → put_daemon ds d ≡ ds) → put_daemon (y ∷ ds) d ≡ y ∷ ds
    by true e found rest = let same : d ≡ y = cc in put_here y ds d e ∙ ap (λ z. z ∷ ds) same
    by false e found rest = put_later y ds d e ∙ ap (λ xs. y ∷ xs) (rest found)

-- a daemon's entries grow by those of its turn
pub grown : (o : BeforeTurn) (entries journal : List Entry) (id : ℕ) → o.daemon.id ≡ id → AddsAtMostOne o entries → journal ≡ o.journal ++ entries
    → entries_by id journal ≡ entries_by id o.journal ++ entries
grown o entries journal id is (AddsAtMostOne.none none) grows =
    ap (entries_by id) (grows ∙ ap (λ l. o.journal ++ l) none ∙ append-nil o.journal) ∙ sym (ap (λ l. entries_by id o.journal ++ l) none ∙ append-nil (entries_by id o.journal))
grown o entries journal id is (AddsAtMostOne.one e one number own) grows =
    ap (entries_by id) (grows ∙ ap (λ l. o.journal ++ l) one) ∙ entries_own o.journal e id (number_same e.daemon id (own ∙ is))
    ∙ sym (ap (λ l. entries_by id o.journal ++ l) one)

-- no entry has a number above those that are drawn
pub unused : (journal : List Entry) (drawn number : ℕ) → drawn < number → All (λ (e : Entry). e.number ≤ drawn) journal
    → (list_all (λ (e : Entry). not (e.number == number)) journal ≡ true) × (filter (λ (e : Entry). nat_lt e.number number) journal ≡ journal)
unused [] drawn number above all = (refl, refl)
unused (e ∷ journal) drawn number above all =
    let rest = unused journal drawn number above (λ k d within. all (suc k) d (omega (arith, within))) in
    let first : e.number ≤ drawn = all 0 e (omega arith) in
    let apart : not (e.number == number) ≡ true = grind (arith, nat_tests) in
    let low : nat_lt e.number number ≡ true = grind (arith, nat_tests) in
    ((λ i. apart i && rest.0 i), (λ i. cond (low i) (e ∷ rest.1 i) (rest.1 i)))
