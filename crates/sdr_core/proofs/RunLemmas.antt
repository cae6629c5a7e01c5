-- An event more of a core run.
use Rattle.std.proofs.Common.{◌≡◌, ◌∙◌, ◌≤◌, ℕ, List, [], ◌∷◌, ◌++◌, Bool, true, false, Option, None, Some, refl, sym, ap, subst, arith, IsSome}
use Rattle.std.specs.Option.{option_map_or}
use Rattle.std.specs.Prelude.{if◌then◌else◌}
use Rattle.sdr_base.specs.Media.{Told}
use Rattle.sdr_base.specs.declared.moves.Move.{Move}
use Rattle.sdr_model.specs.declared.event.Event.{Event}
use Rattle.sdr_machine.specs.Core.{AreInTime, Core, CoreStep, Log, RunsCore, first_core, log_after, under}
use Rattle.sdr_machine.specs.Crash.{LeavesOr, commits_by}
use Rattle.sdr_machine.specs.Transaction.{bytes_given}
use Rattle.sdr_machine.proofs.StepLemmas.{step_is}
use Rattle.sdr_core.proofs.LeaveLemmas.{leave_quiet}
use Rattle.sdr_model.specs.declared.answer.Answer.{Answer}
use Rattle.sdr_model.specs.declared.answer.Answer.TheVariants as answers
use Rattle.sdr_model.specs.declared.answer.Reply.TheVariants as replies
use Rattle.sdr_model.specs.declared.event.Event.TheVariants as events
use Rattle.sdr_model.specs.declared.event.Leave.{Leave}
use Rattle.sdr_machine.specs.Machine.{Made, MachineStep}
use Rattle.sdr_machine.specs.Legal.{IsLegal}
use Rattle.sdr_machine.specs.Roll.{daemon_of, first_roll}
use Rattle.sdr_machine.specs.Serving.{Acts, Asks, Locked, IsInState, machine_at, made_by, made_with}
use Rattle.sdr_machine.specs.Standing.{GroundState, standing_at}
use Rattle.law_runs.proofs.RunLemmas.{run_is_legal}
use Rattle.sdr_machine.specs.declared.came.Came.{Came}
use Rattle.sdr_machine.specs.declared.daemon.Daemon.{Daemon}
use Rattle.sdr_machine.specs.declared.has_ground.HasGround.{Ghosts}
use Rattle.sdr_core.proofs.CausedLemmas.{answer_caused, caused_more}
use Rattle.sdr_core.specs.Caused.{media_on}
use Rattle.sdr_core.specs.CoreKept.{first_media, RunStart, BeginsOn, LoggedLock, KeepsRun, MakesCoreStep, HasState, StepsCore, core_at, last_done}

-- a run and one event more
runs_more : (told : Option Told) (c mid c' : Core) (made : List Made) (e : Made) → RunsCore told c made mid → CoreStep told mid e c' → RunsCore told c (made ++ e ∷ []) c'
runs_more told c mid c' [] e runs step = (c', subst (λ x. CoreStep told x e c') runs step, refl)
runs_more told c mid c' (first ∷ made) e runs step = (runs.0, runs.1, runs_more told runs.0 mid c' made e runs.2 step)

in_time_more : (moment : ℕ) (made : List Made) (e : Made) → AreInTime moment made → last_done moment made ≤ e.begun → e.begun ≤ e.done → AreInTime moment (made ++ e ∷ [])
in_time_more moment [] e in_time later done = (later, done, tt)
in_time_more moment (first ∷ made) e in_time later done = (in_time.0, in_time.1, in_time_more first.done made e in_time.2 later done)

last_done-more : (moment : ℕ) (made : List Made) (e : Made) → last_done moment (made ++ e ∷ []) ≡ e.done
last_done-more moment [] e = refl
last_done-more moment (first ∷ made) e = last_done-more first.done made e

-- where a call was made, its moves and its bytes are the ground's
pub made_known : (daemon : ℕ) (event : Event) (a : Came) (begun done line : ℕ) (moves : List Move) (shown : List ℕ) (v : GroundState)
    → (a.called ≡ true → (moves ≡ v.moves) × (shown ≡ v.now.world.shown)) → made_with daemon event a begun done line moves shown ≡ made_by daemon event a begun done line v
made_known daemon event a begun done line moves shown v known = by a.called known
  where
    by : (called : Bool) → (called ≡ true → (moves ≡ v.moves) × (shown ≡ v.now.world.shown))
        → made_with daemon event (record { answer = a.answer; called = called }) begun done line moves shown ≡ made_by daemon event (record { answer = a.answer; called = called }) begun done line v
    by true known = λ i. made_with daemon event (record { answer = a.answer; called = true }) begun done line ((known refl).0 i) ((known refl).1 i)
    by false known = refl

-- where no moves and no bytes were made, nothing is the ground's
pub made_quiet : (daemon : ℕ) (event : Event) (a : Came) (begun done line : ℕ) (v : GroundState)
    → (made_by daemon event a begun done line v).said.moves ≡ [] → (made_by daemon event a begun done line v).said.bytes ≡ []
    → made_with daemon event a begun done line [] [] ≡ made_by daemon event a begun done line v
made_quiet daemon event a begun done line v moves bytes =
    λ i. record {
      daemon = daemon;
      said = record { line = line; event = event; answer = a.answer; bytes = (no_bytes a.called ∙ sym bytes) i; moves = (no_moves a.called ∙ sym moves) i };
      begun = begun;
      done = done;
    }
  where
    none : List Move
    none = []

    no_moves : (b : Bool) → (if b then none else none) ≡ none
    no_moves true = refl
    no_moves false = refl

    given : (answer : Answer) → bytes_given answer [] ≡ []
    given (answers.Reply (replies.Refused refusal)) = refl
    given (answers.Reply replies.MediaFault) = refl
    given answer = refl

    no_bytes : (b : Bool) → (if b then bytes_given a.answer [] else []) ≡ []
    no_bytes true = given a.answer
    no_bytes false = refl

module _ {T : Type 0} (g : Ghosts T) (daemon : ℕ) (event : Event) (a : Came) (line : ℕ) (old new : Locked T) (log log' : Log)
    (acts : Acts g (commits_by old.roll daemon event) MachineStep daemon event a old new) where
  -- the event as the ground tells of it
  abbrev told_by : GroundState → Made
  told_by v = made_by daemon event a (g.moment old.base) (g.moment new.base) line v

  -- an event that the lock has made is a step of the core
  steps_core : ((v : GroundState) (stood : IsInState g.stands old v) → let s = acts.leads.each v stood in
      log' ≡ option_map_or (λ (d : Daemon). log_after (under old.roll d new.roll event) log (told_by s.for)) (daemon_of old.roll daemon) log)
      → StepsCore g daemon line event a (record { lock = old; log = log }) (record { lock = new; log = log' })
  steps_core kept = record {
    each = λ v stood.
        let s = acts.leads.each v stood in record {
          for = s.for;
          stood = s.stood;
          tells = record {
            next = machine_at new.roll s.for;
            step = s.tells.step line;
            media = s.tells.media;
            history = ap (λ (l : Log). let k : LoggedLock T = record { lock = new; log = l } in core_at k s.for) (kept v stood);
          };
        };
  }

  -- it is made of a lock that stands for something
  pub makes : HasState g.stands old → StepsCore g daemon line event a (record { lock = old; log = log }) (record { lock = new; log = log' })
      → MakesCoreStep g daemon line event a old log new log'
  makes stands step =
      let s = acts.leads.each stands.for stands.stood in
      record {
        step = step;
        asks = acts.asks;
        media = acts.media;
        called = s.tells.sound;
        drawn = (step_is (machine_at old.roll stands.for) (told_by s.for) (machine_at new.roll s.for) (s.tells.step line)).drawn;
      }

  -- of a daemon that isn't the lock's nothing is kept
  pub steps_unknown : daemon_of old.roll daemon ≡ None → log' ≡ log → StepsCore g daemon line event a (record { lock = old; log = log }) (record { lock = new; log = log' })
  steps_unknown none same =
      steps_core (λ v stood. same ∙ sym (ap (λ o. option_map_or (λ (d : Daemon). log_after (under old.roll d new.roll event) log (told_by (acts.leads.each v stood).for)) o log) none))

  -- of another what is noted
  pub steps_known : (d : Daemon) (moves : List Move) (shown : List ℕ) → daemon_of old.roll daemon ≡ Some d
      → (a.called ≡ true → (v : GroundState) → g.stands new.base v → (moves ≡ v.moves) × (shown ≡ v.now.world.shown))
      → log' ≡ log_after (under old.roll d new.roll event) log (made_with daemon event a (g.moment old.base) (g.moment new.base) line moves shown)
      → StepsCore g daemon line event a (record { lock = old; log = log }) (record { lock = new; log = log' })
  steps_known d moves shown found known is =
      steps_core (λ v stood. let s = acts.leads.each v stood in
      is
      ∙ ap (log_after (under old.roll d new.roll event) log)
      (made_known daemon event a (g.moment old.base) (g.moment new.base) line moves shown s.for (λ called. known called s.for (s.stood (s.tells.sound called))))
      ∙ sym (ap (λ o. option_map_or (λ (d : Daemon). log_after (under old.roll d new.roll event) log (told_by s.for)) o log) found))

  -- of a leave that it was made with no call
  pub steps_leave : (leave : Leave) (d : Daemon) → event ≡ events.Leaves leave → daemon_of old.roll daemon ≡ Some d
      → log' ≡ log_after (under old.roll d new.roll event) log (made_with daemon event a (g.moment old.base) (g.moment new.base) line [] [])
      → StepsCore g daemon line event a (record { lock = old; log = log }) (record { lock = new; log = log' })
  steps_leave leave d leaves found is =
      steps_core (λ v stood.
      let s = acts.leads.each v stood in
      let quiet = leave_quiet (machine_at old.roll v) (told_by s.for) (machine_at new.roll s.for) leave leaves (s.tells.step line) in
      is
      ∙ ap (log_after (under old.roll d new.roll event) log)
      (made_quiet daemon event a (g.moment old.base) (g.moment new.base) line s.for quiet.0 quiet.1)
      ∙ sym (ap (λ o. option_map_or (λ (d : Daemon). log_after (under old.roll d new.roll event) log (told_by s.for)) o log) found))

-- the disk's moment doesn't fall
later_either : {T : Type 0} (g : Ghosts T) (keeps : Bool) (old new : T) (v : GroundState) → g.stands old v → LeavesOr keeps g old new → g.moment old ≤ g.moment new
later_either g true old new v stands leaves = (leaves.each v stands).later
later_either g false old new v stands leaves = (leaves.each v stands).later

pub later : {T : Type 0} (g : Ghosts T) (keeps : Bool) (a : Came) (old new : Locked T) (v : GroundState) → (old.roll.failed ≡ None → g.stands old.base v) → Asks g keeps a old new → g.moment old.base ≤ g.moment new.base
later g keeps a old new v stood asks = by old.roll.failed refl
  where
    by : (o : Option ℕ) → old.roll.failed ≡ o → g.moment old.base ≤ g.moment new.base
    by None sound = later_either g keeps old.base new.base v (stood sound) asks.any_moment
    by (Some moment) broken = let same = ap g.moment (asks.failed (subst IsSome (sym broken) refl)) in omega arith

-- after such a step what is kept is of a run still
pub keeps_after : {T : Type 0} (g : Ghosts T) (b : RunStart) (keeps : Bool) (daemon line : ℕ) (event : Event) (a : Came) (old new : LoggedLock T)
    → StepsCore g daemon line event a old new → Asks g keeps a old.lock new.lock → KeepsRun g b old → KeepsRun g b new
keeps_after g b keeps daemon line event a old new steps asks run =
    let s = steps.each run.for run.stood in
    let e : Made = made_by daemon event a (g.moment old.lock.base) (g.moment new.lock.base) line s.for in
    record {
      made = run.made ++ e ∷ [];
      for = s.for;
      runs = runs_more b.told (first_core b.daemons b.first) (core_at old run.for) (core_at new s.for) run.made e run.runs
          (subst (λ told. CoreStep told (core_at old run.for) e (core_at new s.for)) run.media s.tells);
      stood = s.stood;
      rests = run.rests;
      media = asks.kept.media ∙ run.media;
      in_time = in_time_more b.start run.made e run.in_time run.done (later g keeps a old.lock new.lock run.for run.stood asks);
      done = let is = last_done-more b.start run.made e in omega arith;
      caused =
          caused_more run.made e (first_media b) (media_on g old.lock.base) (media_on g new.lock.base) run.caused
          (answer_caused g old.lock.base new.lock.base a.answer asks.kept.media asks.kept.lapses asks.gap);
    }

-- before any event
pub keeps_first : {T : Type 0} (g : Ghosts T) (b : RunStart) (daemons : List ℕ) (base : T) → BeginsOn g b daemons base
    → KeepsRun g b (record { lock = record { roll = first_roll daemons; base = base }; log = record { works = []; journal = [] } })
keeps_first g b daemons base begins =
    record {
      made = [];
      for = standing_at b.first begins.moves;
      runs = ap (λ ds. first_core ds b.first) begins.daemons_are;
      stood = λ sound. begins.stands;
      rests = begins.rests;
      media = begins.told;
      in_time = tt;
      done = begins.later;
      caused = record { told = begins.told; faults = omega (arith, begins.lapses.faults); short = omega (arith, begins.lapses.short) };
    }

-- as a core is made
pub keeps_new : {T : Type 0} (g : Ghosts T) (b : RunStart) (daemons : List ℕ) (base : T) (lock : Locked T) (log : Log) → lock ≡ record { roll = first_roll daemons; base = base }
    → log ≡ record { works = []; journal = [] } → BeginsOn g b daemons base → KeepsRun g b (record { lock = lock; log = log })
keeps_new g b daemons base lock log made none begins =
    let kept : record { lock = record { roll = first_roll daemons; base = base }; log = record { works = []; journal = [] } } ≡ record { lock = lock; log = log } =
    λ i. record { lock = sym made i; log = sym none i } in
    subst (KeepsRun g b) kept (keeps_first g b daemons base begins)

-- the journal that is kept is legal
pub keeps_legal : {T : Type 0} (g : Ghosts T) (b : RunStart) (k : LoggedLock T) → KeepsRun g b k → IsLegal b.told b.daemons b.first k.log.journal
keeps_legal g b k run = run_is_legal b.told b.daemons b.first b.start run.made (core_at k run.for) run.rests run.in_time run.runs
