-- What holds of a core after an event.
use Rattle.std.proofs.Common.{◌≡◌, ◌≤◌, ◌*◌, ℕ, List, [], ◌∷◌, true≢false, not, map, None, Result, Ok, Err, IfOk, OnErr, length, refl, sym, ap, subst, arith}
use Rattle.std.proofs.lemmas.List.{length-map}
use Rattle.std.specs.declared.alloc.AllocError.{AllocError}
use Rattle.sdr_machine.specs.Crash.{commits_by, is_sound}
use Rattle.sdr_machine.specs.Machine.{MachineStep}
use Rattle.sdr_machine.specs.Serving.{Acts, Locked, machine_at}
use Rattle.sdr_machine.specs.declared.came.Came.{Came}
use Rattle.sdr_machine.specs.declared.daemon.Daemon.{Daemon}
use Rattle.sdr_machine.specs.declared.has_ground.HasGround.{Ghosts}
use Rattle.sdr_model.specs.declared.event.Event.{Event}
use Rattle.sdr_machine.specs.Core.{Log, is_failed}
use Rattle.sdr_machine.specs.Holders.{HoldFirst}
use Rattle.law_runs.proofs.RunLemmas.{run_keeps}
use Rattle.sdr_core.proofs.FailedLemmas.{answers_failed}
use Rattle.sdr_core.proofs.HoldingLemmas.{HaveSpoken, as_many, first_after, spoken_kept}
use Rattle.sdr_core.proofs.LeaveLemmas.{ahead_most, unknown_same}
use Rattle.sdr_core.proofs.RunLemmas.{keeps_after, keeps_new, makes, steps_unknown}
use Rattle.sdr_core.proofs.SafeLemmas.{machine_step, safe_after, safe_new}
use Rattle.sdr_core.specs.CoreFacts.{IsCore}
use Rattle.sdr_machine.specs.Roll.{daemon_of, first_roll, newcomer}
use Rattle.sdr_core.specs.CoreKept.{RunStart, BeginsOn, LoggedLock, KeepsRun, KeepsSafe, MakesCoreStep, HasState, core_at}
use Rattle.sdr_core.specs.Keeping.{AreApart, works_of}
use Rattle.sdr_core.specs.Logging.{HasRoomFor, leaves_ahead, log_of}
use Rattle.sdr_core.specs.declared.keeper.Keeper.{Keeper}

module _ {T : Type 0} (g : Ghosts T) (b : RunStart) (lock : Locked T) (keeper : Keeper) (is : IsCore g b lock keeper) where
  abbrev pub was : LoggedLock T
  was = record { lock = lock; log = log_of keeper }

  -- the lock stands for something, and what daemons have said is kept
  pub core_stands : HasState g.stands lock
  core_stands = record { for = is.run.for; stood = is.run.stood; tells = tt }

  pub core_spoken : HaveSpoken lock.roll keeper.works.items
  core_spoken =
      spoken_kept b.told b.daemons b.first (core_at was is.run.for) keeper.works.items
      (run_keeps b.told b.daemons b.first is.run.made (core_at was is.run.for) is.run.runs) refl

  -- where an event found no memory, the log is as before
  pub core_same : (keeper' : Keeper) → log_of keeper' ≡ log_of keeper → ((n : ℕ) → HasRoomFor n keeper → HasRoomFor n keeper') → IsCore g b lock keeper'
  core_same keeper' same stays = record {
    run = subst (λ (log : Log). let k : LoggedLock T = record { lock = lock; log = log } in KeepsRun g b k) (sym same) is.run;
    safe = subst (λ (log : Log). KeepsSafe g b log.journal lock.roll.failed lock.base) (sym same) is.safe;
    apart = subst (λ (log : Log). AreApart log.works) (sym same) is.apart;
    room = stays (leaves_ahead lock.roll.daemons) is.room;
    few = is.few;
    first = is.first;
  }

  -- an event is answered `Failed` just where the journal tells of a disk that failed
  pub core_failed : (k k' : LoggedLock T) → was ≡ k → (daemon line : ℕ) (event : Event) (a : Came) → MakesCoreStep g daemon line event a k.lock k.log k'.lock k'.log
      → is_failed a.answer ≡ not (is_sound k.log.journal)
  core_failed k k' view daemon line event a makes =
      answers_failed g b daemon line event a k k' (subst (KeepsRun g b) view is.run)
      (subst (λ (k : LoggedLock T). KeepsSafe g b k.log.journal k.lock.roll.failed k.lock.base) view is.safe) makes.step

  module _ (lock' : Locked T) (daemon line : ℕ) (event : Event) where
    -- after an event there are as many daemons, and room for their leaves
    pub core_after : (keeper' : Keeper) (a : Came) → MakesCoreStep g daemon line event a lock (log_of keeper) lock' (log_of keeper')
        → (length lock'.roll.daemons ≡ length lock.roll.daemons → HasRoomFor (leaves_ahead lock'.roll.daemons) keeper')
        → AreApart (works_of keeper'.works.items) → IsCore g b lock' keeper'
    core_after keeper' a makes room apart =
        let new : LoggedLock T = record { lock = lock'; log = log_of keeper' } in
        let run : KeepsRun g b new = keeps_after g b (commits_by lock.roll daemon event) daemon line event a was new makes.step makes.asks is.run in
        let many : length lock'.roll.daemons ≡ length lock.roll.daemons =
        as_many b.told b.daemons b.first (core_at was is.run.for) (core_at new run.for)
        (run_keeps b.told b.daemons b.first is.run.made (core_at was is.run.for) is.run.runs)
        (run_keeps b.told b.daemons b.first run.made (core_at new run.for) run.runs) in
        record {
          run = run;
          safe = safe_after g b was new daemon line event a is.run is.safe makes.step makes.asks makes.called;
          apart = apart;
          room = room many;
          few = let few = is.few in omega (arith, many);
          first = first_after _ _ _ (machine_step g b was new daemon line event a is.run is.safe makes.step makes.asks makes.called) is.first;
        }

    -- of a daemon that isn't the lock's nothing is noted
    module _ (none : daemon_of lock.roll daemon ≡ None) where
      pub unknown_makes : (a : Came) → Acts g (commits_by lock.roll daemon event) MachineStep daemon event a lock lock'
          → MakesCoreStep g daemon line event a lock (log_of keeper) lock' (log_of keeper)
      unknown_makes a acts =
          makes g daemon event a line lock lock' (log_of keeper) (log_of keeper) acts core_stands
          (steps_unknown g daemon event a line lock lock' (log_of keeper) (log_of keeper) acts none refl)

      pub core_unknown : (r : Result Came AllocError) → IfOk r (λ a. Acts g (commits_by lock.roll daemon event) MachineStep daemon event a lock lock')
          → OnErr r (lock' ≡ lock) → IsCore g b lock' keeper
      core_unknown (Ok a) acts same =
          let s = acts.leads.each is.run.for is.run.stood in
          let ds = unknown_same (machine_at lock.roll is.run.for) _ (machine_at lock'.roll s.for) none (s.tells.step line) in
          core_after keeper a (unknown_makes a acts) (λ _. subst (λ (ds : List Daemon). HasRoomFor (leaves_ahead ds) keeper) (sym ds) is.room) is.apart
      core_unknown (Err why) acts same = subst (λ (l : Locked T). IsCore g b l keeper) (sym same) is

-- room for two entries of each of as many daemons is room for all their leaves
pub room_for_all : {n : ℕ} (ds : List Daemon) (keeper : Keeper) → length ds ≡ n → HasRoomFor (2 * n) keeper → HasRoomFor (leaves_ahead ds) keeper
room_for_all ds keeper many room =
    let most = ahead_most ds in let two = room.journal in record { journal = omega (arith, many); said = room.said }

-- nobody holds a number before any event
pub first_new : (before ids : List ℕ) → HoldFirst before (map newcomer ids)
first_new before [] = tt
first_new before (id ∷ ids) = (λ some. absurd (true≢false (sym some)), first_new (id ∷ before) ids)

-- a core before any event
pub core_new : {T : Type 0} (g : Ghosts T) (b : RunStart) (daemons : List ℕ) (base : T) (lock : Locked T) (keeper : Keeper)
    → lock ≡ record { roll = first_roll daemons; base = base } → log_of keeper ≡ record { works = []; journal = [] } → HasRoomFor (2 * length daemons) keeper
    → length daemons ≤ 256 → BeginsOn g b daemons base → IsCore g b lock keeper
core_new {T} g b daemons base lock keeper made none room few begins =
    let many = length-map daemons newcomer in
    let most = ahead_most (map newcomer daemons) in
    let journal = room.journal in
    record {
      run = keeps_new g b daemons base lock (log_of keeper) made none begins;
      safe = safe_new g b daemons base lock (log_of keeper).journal made (ap (λ (log : Log). log.journal) none) begins;
      apart = subst AreApart (sym (ap (λ (log : Log). log.works) none)) tt;
      room =
          subst (λ (l : Locked T). HasRoomFor (leaves_ahead l.roll.daemons) keeper) (sym made)
          (record { journal = omega (arith, many); said = room.said });
      few = subst (λ (l : Locked T). length l.roll.daemons ≤ 256) (sym made) (omega (arith, many));
      first = subst (λ (l : Locked T). HoldFirst [] l.roll.daemons) (sym made) (first_new [] daemons);
    }
