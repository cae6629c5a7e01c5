-- What the type of a core keeps.
use Rattle.std.specs.Prelude.{◌≡◌, ◌≤◌, ◌<◌, ◌+◌, ℕ, List, [], ◌∷◌, Option, None, false, true, is_none, length, ⊤}
use Rattle.std.specs.List.{AllByRecursion}
use Rattle.sdr_base.specs.Causes.{Rose}
use Rattle.sdr_base.specs.Media.{Told}
use Rattle.sdr_machine.specs.Core.{AreInTime, Core, CoreStep, Log, RunsCore, first_core}
use Rattle.sdr_machine.specs.Crash.{IsCrashSafe, OpensAfter, done_by, is_sound, commits_by}
use Rattle.sdr_machine.specs.Ground.{Ground, State, resting}
use Rattle.sdr_machine.specs.Machine.{Made}
use Rattle.sdr_machine.specs.Lapses.{Lapses, LapsesLast, no_lapses}
use Rattle.sdr_machine.specs.Legal.{IsAfter, IsLegal}
use Rattle.sdr_machine.specs.Serving.{Asks, EventAsks, LeadsLock, Locked, SomeState, IsInState, IsInSomeState, machine_at, made_by}
use Rattle.sdr_machine.specs.Standing.{GroundState}
use Rattle.sdr_machine.specs.declared.came.Came.{Came}
use Rattle.sdr_machine.specs.declared.has_ground.HasGround.{Ghosts}
use Rattle.sdr_model.specs.World.{fresh_world}
use Rattle.sdr_model.specs.declared.event.Event.{Event}
use Rattle.sdr_model.specs.declared.journal.Entry.{Entry}
use Rattle.sdr_base.specs.declared.moves.Move.{Move}
use Rattle.sdr_core.specs.Caused.{AreCaused, EntriesAreCaused, SeenMedia, from_to, media_on}
use Rattle.sdr_machine.specs.Standing.{standing_at}

-- a lock, and the log of its run
pub record LoggedLock (T : Type 0) : Type 0 where
  pub lock : Locked T
  pub log : Log

-- the core of a lock that stands for this, with this log
abbrev pub core_at : {T : Type 0} → LoggedLock T → GroundState → Core
core_at k v = record { machine = machine_at k.lock.roll v; log = k.log }

-- what a run begins from: what media tell, the daemons, the first state, the disk's first moment, its count of faults then, and how often
-- media had failed and given too few bytes
pub record RunStart : Type 0 where
  pub told : Option Told
  pub daemons : List ℕ
  pub first : State
  pub start : ℕ
  pub faults : ℕ
  pub lapses : Lapses

-- what media showed as the run began
abbrev pub first_media : RunStart → SeenMedia
first_media b = record { told = b.told; faults = b.lapses.faults; short = b.lapses.short }

-- without a heap, a thing or a daemon
abbrev pub bare_begins : RunStart
bare_begins = record { told = None; daemons = []; first = resting (fresh_world 0) Ground.NoHeap; start = 0; faults = 0; lapses = no_lapses }

-- The ground is where the run begins: no transaction is open on it, it stands for the first state, and at each moment since the
-- first a crash left what opens to that state.
pub record BeginsOn {T : Type 0} (g : Ghosts T) (b : RunStart) (daemons : List ℕ) (base : T) : Type 0 where
  pub told : g.told base ≡ b.told
  pub daemons_are : daemons ≡ b.daemons
  pub idle : g.idle base
  pub later : b.start ≤ g.moment base
  pub faults : b.faults ≤ g.faults base
  pub lapses : LapsesLast b.lapses (g.lapses base)
  pub rests : b.first ≡ resting b.first.world b.first.base
  pub moves : List Move
  pub stands : g.stands base (standing_at b.first moves)
  pub opening : (m : ℕ) (image : List ℕ) → b.start ≤ m → m ≤ g.moment base → g.left base m image → g.opens image b.first

-- the moment at which the last of these events was done, from this one on
abbrev pub last_done : ℕ → List Made → ℕ
last_done moment [] = moment
last_done moment (e ∷ made) = last_done e.done made

-- Some events of these daemons were made one after another from the first state. By them the machine and its log came to be
-- those that are kept, and the lock stands for that machine unless the disk has failed.
pub record KeepsRun {T : Type 0} (g : Ghosts T) (b : RunStart) (k : LoggedLock T) : Type 0 where
  pub made : List Made
  pub for : GroundState
  pub runs : RunsCore b.told (first_core b.daemons b.first) made (core_at k for)
  pub stood : IsInState g.stands k.lock for
  pub rests : b.first ≡ resting b.first.world b.first.base
  pub media : g.told k.lock.base ≡ b.told
  pub in_time : AreInTime b.start made
  pub done : last_done b.start made ≤ g.moment k.lock.base
  pub caused : AreCaused made (from_to (first_media b) (media_on g k.lock.base))

-- the last event of the entry was made between these moments of the disk
pub record IsMadeBetween (from to : ℕ) (e : Entry) : Type 0 where
  pub begun : from ≤ e.begun
  pub done : e.done ≤ to

-- each entry's was, also where the disk failed in it
abbrev pub AreMadeBetween : ℕ → ℕ → List Entry → Type 0
AreMadeBetween from to journal = AllByRecursion (IsMadeBetween from to) journal

-- what a crash leaves of a ground, where this is the journal and the disk has failed or not
pub record KeepsSafe {T : Type 0} (g : Ghosts T) (b : RunStart) (journal : List Entry) (failed : Option ℕ) (base : T) : Type 0 where
  -- the disk has failed just where it did in an entry
  pub sound : is_sound journal ≡ is_none failed
  -- every entry is done by now, and none before the run began
  pub all : failed ≡ None → (m : ℕ) → g.moment base ≤ m → done_by m journal ≡ length journal
  pub early : (m : ℕ) → m < b.start → done_by m journal ≡ 0
  -- at each moment a crash leaves the state after some first entries, and all that are done
  pub crash : IsCrashSafe g.moment g.left (OpensAfter g.opens b.told b.daemons b.first journal) b.start journal base
  -- no moment and no count of faults has fallen, and the disk failed only where the count rose
  pub later : b.start ≤ g.moment base
  pub counted : b.faults ≤ g.faults base
  pub cause : is_sound journal ≡ false → Rose b.faults (g.faults base)

-- the lock stands for something, unless the disk has failed
abbrev pub HasState : {T : Type 0} → (T → GroundState → Type 0) → Locked T → Type 0
HasState stands lock = IsInSomeState stands lock (λ _. ⊤)

-- Whatever core it was, the event was made by a step to one that it is now: of this daemon and statement, with this answer and
-- the ground's moves and bytes, between the disk's moments before and after.
abbrev pub StepsCore : {T : Type 0} → Ghosts T → (daemon line : ℕ) → Event → Came → LoggedLock T → LoggedLock T → Type 0
StepsCore g daemon line event a old new =
    LeadsLock g.stands old.lock new.lock (λ v v'. CoreStep (g.told old.lock.base) (core_at old v)
    (made_by daemon event a (g.moment old.lock.base) (g.moment new.lock.base) line v') (core_at new v'))

-- an event was made of a lock with this log: a step of the core, for which the ground was asked, and its media for what the event
-- needs of them; at most one number was drawn
pub record MakesCoreStep {T : Type 0} (g : Ghosts T) (daemon line : ℕ) (event : Event) (a : Came) (old : Locked T) (was : Log) (new : Locked T) (log : Log) : Type 0 where
  pub step : StepsCore g daemon line event a (record { lock = old; log = was }) (record { lock = new; log = log })
  pub asks : Asks g (commits_by old.roll daemon event) a old new
  pub media : EventAsks g daemon event old new
  pub called : a.called ≡ true → new.roll.failed ≡ None
  pub drawn : new.roll.drawn ≤ old.roll.drawn + 1

-- What the ground and the journal are as a run ends: the journal is legal, each entry was made since the run began and is done by now,
-- and a crash leaves the state after some first entries. Unless the disk failed, a crash now leaves the state after all of them, for
-- which the ground stands.
pub record IsRunOf {T : Type 0} (g : Ghosts T) (b : RunStart) (journal : List Entry) (base : T) : Type 0 where
  pub legal : IsLegal b.told b.daemons b.first journal
  pub in_time : AreMadeBetween b.start (g.moment base) journal
  pub caused : EntriesAreCaused journal (from_to (first_media b) (media_on g base))
  pub crash : IsCrashSafe g.moment g.left (OpensAfter g.opens b.told b.daemons b.first journal) b.start journal base
  pub early : (m : ℕ) → m < b.start → done_by m journal ≡ 0
  pub all : is_sound journal ≡ true → (m : ℕ) → g.moment base ≤ m → done_by m journal ≡ length journal
  pub rests : is_sound journal ≡ true → SomeState g.stands base (λ v. IsAfter b.told b.daemons b.first journal (length journal) v.before)
  pub later : b.start ≤ g.moment base
  pub counted : b.faults ≤ g.faults base
  pub cause : is_sound journal ≡ false → Rose b.faults (g.faults base)
