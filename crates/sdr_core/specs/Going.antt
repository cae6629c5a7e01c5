-- A run that goes on event by event: what an event and the leaves at the end make of it.
use Rattle.std.specs.Prelude.{◌≡◌, ◌≤◌, ◌+◌, ℕ, List, None, true}
use Rattle.sdr_machine.specs.Asked.{outside_asked}
use Rattle.sdr_machine.specs.Core.{Core, CoreStep}
use Rattle.sdr_machine.specs.Holders.{hold_none}
use Rattle.sdr_machine.specs.Lapses.{HasLapseCause, LapsesLast}
use Rattle.sdr_machine.specs.Machine.{Made}
use Rattle.sdr_machine.specs.Roll.{Roll}
use Rattle.sdr_machine.specs.declared.came.Came.{Came}
use Rattle.sdr_model.specs.declared.event.Event.{Event}
use Rattle.sdr_core.specs.Caused.{SeenMedia}
use Rattle.sdr_core.specs.declared.has_run.HasRun.{Ghosts}

-- what is seen of the media of a run
abbrev pub media_of : {R : Type 0} → Ghosts R → R → SeenMedia
media_of r t = record { told = r.told t; faults = (r.lapses t).faults; short = (r.lapses t).short }

-- the run has come to some core
pub record HasCome {R : Type 0} (r : Ghosts R) (t : R) : Type 0 where
  pub core : Core
  pub here : r.at t core

-- An event of a daemon, of the statement on a line, was made from this core and was answered so, and the run has come to another core.
-- Media were asked at most once for each extent that lies with them and of which the event needs bytes.
pub record NextCore {R : Type 0} (r : Ghosts R) (daemon line : ℕ) (event : Event) (a : Came) (c : Core) (old new : R) : Type 0 where
  pub made : Made
  pub next : Core
  pub here : r.at new next
  pub step : CoreStep (r.told old) c made next
  pub daemon_is : made.daemon ≡ daemon
  pub line_is : made.said.line ≡ line
  pub event_is : made.said.event ≡ event
  pub answer_is : made.said.answer ≡ a.answer
  pub bytes_are : (bytes : List ℕ) → r.gives new a bytes → bytes ≡ made.said.bytes
  pub few : r.asks new ≤ r.asks old + outside_asked c.machine daemon event

-- Whatever core the run had come to, the event was made from it. Media tell the same, no count of theirs has fallen, and where the answer tells
-- that they failed or gave too few bytes, the count of that rose. At most one number was drawn.
pub record MakesNext {R : Type 0} (r : Ghosts R) (daemon line : ℕ) (event : Event) (a : Came) (old new : R) : Type 0 where
  pub each : (c : Core) → r.at old c → NextCore r daemon line event a c old new
  pub told : r.told new ≡ r.told old
  pub lapses : LapsesLast (r.lapses old) (r.lapses new)
  pub gap : HasLapseCause a.answer (r.lapses old) (r.lapses new)
  pub drawn : (r.roll_of new).drawn ≤ (r.roll_of old).drawn + 1
  pub lasts : r.lasts new

-- Unless the disk has failed, it hadn't before, and no number is held if none was.
pub record LeavesNone (old new : Roll) : Type 0 where
  pub sound : new.failed ≡ None → old.failed ≡ None
  pub none : new.failed ≡ None → hold_none old.daemons ≡ true → hold_none new.daemons ≡ true

-- some events were made, of which P tells, by which the run has come to a core
pub record ComesBy {R : Type 0} (r : Ghosts R) (P : List Made → Core → Type 0) (new : R) : Type 0 where
  pub made : List Made
  pub core : Core
  pub here : r.at new core
  pub tells : P made core

-- Whatever core the run had come to, some events of which P tells were made from it, for which media weren't asked. They tell the same, and
-- no count of theirs has fallen.
pub record GoesUnasked {R : Type 0} (r : Ghosts R) (P : Core → List Made → Core → Type 0) (old new : R) : Type 0 where
  pub each : (c : Core) → r.at old c → ComesBy r (P c) new
  pub told : r.told new ≡ r.told old
  pub lapses : LapsesLast (r.lapses old) (r.lapses new)
  pub asks : r.asks new ≤ r.asks old
