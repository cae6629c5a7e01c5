-- A core run: the machine, and the journal that is kept of it.
use Rattle.std.specs.Prelude.{⊤, ◌≤◌, ◌≡◌, ℕ, List, [], ◌∷◌, ◌++◌, ◌==◌, Bool, true, false, not, filter, flat_map, ◌||◌, ◌&&◌, Option, None, Some, if◌then◌else◌}
use Rattle.std.specs.Option.{option_map, option_map_or, option_to_list}
use Rattle.sdr_base.specs.Media.{Told}
use Rattle.sdr_machine.specs.Agreeing.{AgreesWith}
use Rattle.sdr_base.specs.declared.refusal.Refusal.TheVariants as refusals
use Rattle.sdr_model.specs.declared.answer.Answer.{Answer}
use Rattle.sdr_model.specs.declared.answer.Answer.TheVariants as answers
use Rattle.sdr_model.specs.declared.answer.Close.{Close}
use Rattle.sdr_model.specs.declared.answer.Close.TheVariants as closes
use Rattle.sdr_model.specs.declared.answer.Reply.TheVariants as replies
use Rattle.sdr_model.specs.declared.event.Event.{Event}
use Rattle.sdr_model.specs.declared.event.Event.TheVariants as events
use Rattle.sdr_model.specs.declared.journal.Entry.{Entry}
use Rattle.sdr_model.specs.declared.journal.Said.{Said}
use Rattle.sdr_model.specs.declared.journal.What.{What}
use Rattle.sdr_model.specs.declared.journal.What.TheVariants as whats
use Rattle.sdr_machine.specs.Ground.{State}
use Rattle.sdr_machine.specs.Machine.{Machine, Made, MachineStep, first_machine}
use Rattle.sdr_machine.specs.Roll.{Roll, daemon_of, number_of, waits_for}
use Rattle.sdr_machine.specs.declared.daemon.Daemon.{Daemon}

-- what a daemon has said in its open transaction
pub record Work : Type 0 where
  pub daemon : ℕ
  pub said : List Said

-- the open transactions, where the daemon has said this too, at its begin as the first
abbrev pub with_said : List Work → ℕ → Said → List Work
with_said [] daemon said = record { daemon = daemon; said = said ∷ [] } ∷ []
with_said (w ∷ works) daemon said =
    if w.daemon == daemon then record w { said = w.said ++ said ∷ [] } ∷ works else w ∷ with_said works daemon said

-- all that the daemon has said in its open transaction
abbrev pub said_by : List Work → ℕ → List Said
said_by works daemon = flat_map (λ w. w.said) (filter (λ w. w.daemon == daemon) works)

-- the open transactions but the daemon's
abbrev pub without_work : List Work → ℕ → List Work
without_work works daemon = filter (λ w. not (w.daemon == daemon)) works

-- Whether an event stands in no transaction. It does if it is
-- a request,
-- an event that is refused `NotBegun` or `Suspended`,
-- a look that tells of its ticket, or is refused `BadTicket`,
-- or a leave that closes none.
abbrev pub is_passed_over : Event → Answer → Bool
is_passed_over events.Request answer = true
is_passed_over event answers.Awarded = true
is_passed_over event answers.Waits = true
is_passed_over event answers.Stalled = true
is_passed_over (events.Leaves leave) (answers.Reply replies.Done) = true
is_passed_over event (answers.Reply (replies.Refused refusals.NotBegun)) = true
is_passed_over event (answers.Reply (replies.Refused (refusals.Suspended serving mine))) = true
is_passed_over (events.Look ticket) (answers.Reply (replies.Refused (refusals.BadTicket missing))) = true
is_passed_over event answer = false

-- what is said in the open transactions, and the journal so far
pub record Log : Type 0 where
  pub works : List Work
  pub journal : List Entry

-- the machine, and what is kept of its run
pub record Core : Type 0 where
  pub machine : Machine
  pub log : Log

-- the core before any event
abbrev pub first_core : List ℕ → State → Core
first_core daemons s = record { machine = first_machine daemons s; log = record { works = []; journal = [] } }

-- how the answer closes a transaction, if it does
abbrev pub closed_by : Answer → Option Close
closed_by (answers.Closed close) = Some close
closed_by (answers.Reply replies.DiskFault) = Some closes.Faulted
closed_by answer = None

-- whether the disk had failed before
abbrev pub is_failed : Answer → Bool
is_failed (answers.Reply (replies.Failed moment)) = true
is_failed answer = false

-- what was said stands in no transaction
abbrev pub was_outside : Said → Bool
was_outside said = is_passed_over said.event said.answer || is_failed said.answer

-- all that the daemon has said in its transaction, with this as the last
abbrev pub all_said : List Work → ℕ → Said → List Said
all_said works daemon said = said_by (with_said works daemon said) daemon

-- the open transactions after a daemon said this in one
abbrev pub works_after : List Work → ℕ → Said → List Work
works_after works daemon said =
    option_map_or (λ (close : Close). without_work works daemon) (closed_by said.answer) (with_said works daemon said)

-- what an event was made under: the daemon's number, whether its last entry is a wait for this ticket, and whether it has
-- left by the event
pub record Under : Type 0 where
  pub number : ℕ
  pub waited : Bool
  pub left : Bool

-- whether the event looks at a ticket for which the daemon waits
abbrev pub looks_again : Daemon → Event → Bool
looks_again d (events.Look ticket) = waits_for d ticket
looks_again d event = false

-- whether the daemon of a number has left
abbrev pub has_left : Roll → ℕ → Bool
has_left r daemon = option_map_or (λ (d : Daemon). d.left) (daemon_of r daemon) false

-- what an event was made under by a daemon that was so, where the roll after it is this
abbrev pub under : Roll → Daemon → Roll → Event → Under
under r d r' event = record {
  number = number_of r d;
  waited = looks_again d event;
  left = has_left r' d.id && not d.left;
}

-- the entry that a look or a leave adds to the journal, if it adds one
abbrev pub what_added : Under → Event → Answer → Option What
what_added u (events.Look ticket) answers.Awarded = Some (whats.Awarded ticket)
what_added u (events.Look ticket) answers.Stalled = Some (whats.Stalled ticket)
what_added u (events.Look ticket) answers.Waits = if u.waited then None else Some (whats.Waits ticket)
what_added u (events.Leaves leave) answer = if u.left then Some (whats.Leaves leave) else None
what_added u event answer = None

-- What the entry is of that an event adds: a transaction where it closes, a look but for a second wait for one ticket, and
-- a leave by which the daemon has left.
abbrev pub what_of : Under → List Work → Made → Option What
what_of u works e =
    option_map_or (λ (close : Close). Some (whats.Work (all_said works e.daemon e.said) close)) (closed_by e.said.answer)
    (what_added u e.said.event e.said.answer)

-- the entry of it, under the daemon's number
abbrev pub entry_of : ℕ → Made → What → Entry
entry_of number e what = record { number = number; daemon = e.daemon; begun = e.begun; done = e.done; what = what }

-- what is kept after an event
abbrev pub log_after : Under → Log → Made → Log
log_after u log e = record {
  works = if was_outside e.said then log.works else works_after log.works e.daemon e.said;
  journal = log.journal ++ option_to_list (option_map (entry_of u.number e) (what_of u log.works e));
}

-- The core after an event, from which the machine went on to m. An event of a daemon that isn't the machine's is not kept.
abbrev pub core_after : Core → Made → Machine → Core
core_after c e m = record {
  machine = m;
  log =
      option_map_or (λ (d : Daemon). log_after (under c.machine.roll d m.roll e.said.event) c.log e)
      (daemon_of c.machine.roll e.daemon) c.log;
}

-- From c, the event may be made so where media tell this, and the core goes on to c'.
pub record CoreStep (told : Option Told) (c : Core) (e : Made) (c' : Core) : Type 0 where
  pub next : Machine
  pub step : MachineStep c.machine e next
  pub media : AgreesWith told c.machine.now.world e.said.event e.said.answer e.said.bytes
  pub history : c' ≡ core_after c e next

-- From c, these events may be made so, one after another, and the core goes on to c'.
abbrev pub RunsCore : Option Told → Core → List Made → Core → Type 0
RunsCore told c [] c' = c' ≡ c
RunsCore told c (e ∷ made) c' = (mid : Core) × CoreStep told c e mid × RunsCore told mid made c'

-- From a moment on, each event begins no earlier than the one before it was done, and is done no earlier than it began.
abbrev pub AreInTime : ℕ → List Made → Type 0
AreInTime moment [] = ⊤
AreInTime moment (e ∷ made) = (moment ≤ e.begun) × (e.begun ≤ e.done) × AreInTime e.done made
