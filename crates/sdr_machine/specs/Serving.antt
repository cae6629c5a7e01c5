-- What a ground is asked by a lock, and what a lock makes of it.
use Rattle.std.specs.Prelude.{◌≡◌, ◌≤◌, ◌+◌, ◌&&◌, not, ℕ, suc, List, [], Bool, true, false, Option, None, Some, IsSome, if◌then◌else◌}
use Rattle.std.specs.List.{list_all}
use Rattle.std.specs.Option.{option_map}
use Rattle.sdr_base.specs.Causes.{Rose}
use Rattle.sdr_base.specs.Media.{Told}
use Rattle.sdr_base.specs.declared.moves.Move.{Move}
use Rattle.sdr_base.specs.declared.refusal.Refusal.TheVariants as refusals
use Rattle.sdr_model.specs.AccountSteps.{pending_of}
use Rattle.sdr_model.specs.World.{World}
use Rattle.sdr_model.specs.declared.accounts.Pending.{Pending}
use Rattle.sdr_model.specs.declared.answer.Answer.{Answer}
use Rattle.sdr_model.specs.declared.answer.Answer.TheVariants as answers
use Rattle.sdr_model.specs.declared.answer.Close.{Close}
use Rattle.sdr_model.specs.declared.answer.Close.TheVariants as closes
use Rattle.sdr_model.specs.declared.answer.Reply.{Reply}
use Rattle.sdr_model.specs.declared.answer.Reply.TheVariants as replies
use Rattle.sdr_model.specs.declared.call.Call.{Call}
use Rattle.sdr_model.specs.declared.event.Event.{Event}
use Rattle.sdr_model.specs.declared.event.Event.TheVariants as events
use Rattle.sdr_model.specs.declared.journal.Said.{Said}
use Rattle.sdr_machine.specs.Agreeing.{AgreesWith}
use Rattle.sdr_machine.specs.Asked.{outside_asked, outside_needed}
use Rattle.sdr_machine.specs.Crash.{LeavesOr}
use Rattle.sdr_machine.specs.Lapses.{LapsesLast, HasLapseCause}
use Rattle.sdr_machine.specs.Ground.{HasHeap, Steps, committed, rolled_back}
use Rattle.sdr_machine.specs.Machine.{Machine, Made}
use Rattle.sdr_machine.specs.Roll.{Roll, when_done, when_passed_over, after_wait, is_stalled, is_stuck, waits_for}
use Rattle.sdr_machine.specs.Standing.{GroundState}
use Rattle.sdr_machine.specs.Transaction.{bytes_given, refused}
use Rattle.sdr_machine.specs.declared.came.Came.{Came}
use Rattle.sdr_machine.specs.declared.daemon.Daemon.{Daemon}
use Rattle.sdr_machine.specs.declared.has_ground.HasGround.{Ghosts}

-- whether an event may find no memory: it is a call or an end
abbrev pub takes_memory : Event → Bool
takes_memory (events.Say call) = true
takes_memory events.End = true
takes_memory event = false

-- whether the answer is a disk fault
abbrev pub is_fault_answer : Answer → Bool
is_fault_answer (answers.Reply replies.DiskFault) = true
is_fault_answer answer = false

-- it stands for something of which P tells
pub record SomeState {T : Type 0} (stands : T → GroundState → Type 0) (t : T) (P : GroundState → Type 0) : Type 0 where
  pub for : GroundState
  pub holds : stands t for
  pub tells : P for

-- whatever it stood for before, it stands for something now of which P tells
pub record Brings {T : Type 0} (stands : T → GroundState → Type 0) (old new : T) (P : GroundState → GroundState → Type 0) : Type 0 where
  pub each : (v : GroundState) → stands old v → SomeState stands new (P v)

-- A call was answered by a step of the machine, with its moves, as media tell.
pub record Calls (told : Option Told) (call : Call) (reply : Reply) (v v' : GroundState) : Type 0 where
  pub steps : Steps v.now call (record { reply = reply; moves = v'.moves; after = v'.now })
  pub media :
      AgreesWith told v.now.world (events.Say call) (answers.Reply reply) (bytes_given (answers.Reply reply) v'.now.world.shown)
  pub before : v'.before ≡ v.before

-- the transaction was committed
abbrev pub Commits : GroundState → GroundState → Type 0
Commits v v' = (v'.before ≡ committed v.now) × (v'.now ≡ committed v.now)

-- it was rolled back
abbrev pub RollsBack : GroundState → GroundState → Type 0
RollsBack v v' = (v'.before ≡ rolled_back v.before v.now) × (v'.now ≡ rolled_back v.before v.now)

-- a transaction that closed so was committed or rolled back
abbrev pub Settles : Close → GroundState → GroundState → Type 0
Settles closes.Ended v v' = Commits v v'
Settles close v v' = RollsBack v v'

-- it stands for the same states
pub record SameStates (v v' : GroundState) : Type 0 where
  pub before : v'.before ≡ v.before
  pub now : v'.now ≡ v.now

-- whether a ticket is there, and granted
abbrev pub shown_among : Option Pending → Option Bool
shown_among pending = option_map (λ (p : Pending). p.ticket.granted) pending

-- whether the ticket of a number is there in a world, and granted
abbrev pub shown_in : World → ℕ → Option Bool
shown_in w ticket = shown_among (pending_of w ticket)

-- whether the ticket is there, and granted, before the open transaction
pub record Shows (ticket : ℕ) (granted : Option Bool) (v v' : GroundState) : Type 0 where
  pub shown : granted ≡ shown_in v.before.world ticket
  pub still : SameStates v v'

-- The disk failed: it stood on a heap, and the count of faults rose.
pub record MeetsFault {T : Type 0} (g : Ghosts T) (old new : T) : Type 0 where
  pub heap : (v : GroundState) → g.stands old v → HasHeap v.before.base
  pub cause : Rose (g.faults old) (g.faults new)

-- What a ground keeps in whatever it is asked, where a call is spent or none: no count of faults falls, its media tell the
-- same and are asked for a call alone, and it lasts for as many calls, but for the one that is spent.
pub record KeepsGround {T : Type 0} (g : Ghosts T) (spent : Bool) (old new : T) : Type 0 where
  pub later : g.faults old ≤ g.faults new
  pub lapses : LapsesLast (g.lapses old) (g.lapses new)
  pub media : g.told new ≡ g.told old
  pub unasked : spent ≡ false → g.asks new ≡ g.asks old
  pub lasts : (n : ℕ) → g.lasts old (if spent then suc n else n) → g.lasts new n

-- In a call media were asked at most once for each extent that lies with them and of which it needs bytes, whatever the ground
-- stood for.
pub record CallAsks {T : Type 0} (g : Ghosts T) (call : Call) (old new : T) : Type 0 where
  pub each : (v : GroundState) → g.stands old v → g.asks new ≤ g.asks old + outside_needed v.now.world call

-- the roll of a lock, and what it stands on
pub record Locked (T : Type 0) : Type 0 where
  pub roll : Roll
  pub base : T

-- the machine of a lock that stands for this
abbrev pub machine_at : Roll → GroundState → Machine
machine_at r v = record { roll = r; before = v.before; now = v.now }

-- the lock stands for this, unless the disk has failed
abbrev pub IsInState : {T : Type 0} → (T → GroundState → Type 0) → Locked T → GroundState → Type 0
IsInState stands l v = l.roll.failed ≡ None → stands l.base v

-- the lock stands for something of which P tells
pub record IsInSomeState {T : Type 0} (stands : T → GroundState → Type 0) (l : Locked T) (P : GroundState → Type 0) :
    Type 0 where
  pub for : GroundState
  pub stood : IsInState stands l for
  pub tells : P for

-- whatever the lock stood for before, it stands for something now of which P tells
pub record LeadsLock {T : Type 0} (stands : T → GroundState → Type 0) (old new : Locked T) (P : GroundState → GroundState → Type 0) : Type 0 where
  pub each : (v : GroundState) → IsInState stands old v → IsInSomeState stands new (P v)

-- what was said in an event, whose call had these moves, and by which these bytes are shown
abbrev pub said_with : ℕ → Event → Came → List Move → List ℕ → Said
said_with line event a moves shown = record {
  line = line;
  event = event;
  answer = a.answer;
  bytes = if a.called then bytes_given a.answer shown else [];
  moves = if a.called then moves else [];
}

-- an event of a daemon as it was made between two moments
abbrev pub made_with : ℕ → Event → Came → ℕ → ℕ → ℕ → List Move → List ℕ → Made
made_with daemon event a begun done line moves shown =
    record { daemon = daemon; said = said_with line event a moves shown; begun = begun; done = done }

-- the same, where the lock then stands for this
abbrev pub made_by : ℕ → Event → Came → ℕ → ℕ → ℕ → GroundState → Made
made_by daemon event a begun done line v = made_with daemon event a begun done line v.moves v.now.world.shown

-- An event of a daemon is a step of the machine between two moments, of whatever statement it is, and agrees with what media
-- tell. Where a call was made for it, the disk hasn't failed.
pub record MakesMachineStep {T : Type 0} (g : Ghosts T) (R : Machine → Made → Machine → Type 0) (old new : Locked T) (daemon : ℕ) (event : Event) (a : Came) (v v' : GroundState) : Type 0 where
  pub sound : a.called ≡ true → new.roll.failed ≡ None
  pub step : (line : ℕ) → R (machine_at old.roll v) (made_by daemon event a (g.moment old.base) (g.moment new.base) line v') (machine_at new.roll v')
  pub media : AgreesWith (g.told old.base) v.now.world event a.answer (if a.called then bytes_given a.answer v'.now.world.shown else [])

-- whether the answer is a disk fault, met by something other than a call that was answered
abbrev pub is_disk_fault : Came → Bool
is_disk_fault a = not a.called && is_fault_answer a.answer

-- What an event leaves of the ground: a fault of the disk or of media has its cause, and a crash leaves the state before the
-- transaction, or where the event may keep it, the one that is kept. Where the disk had failed, the ground isn't asked.
pub record Asks {T : Type 0} (g : Ghosts T) (keeps : Bool) (a : Came) (old new : Locked T) : Type 0 where
  pub kept : KeepsGround g true old.base new.base
  pub cause : is_disk_fault a ≡ true → Rose (g.faults old.base) (g.faults new.base)
  pub gap : HasLapseCause a.answer (g.lapses old.base) (g.lapses new.base)
  pub any_moment : LeavesOr keeps g old.base new.base
  pub failed : IsSome old.roll.failed → new.base ≡ old.base

-- In an event media were asked at most once for each extent that lies with them and of which it needs bytes, whatever the lock
-- stood for.
pub record EventAsks {T : Type 0} (g : Ghosts T) (daemon : ℕ) (event : Event) (old new : Locked T) : Type 0 where
  pub each : (v : GroundState) → IsInState g.stands old v → g.asks new.base ≤ g.asks old.base + outside_asked (machine_at old.roll v) daemon event

-- The lock answers an event of a daemon by such a step of the machine, for which the ground is asked, and its media for what the
-- event needs of them.
pub record Acts {T : Type 0} (g : Ghosts T) (keeps : Bool) (R : Machine → Made → Machine → Type 0) (daemon : ℕ) (event : Event) (a : Came) (old new : Locked T) : Type 0 where
  pub leads : LeadsLock g.stands old new (MakesMachineStep g R old new daemon event a)
  pub asks : Asks g keeps a old new
  pub media : EventAsks g daemon event old new

-- the answer to a look at a ticket that waits: all have stalled where that holds, and the daemon waited for it before
abbrev pub waiting_answer : Bool → Bool → Answer
waiting_answer again stalled = if again && stalled then answers.Stalled else answers.Waits

-- the answer to a look at a ticket that is there or not, and granted or not
abbrev pub answer_seen : Option Bool → ℕ → Answer → Answer
answer_seen None ticket waiting = refused (refusals.BadTicket ticket)
answer_seen (Some granted) ticket waiting = if granted then answers.Awarded else waiting

-- the answer to a look at a ticket in a world, by a daemon of this roll
abbrev pub sight : Roll → World → Daemon → ℕ → Answer
sight r w d ticket = answer_seen (shown_in w ticket) ticket (waiting_answer (waits_for d ticket) (is_stalled r w))

-- whether it is an answer to a look
abbrev pub is_sight : Answer → Bool
is_sight answers.Awarded = true
is_sight answers.Waits = true
is_sight answers.Stalled = true
is_sight (answers.Reply (replies.Refused (refusals.BadTicket ticket))) = true
is_sight answer = false

-- the daemon after a look that was answered so
abbrev pub after_look : Daemon → ℕ → Answer → Daemon
after_look d ticket answers.Awarded = when_done d
after_look d ticket answers.Stalled = when_done d
after_look d ticket answers.Waits = after_wait d ticket
after_look d ticket answer = when_passed_over d

-- what a look at a ticket is answered, and what it stands for stays
pub record Sees (r : Roll) (d : Daemon) (ticket : ℕ) (answer : Answer) (v v' : GroundState) : Type 0 where
  pub seen : answer ≡ sight r v.before.world d ticket
  pub still : SameStates v v'

-- what a look at a ticket that waits is answered, and what it stands for stays
pub record Doubts (r : Roll) (d : Daemon) (ticket : ℕ) (answer : Answer) (v v' : GroundState) : Type 0 where
  pub seen : answer ≡ waiting_answer (waits_for d ticket) (is_stalled r v.before.world)
  pub still : SameStates v v'

-- whether all of these daemons are stuck, and what it stands for stays
pub record Finds (ds : List Daemon) (stuck : Bool) (v v' : GroundState) : Type 0 where
  pub found : stuck ≡ list_all (is_stuck v.before.world) ds
  pub still : SameStates v v'
