-- The machine at the lock: daemons draw numbers, the least number that isn't done is served, and its daemon's transaction goes on.
use Rattle.std.specs.Prelude.{◌≡◌, ◌⊎◌, ℕ, ◌+◌, List, Bool, false, true, if◌then◌else◌, ◌==◌, ◌&&◌, MatchBool, MatchOption}
use Rattle.std.specs.Option.{option_map_or}
use Rattle.sdr_base.specs.declared.refusal.Refusal.TheVariants as refusals
use Rattle.sdr_model.specs.AccountSteps.{pending_of}
use Rattle.sdr_model.specs.declared.answer.Answer.{Answer}
use Rattle.sdr_model.specs.declared.answer.Answer.TheVariants as answers
use Rattle.sdr_model.specs.declared.answer.Close.{Close}
use Rattle.sdr_model.specs.declared.answer.Reply.TheVariants as replies
use Rattle.sdr_model.specs.declared.event.Event.{Event}
use Rattle.sdr_model.specs.declared.event.Event.TheVariants as events
use Rattle.sdr_model.specs.declared.journal.Said.{Said}
use Rattle.sdr_machine.specs.Ground.{State, HasHeap}
use Rattle.sdr_machine.specs.Nesting.{nested}
use Rattle.sdr_machine.specs.Roll.{Roll, when_done, after_leave, when_passed_over, after_wait, at_nesting, daemon_of, first_roll, is_stalled, served_number, waits_for, with_daemon, with_drawn, with_fault, with_number}
use Rattle.sdr_machine.specs.Transaction.{OpenTransaction, ClosesSo, IsAnswered, Transacts, asks_disk, is_closing, is_opening, refused, transaction_of}
use Rattle.sdr_machine.specs.declared.daemon.Daemon.{Daemon}
use Rattle.sdr_machine.specs.declared.daemon.Holding.{Holding}

-- the roll, and the states before the served transaction and as it has made it
pub record Machine : Type 0 where
  pub roll : Roll
  pub before : State
  pub now : State

-- an event of a daemon as it was made: what was said, and the disk's moments as it began and as it returned
pub record Made : Type 0 where
  pub daemon : ℕ
  pub said : Said
  pub begun : ℕ
  pub done : ℕ

-- the machine before any event, in a state in which no transaction is open
abbrev pub first_machine : List ℕ → State → Machine
first_machine daemons s = record { roll = first_roll daemons; before = s; now = s }

-- the machine with this roll
abbrev pub with_roll : Machine → Roll → Machine
with_roll m r = record m { roll = r }

-- an event had this answer, with no moves and no bytes, and the machine is then this
pub record Goes (e : Made) (m' : Machine) (answer : Answer) (next : Machine) : Type 0 where
  pub told : IsAnswered e.said answer
  pub after : m' ≡ next

-- A disk fault: the number is done under which the event was made, the state before is left, and the disk has failed.
pub record Faults (m : Machine) (e : Made) (roll : Roll) (m' : Machine) : Type 0 where
  pub heap : HasHeap m.before.base
  pub told : IsAnswered e.said (answers.Reply replies.DiskFault)
  pub after : m' ≡ record { roll = with_fault roll e.done; before = m.before; now = m.before }

-- a daemon draws the next number, at this depth
abbrev pub Draws : Machine → Daemon → Made → ℕ → Machine → Type 0
Draws m d e depth m' = Goes e m' (answers.Lock (m.roll.drawn + 1)) (with_roll m (with_number m.roll d depth))

-- an event of a daemon whose number isn't served is suspended, and changes nothing but this roll
abbrev pub IsSuspended : Machine → Made → ℕ → Roll → Machine → Type 0
IsSuspended m e mine roll m' = Goes e m' (refused (refusals.Suspended (served_number m.roll) mine)) (with_roll m roll)

-- A look at a ticket of a daemon whose number is served, and done with it in this roll. Where the ticket waits, the daemon
-- waits, or is told that all have stalled where it waited for it before.
abbrev pub LooksAt : Machine → Daemon → Made → ℕ → Roll → Machine → Type 0
LooksAt m d e ticket roll m' =
    MatchOption (pending_of m.before.world ticket)
    (Goes e m' (refused (refusals.BadTicket ticket)) (with_roll m (with_daemon roll (when_passed_over d))))
    (λ p. MatchBool p.ticket.granted
    (Goes e m' answers.Awarded (with_roll m (with_daemon roll (when_done d))))
    (MatchBool (waits_for d ticket && is_stalled m.roll m.before.world)
    (Goes e m' answers.Stalled (with_roll m (with_daemon roll (when_done d))))
    (Goes e m' answers.Waits (with_roll m (with_daemon roll (after_wait d ticket))))))

-- The same, or the disk fails.
abbrev pub Looks : Machine → Daemon → Made → ℕ → Roll → Machine → Type 0
Looks m d e ticket roll m' = LooksAt m d e ticket roll m' ⊎ Faults m e (with_daemon roll (when_done d)) m'

-- A look of a daemon without a number: it draws one, which is done at once where it is served, and else is kept.
abbrev pub ComesLooking : Machine → Daemon → Made → ℕ → Machine → Type 0
ComesLooking m d e ticket m' =
    MatchBool (served_number m.roll == 0)
    (Looks m d e ticket (with_drawn m.roll) m')
    (IsSuspended m e (m.roll.drawn + 1) (with_number m.roll d 0) m')

-- A leave of a daemon without a number: it draws one, which is done at once where it is served, and else is kept.
abbrev pub ComesLeaving : Machine → Daemon → Made → Machine → Type 0
ComesLeaving m d e m' =
    MatchBool (served_number m.roll == 0)
    (Goes e m' (answers.Reply replies.Done) (with_roll m (with_daemon (with_drawn m.roll) (after_leave d))))
    (IsSuspended m e (m.roll.drawn + 1) (with_number m.roll d 0) m')

-- a daemon without a number draws one by a request, a begin, a look or a leave
abbrev pub Comes : Machine → Daemon → Event → Made → Machine → Type 0
Comes m d events.Request e m' = Draws m d e 0 m'
Comes m d events.Begin e m' = Draws m d e 1 m'
Comes m d (events.Look ticket) e m' = ComesLooking m d e ticket m'
Comes m d (events.Leaves leave) e m' = ComesLeaving m d e m'
Comes m d event e m' = Goes e m' (refused refusals.NotBegun) m

-- the machine with the served transaction come to this
abbrev pub with_transaction : Machine → Daemon → Holding → OpenTransaction → Machine
with_transaction m d h t = record m { roll = with_daemon m.roll (at_nesting d h t.nesting); now = t.state }

-- The served transaction goes on.
pub record GoesOnIn (m : Machine) (d : Daemon) (h : Holding) (event : Event) (e : Made) (m' : Machine) : Type 0 where
  pub after : OpenTransaction
  pub transacts : Transacts (transaction_of h m.now) event e.said after
  pub others : m' ≡ with_transaction m d h after

-- The served transaction begins: the daemon drew its number before.
abbrev pub BeginsUnder : Machine → Daemon → Holding → Made → Machine → Type 0
BeginsUnder m d h e m' = Goes e m' (answers.Lock h.number)
    (with_roll m (with_daemon m.roll (at_nesting d h (nested 1))))

-- the roll after a daemon's transaction closed
abbrev pub roll_closed : Roll → Daemon → Roll
roll_closed r d = with_daemon r (when_done d)

-- The served transaction closes, its number is done, and a state is left.
pub record Closes (m : Machine) (d : Daemon) (h : Holding) (e : Made) (m' : Machine) : Type 0 where
  pub close : Close
  pub left : State
  pub closes : ClosesSo m.before (transaction_of h m.now) e.said close left
  pub after : m' ≡ record { roll = roll_closed m.roll d; before = left; now = left }

-- the served transaction closes or goes on
abbrev pub Proceeds : Machine → Daemon → Holding → Event → Made → Machine → Type 0
Proceeds m d h event e m' = MatchBool (is_closing (transaction_of h m.now) event) (Closes m d h e m') (GoesOnIn m d h event e m')

-- The disk fails in the served transaction, and closes it.
pub record FaultsWithin (m : Machine) (d : Daemon) (h : Holding) (event : Event) (e : Made) (m' : Machine) : Type 0 where
  pub asks : asks_disk (transaction_of h m.now) event ≡ true
  pub faults : Faults m e (roll_closed m.roll d) m'

-- one event of the daemon whose number is served
abbrev pub OnTurn : Machine → Daemon → Holding → Event → Made → Machine → Type 0
OnTurn m d h event e m' =
    MatchBool (is_opening (transaction_of h m.now) event) (BeginsUnder m d h e m')
    (Proceeds m d h event e m' ⊎ FaultsWithin m d h event e m')

-- the daemon has a number, but is in no transaction
abbrev pub is_outside : Holding → Event → Bool
is_outside h events.Begin = false
is_outside h event = h.nesting.depth == 0

-- A daemon with a number, but in no transaction, is refused all but a begin; one whose number isn't served is suspended.
abbrev pub Enters : Machine → Daemon → Holding → Event → Made → Machine → Type 0
Enters m d h event e m' =
    MatchBool (is_outside h event)
    (Goes e m' (refused refusals.NotBegun) m)
    (MatchBool (served_number m.roll == h.number)
    (OnTurn m d h event e m')
    (IsSuspended m e h.number m.roll m'))

-- A look under a number that is held: it is refused in a transaction, and where the number isn't served; else the number is
-- done.
abbrev pub LooksHolding : Machine → Daemon → Holding → ℕ → Made → Machine → Type 0
LooksHolding m d h ticket e m' =
    MatchBool (h.nesting.depth == 0)
    (MatchBool (served_number m.roll == h.number)
    (Looks m d e ticket m.roll m')
    (IsSuspended m e h.number m.roll m'))
    (Goes e m' (refused (refusals.InTransaction h.number)) m)

-- A leave under the number that is served: it closes the transaction, or the number is done and the daemon has left.
abbrev pub Departs : Machine → Daemon → Holding → Event → Made → Machine → Type 0
Departs m d h event e m' =
    MatchBool (h.nesting.depth == 0)
    (Goes e m' (answers.Reply replies.Done) (with_roll m (with_daemon m.roll (after_leave d))))
    (Closes m d h e m' ⊎ FaultsWithin m d h event e m')

-- A leave under a number that is held: it is refused where the number isn't served.
abbrev pub LeavesHolding : Machine → Daemon → Holding → Event → Made → Machine → Type 0
LeavesHolding m d h event e m' =
    MatchBool (served_number m.roll == h.number)
    (Departs m d h event e m')
    (IsSuspended m e h.number m.roll m')

-- whether the event is one of a transaction, or a first begin
abbrev pub is_of_work : Event → Bool
is_of_work events.Request = false
is_of_work (events.Look ticket) = false
is_of_work (events.Leaves leave) = false
is_of_work event = true

-- one event of a daemon that holds a number: a request changes nothing
abbrev pub Holds : Machine → Daemon → Holding → Event → Made → Machine → Type 0
Holds m d h events.Request e m' = Goes e m' (answers.Lock h.number) m
Holds m d h (events.Look ticket) e m' = LooksHolding m d h ticket e m'
Holds m d h (events.Leaves leave) e m' = LeavesHolding m d h (events.Leaves leave) e m'
Holds m d h event e m' = Enters m d h event e m'

-- one event of a daemon of the machine's: one that has left may come no more
abbrev pub Performs : Machine → Daemon → Made → Machine → Type 0
Performs m d e m' =
    MatchBool d.left
    (Goes e m' (refused refusals.NotBegun) m)
    (MatchOption d.holds
    (Comes m d e.said.event e m')
    (λ h. Holds m d h e.said.event e m'))

-- one event, where the disk hasn't failed: of another daemon it is refused
abbrev pub StepsOf : Machine → Made → Machine → Type 0
StepsOf m e m' = MatchOption (daemon_of m.roll e.daemon) (Goes e m' (refused refusals.NotBegun) m) (λ d. Performs m d e m')

-- the roll after an event of a daemon without a number, where the disk has failed: a request and a leave draw one
abbrev pub roll_coming : Roll → Daemon → Event → Roll
roll_coming r d events.Request = with_number r d 0
roll_coming r d (events.Leaves leave) =
    if served_number r == 0 then with_daemon (with_drawn r) (after_leave d) else with_number r d 0
roll_coming r d event = r

-- the roll after an event under a number that is held, where the disk has failed: a daemon leaves at any depth, if its
-- number is served
abbrev pub roll_holding : Roll → Daemon → Holding → Event → Roll
roll_holding r d h (events.Leaves leave) = if served_number r == h.number then with_daemon r (after_leave d) else r
roll_holding r d h event = r

-- the roll after an event of a daemon of the machine's, where the disk has failed
abbrev pub roll_acting : Roll → Daemon → Event → Roll
roll_acting r d event =
    if d.left then r else option_map_or (λ (h : Holding). roll_holding r d h event) d.holds (roll_coming r d event)

-- the roll after an event, where the disk has failed
abbrev pub roll_failed : Roll → ℕ → Event → Roll
roll_failed r daemon event = option_map_or (λ (d : Daemon). roll_acting r d event) (daemon_of r daemon) r

-- From m, an event may be made so, and the machine goes on to m'. Where the disk has failed, each is answered with that moment.
abbrev pub MachineStep : Machine → Made → Machine → Type 0
MachineStep m e m' =
    MatchOption m.roll.failed
    (StepsOf m e m')
    (λ moment. Goes e m' (answers.Reply (replies.Failed moment)) (with_roll m (roll_failed m.roll e.daemon e.said.event)))
