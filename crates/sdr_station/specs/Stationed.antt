-- A station: what its calls and events do.
use Rattle.std.specs.Prelude.{◌≡◌, ◌≤◌, ◌+◌, ◌*◌, ◌==◌, ℕ, Bool, true, false, List, [], ⊤, Option, None, Some, Result, Ok, Err, length, nat_le}
use Rattle.std.specs.Prelude.{MatchBool, MatchOption}
use Rattle.sdr_base.specs.declared.refusal.Refusal.TheVariants as refusals
use Rattle.sdr_base.specs.declared.stop.Stop.{Stop}
use Rattle.sdr_base.specs.declared.stop.Stop.TheVariants as stops
use Rattle.sdr_disk.specs.Moments.{Reads}
use Rattle.sdr_disk.specs.declared.disk.Disk.{Ghosts as DiskGhosts}
use Rattle.sdr_log.specs.Log.{first_gate}
use Rattle.sdr_machine.specs.Crash.{LeavesOr, is_kept}
use Rattle.sdr_machine.specs.Lapses.{HasLapseCause}
use Rattle.sdr_machine.specs.Nesting.{Inner, closing, deepened, nested, noted, unbegun}
use Rattle.sdr_image.specs.Opened.{IsQuiet}
use Rattle.sdr_image.specs.Saved.{calls_of}
use Rattle.sdr_machine.specs.Serving.{Brings, Calls, KeepsGround, MeetsFault, Settles, SameStates, shown_in}
use Rattle.sdr_machine.specs.Standing.{GroundState}
use Rattle.sdr_machine.specs.declared.has_ground.HasGround.{Ghosts}
use Rattle.sdr_machine.specs.declared.nesting.Nesting.{Nesting}
use Rattle.sdr_model.specs.declared.answer.Answer.{Answer}
use Rattle.sdr_model.specs.declared.answer.Answer.TheVariants as answers
use Rattle.sdr_model.specs.declared.answer.Close.{Close}
use Rattle.sdr_model.specs.declared.answer.Close.TheVariants as closes
use Rattle.sdr_model.specs.declared.answer.Reply.{Reply}
use Rattle.sdr_model.specs.declared.answer.Reply.TheVariants as replies
use Rattle.sdr_model.specs.declared.call.Call.{Call}
use Rattle.sdr_model.specs.declared.event.Event.{Event}
use Rattle.sdr_station.specs.Giving.{reads_by}
use Rattle.sdr_station.specs.Grounded.{Grounded, StandsInMemory, without_moves}
use Rattle.sdr_station.specs.declared.error.Shut.{Shut}
use Rattle.sdr_station.specs.declared.station.Closed.{Closed}
use Rattle.sdr_station.specs.declared.station.Closed.TheVariants as closed

-- the ground, the nesting of the open transaction, and the disk's moment as it failed
pub record Stationed (D M : Type 0) : Type 0 where
  pub ground : Grounded D M
  pub nesting : Nesting
  pub failed : Option ℕ

-- Unless the disk has failed: where the transaction isn't doomed, no call was stopped in it; and where none has begun, none is
-- doomed, and no call was made.
pub record IsStation {D M : Type 0} (ground : Grounded D M) (nesting : Nesting) (failed : Option ℕ) : Type 0 where
  pub going : failed ≡ None → nesting.doom ≡ None → ground.stopped ≡ false
  pub idle : failed ≡ None → nesting.depth ≡ 0 → nesting.doom ≡ None
  pub outside : failed ≡ None → nesting.depth ≡ 0 → ground.idle ≡ true
  pub sound : failed ≡ None → ground.heap.cells.failed ≡ false

-- the disk of a station that was opened, or of what is left where none was
abbrev pub disk_under : {D M : Type 0} → Result (Stationed D M) (Shut D M) → D
disk_under (Ok s) = s.ground.heap.cells.disk
disk_under (Err shut) = shut.disk

-- and its media
abbrev pub media_under : {D M : Type 0} → Result (Stationed D M) (Shut D M) → M
media_under (Ok s) = s.ground.media
media_under (Err shut) = shut.media

-- the answer to an inner close, as a depth
abbrev pub HasRisen : Answer → Result Closed Stop → Type 0
HasRisen (answers.Depth depth) result = result ≡ Ok (closed.Depth depth)
HasRisen answer result = ⊤

-- the answer tells what an event came to: a depth, or a refusal
abbrev pub IsToldAs : Answer → Result ℕ Stop → Type 0
IsToldAs (answers.Depth depth) (Ok told) = told ≡ depth
IsToldAs (answers.Reply (replies.Refused refusal)) (Err (stops.Refused told)) = told ≡ refusal
IsToldAs answer result = ⊥

-- an inner begin, or the first one
pub record Deepens {D M : Type 0} (inner : Inner) (old new : Stationed D M) (result : Result ℕ Stop) : Type 0 where
  pub told : IsToldAs inner.answer result
  pub after : new ≡ record old { nesting = inner.after }

-- what a begin does: the first one opens, another one is one deeper or refused, and after a disk fault it fails
abbrev pub Begins : {D M : Type 0} → Stationed D M → Stationed D M → Result ℕ Stop → Type 0
Begins old new result =
    MatchOption old.failed
    (MatchBool (old.nesting.depth == 0)
    ((result ≡ Ok 1) × (new ≡ record old { nesting = nested 1 }))
    (Deepens (deepened old.nesting) old new result))
    (λ moment. (result ≡ Err stops.Failed) × (new ≡ old))

-- A call in a transaction that isn't doomed is a step, and is noted. That media failed, or had too few bytes, has its cause, and
-- media are as they were where the call may not have read them.
pub record Says {D M : Type 0} (g : Ghosts (Grounded D M)) (call : Call) (reply : Reply) (old new : Stationed D M) : Type 0 where
  pub memory : Brings StandsInMemory old.ground new.ground (Calls (g.told old.ground) call reply)
  pub steps : Brings g.stands old.ground new.ground (Calls (g.told old.ground) call reply)
  pub nesting : new.nesting ≡ noted call reply old.nesting
  pub failed : new.failed ≡ None
  pub restored : new.ground.restored ≡ old.ground.restored
  pub gap : HasLapseCause (answers.Reply reply) (g.lapses old.ground) (g.lapses new.ground)
  pub unread : reads_by call reply ≡ false → new.ground.media ≡ old.ground.media
  pub keeps : KeepsGround g true old.ground new.ground

-- a call that isn't made has no moves, and all else is as it was
abbrev pub IsUnmade : {D M : Type 0} → Stationed D M → Stationed D M → Type 0
IsUnmade old new = new ≡ record old { ground = without_moves old.ground new.ground.heap.spare }

-- The disk failed in a call or a look, whose moment is kept. The transaction is nested as it was, but nothing stands any more.
pub record FailsWithin {D M : Type 0} (g : Ghosts (Grounded D M)) (old new : Stationed D M) : Type 0 where
  pub fault : MeetsFault g old.ground new.ground
  pub failed : new.failed ≡ Some (g.moment new.ground)
  pub nesting : new.nesting ≡ old.nesting
  pub restored : new.ground.restored ≡ old.ground.restored

-- what a call that is made comes to: a step, or the disk fails in it
abbrev pub SaysOrFails : {D M : Type 0} → Ghosts (Grounded D M) → Call → Reply → Stationed D M → Stationed D M → Type 0
SaysOrFails g call replies.DiskFault old new = FailsWithin g old new
SaysOrFails g call reply old new = Says g call reply old new

-- what a call does: it is a step or the disk fails in it, or it is refused where the transaction is doomed, or fails after a disk fault
abbrev pub SaysOr : {D M : Type 0} → Ghosts (Grounded D M) → Call → Reply → Stationed D M → Stationed D M → Type 0
SaysOr g call reply old new =
    MatchOption old.failed
    (MatchOption old.nesting.doom
    (SaysOrFails g call reply old new)
    (λ by. (reply ≡ replies.Refused (refusals.Doomed by)) × IsUnmade old new))
    (λ moment. (reply ≡ replies.Failed moment) × IsUnmade old new)

-- how an outermost close is told
abbrev pub closed_as : Close → Closed
closed_as closes.Ended = closed.Ended
closed_as closes.Exited = closed.Exited
closed_as (closes.Cancelled reason) = closed.Cancelled reason
closed_as closes.Faulted = closed.Exited

-- a transaction that closed so was committed or rolled back, and is told so
pub record ClosesWell {D M : Type 0} (g : Ghosts (Grounded D M)) (close : Close) (old new : Stationed D M) (told : Closed)
    : Type 0 where
  pub is_told : told ≡ closed_as close
  pub memory : Brings StandsInMemory old.ground new.ground (Settles close)
  pub settles : Brings g.stands old.ground new.ground (Settles close)
  pub failed : new.failed ≡ None

-- the disk failed as a transaction closed, whose moment is kept
pub record ClosesFailing {D M : Type 0} (g : Ghosts (Grounded D M)) (old new : Stationed D M) (stop : Stop) : Type 0 where
  pub is_fault : stop ≡ stops.DiskFault
  pub fault : MeetsFault g old.ground new.ground
  pub failed : new.failed ≡ Some (g.moment new.ground)

-- an outermost close: the transaction is kept or put back, and told so, or the disk failed
abbrev pub ClosesWith : {D M : Type 0} → Ghosts (Grounded D M) → Close → Stationed D M → Stationed D M → Result Closed Stop → Type 0
ClosesWith g close old new (Ok told) = ClosesWell g close old new told
ClosesWith g close old new (Err stop) = ClosesFailing g old new stop

-- What a close asks of a disk of these bytes: nothing where the transaction has touched no line, or is put back and no batch is open,
-- and else at most as many writes and syncs as a commit of so many lines.
pub record AsksDisk {D M : Type 0} (bytes : D → List ℕ) (g : Ghosts (Grounded D M)) (keeps : Bool) (old new : Grounded D M) : Type 0 where
  pub unkept : keeps ≡ false → first_gate (bytes old.heap.cells.disk) ≡ 0 → new.heap.cells.disk ≡ old.heap.cells.disk
  pub still : old.heap.cells.touched ≡ [] → new.heap.cells.disk ≡ old.heap.cells.disk
  pub calls : g.moment new ≤ g.moment old + 2 * calls_of (length old.heap.cells.touched)

-- an outermost close, after which no transaction has begun
pub record Closes {D M : Type 0} (bytes : D → List ℕ) (g : Ghosts (Grounded D M)) (close : Close) (old new : Stationed D M)
    (result : Result Closed Stop) : Type 0 where
  pub closes : ClosesWith g close old new result
  pub nesting : new.nesting ≡ unbegun
  pub restored : new.ground.restored ≡ old.ground.restored
  pub media : new.ground.media ≡ old.ground.media
  pub disk : AsksDisk bytes g (is_kept close) old.ground new.ground
  pub keeps : KeepsGround g false old.ground new.ground
  pub any_moment : LeavesOr (is_kept close) g old.ground new.ground

-- an inner close: one less deep
pub record Rises {D M : Type 0} (inner : Inner) (old new : Stationed D M) (result : Result Closed Stop) : Type 0 where
  pub depth : ℕ
  pub told : result ≡ Ok (closed.Depth depth)
  pub is : inner.answer ≡ answers.Depth depth
  pub after : new ≡ record old { nesting = inner.after }

-- what an end, a cancel or an exit does
abbrev pub ClosesBy : {D M : Type 0} → (D → List ℕ) → Ghosts (Grounded D M) → Event → (Nesting → Inner) → Stationed D M → Stationed D M
    → Result Closed Stop → Type 0
ClosesBy bytes g event inner old new result =
    MatchOption old.failed
    (MatchBool (nat_le old.nesting.depth 1)
    (Closes bytes g (closing old.nesting event) old new result)
    (Rises (inner old.nesting) old new result))
    (λ moment. (result ≡ Err stops.Failed) × (new ≡ old))

-- what is told of a ticket: whether it is granted, or that there is none
abbrev pub IsTicketTold : ℕ → Option Bool → Result Bool Stop → Type 0
IsTicketTold ticket None result = result ≡ Err (stops.Refused (refusals.BadTicket ticket))
IsTicketTold ticket (Some granted) result = result ≡ Ok granted

-- A look told what the world before the transaction shows of the ticket. All stays but for the heap in memory, which stands for what it
-- did.
pub record LooksWell {D M : Type 0} (ticket : ℕ) (old new : Stationed D M) (result : Result Bool Stop) : Type 0 where
  pub told : (v : GroundState) → StandsInMemory old.ground v → IsTicketTold ticket (shown_in v.before.world ticket) result
  pub after : new ≡ record old { ground = record old.ground { heap = new.ground.heap } }
  pub still : Brings StandsInMemory old.ground new.ground SameStates

-- what a look comes to: the ticket is told of, or the disk fails in it
abbrev pub LooksOrFails : {D M : Type 0} → Ghosts (Grounded D M) → ℕ → Stationed D M → Stationed D M → Result Bool Stop → Type 0
LooksOrFails g ticket old new (Err stops.DiskFault) = FailsWithin g old new
LooksOrFails g ticket old new result = LooksWell ticket old new result

-- what a look does: it tells of the ticket or the disk fails in it, or it fails after a disk fault, and all stays
abbrev pub LooksAt : {D M : Type 0} → Ghosts (Grounded D M) → ℕ → Stationed D M → Stationed D M → Result Bool Stop → Type 0
LooksAt g ticket old new result =
    MatchOption old.failed
    (LooksOrFails g ticket old new result)
    (λ moment. (result ≡ Err stops.Failed) × (new ≡ old))

-- in a look the disk is only read, and the media stay
pub record StaysLooked {D M : Type 0} (d : DiskGhosts D) (old new : Stationed D M) : Type 0 where
  pub reads : Reads d.bytes d.tells_crashes d.moment d.may_hold_after old.ground.heap.cells.disk new.ground.heap.cells.disk
  pub quiet : IsQuiet d.bytes d.tells_crashes d.moment d.may_hold_after old.ground.heap.cells new.ground.heap.cells
  pub media : new.ground.media ≡ old.ground.media
