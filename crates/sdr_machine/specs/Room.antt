-- What a call may need memory for in a journal.
use Rattle.std.specs.Prelude.{◌≤◌, length, ⊤}
use Rattle.sdr_machine.specs.Ground.{Replied, State, Steps}
use Rattle.sdr_machine.specs.Transaction.{bytes_given}
use Rattle.sdr_model.specs.declared.answer.Answer.TheVariants as answers
use Rattle.sdr_model.specs.declared.call.Call.{Call}
use Rattle.sdr_model.specs.declared.event.Event.{Event}
use Rattle.sdr_model.specs.declared.event.Event.TheVariants as events
use Rattle.sdr_machine.specs.declared.tells.Room.{Room}

-- There is room for the moves of what came of a call, and for the bytes that it gave.
pub record Holds (room : Room) (o : Replied) : Type 0 where
  pub moves : length o.moves ≤ room.moves
  pub bytes : length (bytes_given (answers.Reply o.reply) o.after.world.shown) ≤ room.bytes

-- there is room for whatever the call may come to from this state
abbrev pub HoldsAny : Room → State → Call → Type 0
HoldsAny room s call = (o : Replied) → Steps s call o → Holds room o

-- there is room for whatever the event may come to from this state
abbrev pub HoldsEvent : Room → State → Event → Type 0
HoldsEvent room s (events.Say call) = HoldsAny room s call
HoldsEvent room s event = ⊤
