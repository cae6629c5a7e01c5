-- The draft of an event, and what there is room for in it.
use Rattle.std.specs.Prelude.{◌≡◌, ◌≤◌, [], length, vec_capacity}
use Rattle.sdr_model.specs.declared.event.Event.{Event}
use Rattle.sdr_model.specs.declared.journal.Said.{Said}
use Rattle.sdr_core.specs.declared.draft.Draft.{Draft}
use Rattle.sdr_machine.specs.declared.tells.Room.{Room}

-- Nothing stands in the draft yet.
pub record IsBlank (draft : Draft) : Type 0 where
  pub moves : draft.moves.items ≡ []
  pub bytes : draft.bytes.items ≡ []

-- There is room in the draft for the moves and the bytes of what was said.
pub record FitsIn (draft : Draft) (said : Said) : Type 0 where
  pub moves : length said.moves ≤ vec_capacity draft.moves
  pub bytes : length said.bytes ≤ vec_capacity draft.bytes

-- A blank draft of this event, with so much room.
pub record IsDraft (draft : Draft) (event : Event) (room : Room) : Type 0 where
  pub event_is : draft.event ≡ event
  pub blank : IsBlank draft
  pub moves : room.moves ≤ vec_capacity draft.moves
  pub bytes : room.bytes ≤ vec_capacity draft.bytes
