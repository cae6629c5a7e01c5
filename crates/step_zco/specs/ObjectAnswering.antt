-- The calls on zero-copy objects: what they grant, and how many lines some of them touch.
use Rattle.std.specs.Prelude.{◌+◌, ◌*◌, ℕ, length, is_some, if◌then◌else◌}
use Rattle.std.specs.Option.{option_map_or}
use Rattle.sdr_machine.specs.Demand.{grants_between}
use Rattle.sdr_model.specs.Gone.{gone_things, without_things}
use Rattle.sdr_model.specs.ObjectSteps.{with_object, without_header, without_trailer}
use Rattle.sdr_model.specs.Queue.{with_served}
use Rattle.sdr_model.specs.RowMoves.{destroyed_blocks}
use Rattle.sdr_model.specs.Steps.{without_thing}
use Rattle.sdr_model.specs.World.{World}
use Rattle.sdr_model.specs.Zco.{object_at, source_at}
use Rattle.sdr_model.specs.declared.call.Call.{Call}
use Rattle.sdr_model.specs.declared.call.Call.TheVariants as calls
use Rattle.sdr_model.specs.declared.zco.ZcoObject.{ZcoObject}

-- the world in which the object at an address has become another, and the queue of its account was served
abbrev pub left_with : World → ℕ → (ZcoObject → ZcoObject) → World
left_with w object after =
    option_map_or (λ z. with_served (with_object w object (after z)) z.account) (object_at w object) w

-- the world in which the object at an address is gone, with what goes with its extents, and the queue of its account was served
abbrev pub left_without : World → ℕ → World
left_without w object =
    option_map_or
    (λ z. with_served (without_thing (without_things w (gone_things w z.extents z.extents)) object) z.account)
    (object_at w object) w

-- The world that a call leaves which its row answers, where that serves a queue.
abbrev pub world_left : World → Call → World
world_left w (calls.DiscardFirstHeader object) = left_with w object without_header
world_left w (calls.DiscardLastTrailer object) = left_with w object without_trailer
world_left w (calls.Destroy object) = left_without w object
world_left w call = w

-- how many tickets it grants
abbrev pub grants_of : World → Call → ℕ
grants_of w call = grants_between w (world_left w call)

-- so many lines are touched at most where a part of a source is put behind an object's extents, or of a raw object that a new
-- source takes over
abbrev pub append_lines : World → ℕ → ℕ
append_lines w named = if is_some (source_at w named) then 42 else 73

-- so many where an object is destroyed: 28 for each block that goes, and 32 for each ticket that is granted
abbrev pub destroy_lines : World → ℕ → ℕ
destroy_lines w object =
    28 * length (destroyed_blocks w object (object_at w object)) + 32 * grants_of w (calls.Destroy object)
