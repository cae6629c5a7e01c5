-- A plain machine, as contracts see it.
use Rattle.std.specs.Prelude.{◌≡◌, ◌≤◌, ℕ, List, Option}
use Rattle.sdr_base.specs.Media.{Told}
use Rattle.sdr_machine.specs.Core.{Core}
use Rattle.sdr_machine.specs.Leaving.{AllLeave}
use Rattle.sdr_machine.specs.Machine.{Machine, Made}
use Rattle.sdr_machine.specs.Roll.{Roll, first_roll}
use Rattle.sdr_model.specs.Few.{most_pieces}
use Rattle.sdr_model.specs.World.{empty_world}
use Rattle.sdr_model.specs.declared.event.Leave.{Leave}
use Rattle.mem_machine.specs.Memory.{Worlds, machine_on}

-- the roll of its lock, its worlds, and how many events were made
pub record Plain : Type 0 where
  pub roll : Roll
  pub worlds : Worlds
  pub events : ℕ

-- a plain machine of these daemons before any event
abbrev pub first_plain : List ℕ → Plain
first_plain daemons = record { roll = first_roll daemons; worlds = record { begun = empty_world; now = empty_world }; events = 0 }

-- the machine that it is
abbrev pub machine_of : Plain → Machine
machine_of p = machine_on p.roll p.worlds

-- no more numbers were drawn than events were made, at most 2^22
pub record IsCounted (events : ℕ) (r : Roll) : Type 0 where
  pub few : events ≤ most_pieces
  pub drawn : r.drawn ≤ events

-- some events lead to a core at this machine, of which P tells
pub record MadeTo (m' : Machine) (P : List Made → Core → Type 0) : Type 0 where
  pub made : List Made
  pub core : Core
  pub tells : P made core
  pub machine : core.machine ≡ m'

-- whatever core is at m, all make their leaves at the end of the input, and it then is at m'
pub record AllLeaveFrom (leave : Leave) (m m' : Machine) : Type 0 where
  pub each : (told : Option Told) (c : Core) → c.machine ≡ m → MadeTo m' (AllLeave told leave c)
