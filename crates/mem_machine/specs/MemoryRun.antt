-- A run on a world in memory, as contracts see it.
use Rattle.std.proofs.Common.{ap}
use Rattle.std.specs.Prelude.{◌≡◌, ◌≤◌, ℕ, List, [], None, Option, length, if◌then◌else◌}
use Rattle.sdr_base.specs.Media.{Told}
use Rattle.sdr_base.specs.declared.moves.Move.{Move}
use Rattle.sdr_machine.specs.Agreeing.{AgreesWith}
use Rattle.sdr_machine.specs.Core.{Core}
use Rattle.sdr_machine.specs.Holders.{HoldFirst}
use Rattle.sdr_machine.specs.Machine.{Machine, Made, MachineStep}
use Rattle.sdr_machine.specs.Roll.{Roll, first_roll}
use Rattle.sdr_machine.specs.Serving.{made_with}
use Rattle.sdr_machine.specs.Transaction.{bytes_given}
use Rattle.sdr_machine.specs.declared.came.Came.{Came}
use Rattle.sdr_model.specs.World.{empty_world}
use Rattle.sdr_model.specs.declared.event.Event.{Event}
use Rattle.mem_machine.specs.Memory.{Worlds, machine_on}

-- the roll of its lock, its worlds, and its media
pub record MemoryRun (M : Type 0) : Type 0 where
  pub roll : Roll
  pub worlds : Worlds
  pub media : M

-- a run of these daemons with media, before any event
abbrev pub first_run : {M : Type 0} → List ℕ → M → MemoryRun M
first_run daemons media =
    record { roll = first_roll daemons; worlds = record { begun = empty_world; now = empty_world }; media = media }

-- the machine that it is
abbrev pub machine_of : {M : Type 0} → MemoryRun M → Machine
machine_of k = machine_on k.roll k.worlds

-- there are few daemons, each that holds a number may, and there is no disk that failed
pub record IsKept (r : Roll) : Type 0 where
  pub few : length r.daemons ≤ 256
  pub first : HoldFirst [] r.daemons
  pub sound : r.failed ≡ None

-- An event of a daemon, of a statement on a line, as it was made with no disk, where the machine then is this: with these moves,
-- and the bytes that it shows.
abbrev pub made_dry : ℕ → ℕ → Event → Came → List Move → Machine → Made
made_dry daemon line event a moves m' = made_with daemon event a 0 0 line moves m'.now.world.shown

-- the bytes that an event gave, where the machine then is this
abbrev pub bytes_answered : Came → Machine → List ℕ
bytes_answered a m' = if a.called then bytes_given a.answer m'.now.world.shown else []

-- from m, an event of a daemon, of a statement on a line, may be answered so, and the machine goes on to m'
pub record StepsAt (m : Machine) (daemon line : ℕ) (event : Event) (a : Came) (m' : Machine) : Type 0 where
  pub moves : List Move
  pub step : MachineStep m (made_dry daemon line event a moves m') m'

-- the machine may answer a daemon's event so, of whatever statement it is, where media tell this, and goes on to m'
pub record Responds (told : Option Told) (m : Machine) (daemon : ℕ) (event : Event) (a : Came) (m' : Machine) : Type 0 where
  pub steps : (line : ℕ) → StepsAt m daemon line event a m'
  pub media : AgreesWith told m.now.world event a.answer (bytes_answered a m')

-- the run has come to a core at the machine that it is
abbrev pub IsAt : {M : Type 0} → MemoryRun M → Core → Type 0
IsAt k c = c.machine ≡ machine_of k

-- these are the bytes that its last event gave, which was answered so
abbrev pub GivesBytes : {M : Type 0} → MemoryRun M → Came → List ℕ → Type 0
GivesBytes k a bytes = bytes ≡ bytes_answered a (machine_of k)

-- its daemons are those of the core to which it has come
pub rolls_at : {M : Type 0} (k : MemoryRun M) (c : Core) → IsAt k c → c.machine.roll ≡ k.roll
rolls_at k c at = ap (λ (m : Machine). m.roll) at
