-- A list of a heap that is read element by element.
use Rattle.std.specs.Prelude.{◌≡◌, ◌≤◌, ◌*◌, ℕ, Some, length, take}
use Rattle.run_load.specs.Asking.{AsksOnly}
use Rattle.sdr_disk.specs.declared.disk.Disk.{Ghosts as DiskGhosts}
use Rattle.run_load.specs.Listed.{bytes_named, elements_at, list_at}
use Rattle.sdr_machine.specs.Standing.{GroundState}
use Rattle.sdr_model.specs.Limits.{longest_raw}
use Rattle.sdr_model.specs.ListSteps.{element_addr}
use Rattle.sdr_model.specs.World.{World}
use Rattle.sdr_model.specs.declared.things.SdrList.{SdrList}
use Rattle.sdr_station.specs.Grounded.{Grounded, StandsInMemory}

-- a list of so many elements is at an address of a world
pub record HasList (addr count : ℕ) (w : World) : Type 0 where
  pub row : SdrList
  pub there : list_at w addr ≡ Some row
  pub long : length row.elements ≡ count

-- The element at this place of a list is here, and so many bytes were named by those before it.
pub record IsAtPlace (addr place element bytes : ℕ) (w : World) : Type 0 where
  pub element_is : element ≡ element_addr (elements_at w addr) place
  pub bytes_are : bytes ≡ bytes_named w (take place (elements_at w addr))

-- A list of so many elements, if it is there, is read up to a place.
pub record ReadsTo {D M : Type 0} (d : DiskGhosts D) (addr count place element bytes : ℕ) (old now : Grounded D M) : Type 0 where
  pub asks : AsksOnly d old now
  pub each : (v : GroundState) → StandsInMemory old v → HasList addr count v.now.world → IsAtPlace addr place element bytes v.now.world
  pub few : bytes ≤ place * longest_raw
