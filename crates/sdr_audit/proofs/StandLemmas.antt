-- A region for which a world stands passes each check.
use Rattle.std.proofs.Common.{ℕ, List, Result, Ok, Err, IfErr, OnOk, length}
use Rattle.sdr_stands.specs.Standing.{StandsForWhole}
use Rattle.sdr_base.specs.Cells.{IsRegionSize}
use Rattle.sdr_base.specs.Pools.{Pools}
use Rattle.sdr_audit.proofs.LawLemmas.{right_not_wrong}
use Rattle.sdr_audit.specs.Checked.{IsNoWorld, IsRight, TellsFirst}
use Rattle.sdr_audit.specs.declared.error.AuditError.{AuditError}
use Rattle.sdr_audit.specs.declared.error.AuditError.TheVariants as errors
use Rattle.sdr_model.specs.World.{World}
use Rattle.audit_owners.specs.Owned.{AreBytes}
use Rattle.audit_world.proofs.WorldLemmas.{stands_whole}
use Rattle.audit_world.specs.Standing.{StandsAsTold}
use Rattle.sdr_audit.proofs.RightLemmas.{world_right}
use Rattle.sdr_audit.proofs.SoundLemmas.{world_sound}

module _ (bytes : List ℕ) (are : AreBytes bytes) where
  world_passes : (w : World) (P : Pools) → StandsForWhole bytes w P → IsRight bytes
  world_passes w P stands = record {
    bytes_are = are;
    sound = record { small = P.small; large = P.large; sound = world_sound bytes w P stands are };
    things = world_right bytes w P stands are;
  }

  -- where something is wrong no world stands
  no_world : (error : AuditError) → TellsFirst bytes error → IsNoWorld bytes error
  no_world (errors.Damaged place why) wrong = λ w P stands. right_not_wrong bytes why place (world_passes w P stands) wrong
  no_world errors.DiskFault wrong = tt
  no_world errors.Failed wrong = tt
  no_world errors.NoMemory wrong = tt

  pub none_stands : {T : Type 0} (result : Result T AuditError) → IfErr result (TellsFirst bytes) → IfErr result (IsNoWorld bytes)
  none_stands (Ok value) wrong = tt
  none_stands (Err error) wrong = no_world error wrong

  -- where all is right one does
  pub right_stands : {T : Type 0} (result : Result T AuditError) → IsRegionSize (length bytes) → OnOk result (IsRight bytes) → OnOk result (StandsAsTold bytes)
  right_stands (Ok value) region right = stands_whole bytes region are right.sound right.things
  right_stands (Err error) region right = tt
