-- Disks that don't tell what a crash may leave.
use Rattle.std.specs.Prelude.{false}
use Rattle.sdr_disk.specs.Tells.{IfTells}

-- what is said of that holds where it isn't told
pub untold : {P : Type 0} → IfTells false P
untold told = absurd cc
