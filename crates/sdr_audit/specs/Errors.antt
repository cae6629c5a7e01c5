-- How a fault is told by an audit.
use Rattle.std.specs.Prelude.{◌≡◌}
use Rattle.sdr_base.specs.declared.stop.Stop.{Stop}
use Rattle.sdr_base.specs.declared.stop.Stop.TheVariants as stops
use Rattle.sdr_audit.specs.declared.error.AuditError.{AuditError}
use Rattle.sdr_audit.specs.declared.error.AuditError.TheVariants as errors

-- the error tells why the cells stopped
abbrev pub HasStop : AuditError → Stop → Type 0
HasStop error stops.DiskFault = error ≡ errors.DiskFault
HasStop error stop = error ≡ errors.Failed
