-- Calls that stop for want alone.
use Rattle.std.specs.Prelude.{⊤}
use Rattle.sdr_base.specs.declared.refusal.Refusal.TheVariants.{LogFull, NoBlock}
use Rattle.sdr_base.specs.declared.stop.Stop.{Stop}
use Rattle.sdr_base.specs.declared.stop.Stop.TheVariants.{Refused, DiskFault, MediaFault, Failed}

-- the call stopped for want of a block or of log room, or by a fault: so stops one that has changed something before
abbrev pub OnlyWanting : Stop → Type 0
OnlyWanting (Refused (NoBlock need)) = ⊤
OnlyWanting (Refused (LogFull lines room)) = ⊤
OnlyWanting (Refused refusal) = ⊥
OnlyWanting DiskFault = ⊤
OnlyWanting MediaFault = ⊥
OnlyWanting Failed = ⊤
