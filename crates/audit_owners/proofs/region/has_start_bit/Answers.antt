use Rattle.std.proofs.Common.{refl}
use Rattle.sdr_base.specs.Stored.{start_bit}
use Rattle.audit_owners.proofs.region.has_start_bit.Goals as goal

pub returns : goal.returns
unfolding start_bit
returns c = refl
