use Rattle.std.proofs.Common.{◌/◌, ℕ, length, arith}
use Rattle.audit_owners.proofs.KeyedLemmas.{keyed, keyed_not_wrong}
use Rattle.audit_owners.specs.View.{view_in}
use Rattle.audit_owners.proofs.key_laws.keyed_regions_are_not_wrong.Goals as goal

pub returns-clause-right : goal.returns-clause-right
returns-clause-right c bytes region none =
    let whole = region.whole in
    let words : ℕ = length bytes / 8 in
    keyed bytes words (omega (arith, whole)) none

pub returns-clause-not_wrong : goal.returns-clause-not_wrong
returns-clause-not_wrong c bytes right = keyed_not_wrong (view_in bytes) (length bytes / 8) right
