use Rattle.std.proofs.Common.{◌≡◌, ◌%◌, length, arith}
use Rattle.audit_owners.proofs.ChainLemmas.{chains_members}
use Rattle.audit_owners.proofs.key_laws.chains_are_members.Goals as goal

pub returns : goal.returns
returns c bytes owners reached region right =
    let whole = region.whole in
    let full : length bytes % 8 ≡ 0 = omega (arith, whole) in
    chains_members bytes owners reached full right
