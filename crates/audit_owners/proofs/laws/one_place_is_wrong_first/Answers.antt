use Rattle.audit_owners.proofs.OneLemmas.{one_place}
use Rattle.audit_owners.proofs.laws.one_place_is_wrong_first.Goals as goal

pub returns : goal.returns
returns c heap words place other first second = one_place heap words place other first second
