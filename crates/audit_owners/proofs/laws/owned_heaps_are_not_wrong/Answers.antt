use Rattle.audit_owners.proofs.LawLemmas.{not_wrong}
use Rattle.audit_owners.proofs.laws.owned_heaps_are_not_wrong.Goals as goal

pub returns : goal.returns
returns c heap words place owned wrong = not_wrong heap words place owned wrong
