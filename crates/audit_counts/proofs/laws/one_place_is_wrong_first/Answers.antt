use Rattle.audit_counts.proofs.LawLemmas.{first_once}
use Rattle.audit_counts.proofs.laws.one_place_is_wrong_first.Goals as goal

pub returns : goal.returns
returns c bytes why other place elsewhere first second = first_once bytes why other place elsewhere first second
