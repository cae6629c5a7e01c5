use Rattle.std.proofs.Common.{◌∙◌}
use Rattle.sdr_base.specs.KeptHeap.{block_in}
use Rattle.audit_owners.proofs.RulesLemmas.{chained_so}
use Rattle.audit_owners.proofs.rules.is_chained.Goals as goal

pub returns : goal.returns
returns c = c.is_one_of.ensures ∙ chained_so (block_in c.args.heap.now c.args.addr)
