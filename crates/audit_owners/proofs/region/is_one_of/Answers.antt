use Rattle.std.proofs.Common.{sym}
use Rattle.sdr_base.specs.KeptHeap.{block_in}
use Rattle.audit_owners.proofs.OneOfLemmas.{one_of-unfound}
use Rattle.audit_owners.proofs.region.is_one_of.Goals as goal

pub returns-in-None : goal.returns-in-None
returns-in-None c = sym (one_of-unfound c.args.kinds.now (block_in c.args.heap.now c.args.addr) (sym c.in-None.ensures))
