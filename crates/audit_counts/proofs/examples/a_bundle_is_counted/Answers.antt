use Rattle.std.proofs.Common.{refl}
use Rattle.sdr_base.specs.Entries.{at}
use Rattle.sdr_base.specs.Linked.{linked}
use Rattle.sdr_base.specs.Stored.{number_at}
use Rattle.sdr_base.specs.Words.{layout}
use Rattle.audit_counts.proofs.examples.a_bundle_is_counted.Goals as goal

pub returns-clause-chain : goal.returns-clause-chain
unfolding at layout linked number_at
returns-clause-chain c = refl

pub returns-clause-outbound : goal.returns-clause-outbound
unfolding at layout linked number_at
returns-clause-outbound c = refl

pub returns-clause-inbound : goal.returns-clause-inbound
unfolding at layout linked number_at
returns-clause-inbound c = refl

pub returns-clause-file : goal.returns-clause-file
unfolding at layout linked number_at
returns-clause-file c = refl

pub returns-clause-bulk : goal.returns-clause-bulk
unfolding at layout linked number_at
returns-clause-bulk c = refl

pub returns-clause-heap : goal.returns-clause-heap
unfolding at layout linked number_at
returns-clause-heap c = refl

pub returns-clause-other : goal.returns-clause-other
unfolding at layout linked number_at
returns-clause-other c = refl

pub returns-clause-elsewhere : goal.returns-clause-elsewhere
unfolding at layout linked number_at
returns-clause-elsewhere c = refl
