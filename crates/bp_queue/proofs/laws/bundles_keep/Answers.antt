-- What the calls on queues hand on.
use Rattle.std.proofs.Common.{arith}
use Rattle.bp_queue.proofs.BundleLemmas.{some_overdue, some_queue, some_queues}
use Rattle.bp_queue.proofs.HandingLemmas.{created, expired, made, put, taken}
use Rattle.bp_queue.proofs.laws.bundles_keep.Goals as goal

pub returns-clause-created : goal.returns-clause-created
returns-clause-created c = λ q room old new h r m. created h r m

pub returns-clause-made : goal.returns-clause-made
returns-clause-made c = λ q loose room acct object old new s m. made s m (omega arith)

pub returns-clause-put : goal.returns-clause-put
returns-clause-put c = λ q before behind room w old new s p. put before behind s p

pub returns-clause-taken : goal.returns-clause-taken
returns-clause-taken c = λ q loose room object old new s t. taken s t (omega arith)

pub returns-clause-expired : goal.returns-clause-expired
returns-clause-expired c = λ q loose room now count old new s e. expired s e

pub returns-clause-queues : goal.returns-clause-queues
returns-clause-queues c = λ q loose room heap s. some_queues s.keeps

pub returns-clause-tickets : goal.returns-clause-tickets
returns-clause-tickets c = λ q loose room heap acct s. some_queue s.keeps acct

pub returns-clause-overdue : goal.returns-clause-overdue
returns-clause-overdue c = λ q loose room now heap s. some_overdue s.keeps now

pub returns-clause-spare : goal.returns-clause-spare
returns-clause-spare c = λ q loose room heap s. let r = s.keeps.spare in omega (arith, r)
