-- The word of the account is its number.
use Rattle.std.proofs.Common.{arith}
use Rattle.zco_obj.proofs.KeptLemmas.{object_reaches, tells_inbound, tells_outbound}
use Rattle.zco_obj.proofs.object.account.Goals as goal

pub word-requires-clause-inside : goal.word-requires-clause-inside
word-requires-clause-inside g c = object_reaches c.requires.object.keeps 8 (omega arith)

pub returns-then-number-eq0-clause-told : goal.returns-then-number-eq0-clause-told
returns-then-number-eq0-clause-told g c = tells_inbound c.in_ok-number.ensures.given c.if-number-eq0.true

pub returns-else-number-eq0-clause-told : goal.returns-else-number-eq0-clause-told
returns-else-number-eq0-clause-told g c = tells_outbound c.in_ok-number.ensures.given c.if-number-eq0.false
