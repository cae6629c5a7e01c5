-- Its number is read.
use Rattle.std.proofs.Common.{arith}
use Rattle.zco_ref.proofs.KeptLemmas.{source_reaches}
use Rattle.zco_wire.proofs.SeeingLemmas.{sees_medium}
use Rattle.zco_wire.proofs.source.medium.Goals as goal

pub word-requires-clause-inside : goal.word-requires-clause-inside
word-requires-clause-inside g c = source_reaches c.requires.source.keeps 8 (omega arith)

pub returns-clause-seen : goal.returns-clause-seen
returns-clause-seen g c = sees_medium c.in_ok-number.number c.medium_of.result c.in_ok-number.ensures.given c.medium_of.ensures
