-- The one word or the other is set.
use Rattle.std.proofs.Common.{arith}
use Rattle.std.proofs.lemmas.Result.{on_ok_weaker}
use Rattle.sdr_base.proofs.WritingLemmas.{reaches_less}
use Rattle.zco_part.proofs.WholeLemmas.{follows_first, follows_next}
use Rattle.zco_part.proofs.copying.link_behind.Goals as goal

pub set_word-requires-clause-inside : goal.set_word-requires-clause-inside
set_word-requires-clause-inside g c = reaches_less _ 72 16 c.requires.object (omega arith)

pub set_word-requires-else-last-eq0-clause-inside : goal.set_word-requires-else-last-eq0-clause-inside
set_word-requires-else-last-eq0-clause-inside g c = c.requires.last c.if-last-eq0.false

pub returns-then-last-eq0-clause-linked : goal.returns-then-last-eq0-clause-linked
returns-then-last-eq0-clause-linked g c = on_ok_weaker _ (λ w. follows_first c.if-last-eq0.true w) c.set_word.ensures.written

pub returns-else-last-eq0-clause-linked : goal.returns-else-last-eq0-clause-linked
returns-else-last-eq0-clause-linked g c =
    on_ok_weaker _ (λ w. follows_next c.if-last-eq0.false w) c.set_word-else-last-eq0.ensures.written
