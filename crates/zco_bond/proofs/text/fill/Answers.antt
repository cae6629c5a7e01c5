-- The whole block is read, and its link is set to 0.
use Rattle.std.proofs.Common.{arith}
use Rattle.zco_bond.proofs.TextLemmas.{fills_raw, text_reaches}
use Rattle.zco_bond.proofs.text.fill.Goals as goal

pub get-requires-clause-inside : goal.get-requires-clause-inside
get-requires-clause-inside g c = text_reaches c.requires.text _ (let l = c.requires.long in omega (arith, l))

pub returns-clause-filled : goal.returns-clause-filled
returns-clause-filled g c =
    fills_raw c.requires.text c.get.new.into c.put_at.new.bytes (rw c.requires.long at c.in_ok-get.ensures.given) c.put_at.ensures
