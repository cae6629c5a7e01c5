-- The list or the element says what follows.
use Rattle.std.proofs.Common.{arith}
use Rattle.std.proofs.lemmas.Result.{IfOk-weaker}
use Rattle.sdr_base.proofs.WritingLemmas.{reaches_less}
use Rattle.sdr_list.specs.Gaps.{FollowsIn}
use Rattle.sdr_list.proofs.KeptLemmas.{list_reaches}
use Rattle.sdr_list.proofs.PlaceLemmas.{first_follows, next_follows, place_reaches}
use Rattle.sdr_list.proofs.ordered.following.Goals as goal

pub word-requires-clause-inside : goal.word-requires-clause-inside
word-requires-clause-inside g c = reaches_less _ 32 _ (list_reaches c.requires.place.keeps) (omega arith)

pub word-requires-else-prev-eq0-clause-inside : goal.word-requires-else-prev-eq0-clause-inside
word-requires-else-prev-eq0-clause-inside g c =
    reaches_less _ 32 _ (place_reaches c.requires.place c.if-prev-eq0.false) (omega arith)

pub returns-then-prev-eq0-clause-given : goal.returns-then-prev-eq0-clause-given
returns-then-prev-eq0-clause-given g c =
    IfOk-weaker _ _ (FollowsIn (g.O.HasHeap.heap c.args.o.now).blocks c.args.list c.args.prev)
    (λ next h. first_follows h c.if-prev-eq0.true) c.word.ensures.given

pub returns-else-prev-eq0-clause-given : goal.returns-else-prev-eq0-clause-given
returns-else-prev-eq0-clause-given g c =
    IfOk-weaker _ _ (FollowsIn (g.O.HasHeap.heap c.args.o.now).blocks c.args.list c.args.prev)
    (λ next h. next_follows h c.if-prev-eq0.false) c.word-else-prev-eq0.ensures.given
