-- The ticket is linked past, and goes.
use Rattle.std.proofs.lemmas.Result.{on_ok_weaker}
use Rattle.zco_space.proofs.OutLemmas.{previous_reaches, still, takes_out}
use Rattle.zco_space.proofs.shredding.take_out.Goals as goal

pub link_next-requires-clause-prev : goal.link_next-requires-clause-prev
link_next-requires-clause-prev g c = previous_reaches c.requires.first

pub give-requires-clause-used : goal.give-requires-clause-used
give-requires-clause-used g c =
    still c.args.found.now c.in_ok-link_next.ensures.linked c.in_ok-link_last.ensures.linked c.requires.first

pub returns-clause-taken : goal.returns-clause-taken
returns-clause-taken g c =
    on_ok_weaker _
    (λ w. takes_out c.args.found.now c.in_ok-link_next.ensures.linked c.in_ok-link_last.ensures.linked (g.O.HasHeap.heap c.give.new.self) w)
    c.give.ensures.given
