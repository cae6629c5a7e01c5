-- It is linked past, and goes.
use Rattle.std.proofs.lemmas.Result.{on_ok_weaker}
use Rattle.zco_obj.proofs.PlaceLemmas.{before_reaches, gone_reaches, linked_reaches, removes, spot_reaches}
use Rattle.zco_obj.proofs.capsule.remove_capsule.Goals as goal

pub link_next-requires-clause-object : goal.link_next-requires-clause-object
link_next-requires-clause-object g c = spot_reaches c.requires.spot

pub link_next-requires-clause-prev : goal.link_next-requires-clause-prev
link_next-requires-clause-prev g c = before_reaches c.requires.spot

pub link_last-requires-clause-object : goal.link_last-requires-clause-object
link_last-requires-clause-object g c = linked_reaches c.in_ok-link_next.ensures.linked c.requires.spot

pub give-requires-clause-used : goal.give-requires-clause-used
give-requires-clause-used g c =
    gone_reaches c.in_ok-link_next.ensures.linked c.in_ok-link_last.ensures.linked c.requires.spot

pub returns-clause-removed : goal.returns-clause-removed
returns-clause-removed g c =
    on_ok_weaker _ (λ w. removes c.in_ok-link_next.ensures.linked c.in_ok-link_last.ensures.linked w) c.give.ensures.given
