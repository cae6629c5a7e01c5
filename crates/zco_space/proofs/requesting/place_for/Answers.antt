-- The place is before the ticket that was found, or at the end.
use Rattle.std.proofs.Common.{◌∙◌, ap}
use Rattle.zco_space.proofs.PlaceLemmas.{place_found, place_last}
use Rattle.zco_space.proofs.requesting.place_for.Goals as goal

pub returns-in-Some-clause-found : goal.returns-in-Some-clause-found
returns-in-Some-clause-found g c =
    place_found c.args.new.now c.in-Some.found (rw c.in-Some.is at c.in_ok-found.ensures.found)

pub returns-in_ok-previous-in-None-clause-found : goal.returns-in_ok-previous-in-None-clause-found
returns-in_ok-previous-in-None-clause-found g c =
    place_last c.args.new.now c.in_ok-previous-in-None.previous (rw c.in-None.is at c.in_ok-found.ensures.found)
    ((rw c.search.ensures.looks.same at c.in_ok-previous-in-None.ensures.given)
    ∙ ap (g.O.HasHeap.heap c.args.o.now).roots c.last_word.ensures.word)
