-- The word of the element's block says it.
use Rattle.std.proofs.Common.{◌+◌}
use Rattle.sdr_list.specs.Kept.{addr_from}
use Rattle.sdr_list.proofs.KeptLemmas.{told_of_element, next_is}
use Rattle.sdr_list.proofs.element.next.Goals as goal

pub returns-clause-given : goal.returns-clause-given
returns-clause-given g c =
    told_of_element c.element_word.result 2 (λ spot. addr_from spot.row (spot.place + 1)) (λ value h spot s. next_is h s) c.element_word.ensures.found
    c.element_word.ensures.given
