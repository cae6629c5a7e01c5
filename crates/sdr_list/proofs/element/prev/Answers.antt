-- The word of the element's block says it.
use Rattle.sdr_list.specs.Kept.{addr_before}
use Rattle.sdr_list.proofs.KeptLemmas.{told_of_element, previous_is}
use Rattle.sdr_list.proofs.element.prev.Goals as goal

pub returns-clause-given : goal.returns-clause-given
returns-clause-given g c =
    told_of_element c.element_word.result 1 (λ spot. addr_before spot.row spot.place) (λ value h spot s. previous_is h s) c.element_word.ensures.found
    c.element_word.ensures.given
