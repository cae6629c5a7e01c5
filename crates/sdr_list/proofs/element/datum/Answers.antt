-- The word of the element's block says it.
use Rattle.sdr_list.proofs.KeptLemmas.{told_of_element, datum_is}
use Rattle.sdr_list.proofs.element.datum.Goals as goal

pub returns-clause-given : goal.returns-clause-given
returns-clause-given g c =
    told_of_element c.element_word.result 3 (λ spot. spot.datum) (λ value h spot s. datum_is h s) c.element_word.ensures.found
    c.element_word.ensures.given
