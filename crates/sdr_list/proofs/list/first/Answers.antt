-- The word of the list's block says it.
use Rattle.sdr_base.specs.Linked.{first_of}
use Rattle.sdr_base.specs.Lists.{addr_of}
use Rattle.sdr_list.proofs.KeptLemmas.{told_of_list, first_is}
use Rattle.sdr_list.proofs.list.first.Goals as goal

pub returns-clause-given : goal.returns-clause-given
returns-clause-given g c =
    told_of_list c.list_word.result 2 (λ row. first_of addr_of 0 row.elements) (λ value h row k. first_is h k) c.list_word.ensures.found c.list_word.ensures.given
