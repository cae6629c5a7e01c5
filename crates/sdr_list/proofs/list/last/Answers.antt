-- The word of the list's block says it.
use Rattle.sdr_base.specs.Linked.{last_of}
use Rattle.sdr_base.specs.Lists.{addr_of}
use Rattle.sdr_list.proofs.KeptLemmas.{told_of_list, last_is}
use Rattle.sdr_list.proofs.list.last.Goals as goal

pub returns-clause-given : goal.returns-clause-given
returns-clause-given g c =
    told_of_list c.list_word.result 3 (λ row. last_of addr_of 0 row.elements) (λ value h row k. last_is h k) c.list_word.ensures.found c.list_word.ensures.given
