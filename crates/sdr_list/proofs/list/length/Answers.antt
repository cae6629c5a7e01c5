-- The word of the list's block says it.
use Rattle.std.proofs.Common.{length}
use Rattle.sdr_list.proofs.KeptLemmas.{told_of_list, length_is}
use Rattle.sdr_list.proofs.list.length.Goals as goal

pub returns-clause-given : goal.returns-clause-given
returns-clause-given g c =
    told_of_list c.list_word.result 1 (λ row. length row.elements) (λ value h row k. length_is h k) c.list_word.ensures.found c.list_word.ensures.given
