-- The word of the list's block says it.
use Rattle.sdr_list.proofs.KeptLemmas.{told_of_list, user_is}
use Rattle.sdr_list.proofs.list.user_data.Goals as goal

pub returns-clause-given : goal.returns-clause-given
returns-clause-given g c =
    told_of_list c.list_word.result 0 (λ row. row.user) (λ value h row k. user_is h k) c.list_word.ensures.found c.list_word.ensures.given
