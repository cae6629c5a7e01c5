use Rattle.std.proofs.Common.{◌∙◌, ap, unwrap_or}
use Rattle.run_load.proofs.ReplyLemmas.{data_is}
use Rattle.run_load.proofs.asking.datum.Goals as goal

pub returns-clause-datum : goal.returns-clause-datum
returns-clause-datum g c v spot at there =
    c.unwrap_or.ensures ∙ ap (λ o. unwrap_or o 0) (c.value_in.ensures ∙ data_is v.now.world c.in_ok-reply.reply c.args.element spot (c.in_ok-reply.ensures.answers v at) there)
