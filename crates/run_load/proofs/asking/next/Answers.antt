use Rattle.std.proofs.Common.{◌∙◌, ap, unwrap_or}
use Rattle.run_load.proofs.ReplyLemmas.{comes_next}
use Rattle.run_load.proofs.asking.next.Goals as goal

pub returns-clause-next : goal.returns-clause-next
returns-clause-next g c v spot at there =
    c.unwrap_or.ensures ∙ ap (λ o. unwrap_or o 0) (c.addr_in.ensures ∙ comes_next v.now.world c.in_ok-reply.reply c.args.element spot (c.in_ok-reply.ensures.answers v at) there)
