use Rattle.std.proofs.Common.{◌∙◌, ap, unwrap_or}
use Rattle.run_load.proofs.ReplyLemmas.{comes_first}
use Rattle.run_load.proofs.asking.first.Goals as goal

pub returns-clause-first : goal.returns-clause-first
returns-clause-first g c v row at there =
    c.unwrap_or.ensures ∙ ap (λ o. unwrap_or o 0) (c.addr_in.ensures ∙ comes_first v.now.world c.in_ok-reply.reply c.args.list row (c.in_ok-reply.ensures.answers v at) there)
