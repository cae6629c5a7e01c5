use Rattle.std.proofs.Common.{◌∙◌, ap, unwrap_or}
use Rattle.run_load.proofs.ReplyLemmas.{has_length}
use Rattle.run_load.proofs.asking.raw_length.Goals as goal

pub returns-clause-long : goal.returns-clause-long
returns-clause-long g c v bytes at raw =
    c.unwrap_or.ensures ∙ ap (λ o. unwrap_or o 0) (c.value_in.ensures ∙ has_length v.now.world c.in_ok-reply.reply c.args.addr bytes (c.in_ok-reply.ensures.answers v at) raw)
