use Rattle.std.proofs.Common.{◌∙◌}
use Rattle.run_load.proofs.ReplyLemmas.{gives_bytes}
use Rattle.run_load.proofs.asking.is_raw.Goals as goal

pub returns-clause-raw : goal.returns-clause-raw
returns-clause-raw g c v at = c.tells_bytes.ensures ∙ gives_bytes v.now.world c.in_ok-reply.reply c.args.addr (c.in_ok-reply.ensures.answers v at)
