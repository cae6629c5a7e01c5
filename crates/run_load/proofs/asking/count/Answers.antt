use Rattle.std.proofs.Common.{◌∙◌}
use Rattle.run_load.proofs.ReadingLemmas.{few_counted}
use Rattle.run_load.proofs.ReplyLemmas.{counts}
use Rattle.run_load.proofs.asking.count.Goals as goal

pub returns-clause-counted : goal.returns-clause-counted
returns-clause-counted g c v at = c.value_in.ensures ∙ counts v.now.world c.in_ok-reply.reply c.args.list (c.in_ok-reply.ensures.answers v at)

pub returns-clause-few : goal.returns-clause-few
returns-clause-few g c =
    let some = c.requires.ready.stands in
    few_counted c.args.base.now some.for c.args.list some.holds c.value_in.result
    (c.value_in.ensures ∙ counts some.for.now.world c.in_ok-reply.reply c.args.list (c.in_ok-reply.ensures.answers some.for some.holds))
