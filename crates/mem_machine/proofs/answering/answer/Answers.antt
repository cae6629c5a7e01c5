use Rattle.std.proofs.Common.{Ok, ap, arith}
use Rattle.std.proofs.lemmas.Result.{IfOk-weaker}
use Rattle.mem_machine.proofs.AnsweringLemmas.{answers_unasked, uncaused_dry}
use Rattle.mem_machine.proofs.answering.answer.Goals as goal

pub returns-in-None-clause-answers : goal.returns-in-None-clause-answers
returns-in-None-clause-answers g c =
    IfOk-weaker c.apply.result _ _
    (λ reply step. answers_unasked (g.M.Media.told c.args.media.now) c.args.world.now.now c.apply.new.world.now c.args.call.now reply
    (c.in_ok-pieces.ensures.none (ap Ok c.in-None.is)) step) c.apply.ensures.step

pub returns-in-None-clause-gap : goal.returns-in-None-clause-gap
returns-in-None-clause-gap g c =
    IfOk-weaker c.apply.result _ _
    (λ reply step. uncaused_dry c.args.world.now.now c.apply.new.world.now c.args.call.now reply _ _ step) c.apply.ensures.step

pub returns-in-None-clause-needs : goal.returns-in-None-clause-needs
returns-in-None-clause-needs g c = omega arith
