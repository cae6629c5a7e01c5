use Rattle.std.proofs.Common.{◌∙◌, Bool, Option, Some, ap, sym}
use Rattle.sdr_machine.specs.Serving.{answer_seen}
use Rattle.sdr_machine.proofs.GroundLemmas.{brings_also, brings_then}
use Rattle.sdr_machine.proofs.LockLemmas.{if_ok}
use Rattle.sdr_machine.proofs.SeeingLemmas.{sees_at_once, sees_doubtful}
use Rattle.sdr_machine.proofs.seeing.sight.Goals as goal

pub returns-in-Ok-None-clause-seen : goal.returns-in-Ok-None-clause-seen
returns-in-Ok-None-clause-seen g c =
    let ticket = c.args.ticket in
    brings_also (sees_at_once c.args.roll.now c.args.daemon.now ticket _ _
    (λ w. c.refused.ensures ∙ sym (ap (λ (o : Option Bool). answer_seen o ticket w) c.in-Ok-None.field-0-is))) c.in-Ok-None.ensures.shown

pub returns-in-Ok-Some-true-clause-seen : goal.returns-in-Ok-Some-true-clause-seen
returns-in-Ok-Some-true-clause-seen g c =
    let ticket = c.args.ticket in
    brings_also (sees_at_once c.args.roll.now c.args.daemon.now ticket _ _
    (λ w. sym (ap (λ (o : Option Bool). answer_seen o ticket w) (c.in-Ok-Some-true.field-0-is ∙ ap Some c.in-Ok-Some-true.field-0-0-test)))) c.in-Ok-Some-true.ensures.shown

pub returns-in-Ok-Some-false-clause-seen : goal.returns-in-Ok-Some-false-clause-seen
returns-in-Ok-Some-false-clause-seen g c =
    let waits = c.in-Ok-Some-false.field-0-is ∙ ap Some c.in-Ok-Some-false.field-0-0-test in
    if_ok c.doubt.result _ _
    (λ answer doubts. brings_then (sees_doubtful c.args.roll.now c.args.daemon.now c.args.ticket _ answer waits) c.in-Ok-Some-false.ensures.shown doubts)
    c.doubt.ensures.seen
