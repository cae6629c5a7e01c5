use Rattle.std.proofs.Common.{◌∙◌, ap, sym, true}
use Rattle.sdr_machine.specs.Serving.{waiting_answer}
use Rattle.sdr_machine.proofs.GroundLemmas.{brings_also, brings_same}
use Rattle.sdr_machine.proofs.SeeingLemmas.{doubts_again, doubts_new}
use Rattle.sdr_machine.proofs.seeing.doubt.Goals as goal

pub returns-then-not-waits_for-clause-seen : goal.returns-then-not-waits_for-clause-seen
returns-then-not-waits_for-clause-seen g c =
    brings_same (doubts_new c.args.roll.now c.args.daemon.now c.args.ticket (sym c.waits_for.ensures ∙ c.if-not-waits_for.true))

pub returns-in-Ok-true-clause-seen : goal.returns-in-Ok-true-clause-seen
returns-in-Ok-true-clause-seen g c =
    brings_also (doubts_again c.args.roll.now c.args.daemon.now c.args.ticket _ _ _ (sym c.waits_for.ensures ∙ c.if-not-waits_for.false)
    c.daemons.ensures (sym (ap (waiting_answer true) c.in-Ok-true.field-0-test))) c.in-Ok-true.ensures.found

pub returns-in-Ok-false-clause-seen : goal.returns-in-Ok-false-clause-seen
returns-in-Ok-false-clause-seen g c =
    brings_also (doubts_again c.args.roll.now c.args.daemon.now c.args.ticket _ _ _ (sym c.waits_for.ensures ∙ c.if-not-waits_for.false)
    c.daemons.ensures (sym (ap (waiting_answer true) c.in-Ok-false.field-0-test))) c.in-Ok-false.ensures.found
