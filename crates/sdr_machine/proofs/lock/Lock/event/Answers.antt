use Rattle.std.proofs.Common.{◌≡◌, None, refl, subst, sym}
use Rattle.sdr_machine.specs.Machine.{MachineStep}
use Rattle.sdr_machine.specs.Serving.{Locked}
use Rattle.sdr_machine.proofs.LockLemmas.{acts_also, acts_or, if_ok}
use Rattle.sdr_machine.proofs.WorkLemmas.{on_none}
use Rattle.sdr_machine.proofs.lock.Lock.event.Goals as goal

pub returns-in-Some-clause-step : goal.returns-in-Some-clause-step
returns-in-Some-clause-step g c =
    acts_or g.T.HasGround _ MachineStep c.args.daemon c.args.event.now c.fail_again.result c.args.self.now c.fail_again.new.self c.fail_again.ensures

pub returns-in-None-clause-step : goal.returns-in-None-clause-step
returns-in-None-clause-step g c =
    let T = g.row.T.Denot in
    let self : Locked T = c.args.self.now in
    if_ok c.answer.result _ _ (λ a acts. acts_also g.T.HasGround _ _ _ MachineStep c.args.daemon c.args.event.now a self c.answer.new.self refl
    (λ v v' line answered. on_none _ _ self.roll.failed (subst (λ (l : Locked T). l.roll.failed ≡ None) c.self.view_is (sym c.in-None.ensures)) answered) acts) c.answer.ensures.answers
