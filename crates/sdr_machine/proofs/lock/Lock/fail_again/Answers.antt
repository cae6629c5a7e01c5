use Rattle.std.proofs.Common.{◌≡◌, ◌∙◌, ap, refl, sym, Some}
use Rattle.sdr_model.specs.declared.answer.Answer.TheVariants as answers
use Rattle.sdr_model.specs.declared.answer.Reply.TheVariants as replies
use Rattle.sdr_machine.specs.Machine.{MachineStep, roll_failed}
use Rattle.sdr_machine.specs.Roll.{Roll}
use Rattle.sdr_machine.specs.Serving.{Locked}
use Rattle.sdr_machine.proofs.LockLemmas.{acts_told}
use Rattle.sdr_machine.proofs.WorkLemmas.{on_some}
use Rattle.sdr_machine.proofs.ServedLemmas.{lock_failed}
use Rattle.sdr_machine.proofs.lock.Lock.fail_again.Goals as goal

pub returns : goal.returns
returns g c =
    let T = g.row.T.Denot in
    let old : Locked T = record { roll = c.self.inside.roll; base = c.self.inside.base } in
    let new : Locked T = record { roll = c.go_failed.new.roll; base = c.self.inside.base } in
    let failed : old.roll.failed ≡ Some c.args.moment = ap (λ (l : Locked T). l.roll.failed) c.self.view_is ∙ c.requires.failed in
    acts_told g.T.HasGround _ MachineStep c.args.daemon _ (answers.Reply (replies.Failed c.args.moment)) c.told.result old _ new (roll_failed old.roll c.args.daemon c.args.event.now)
    c.self.view_is c.told.ensures refl refl refl c.go_failed.ensures.goes (λ none. sym c.go_failed.ensures.failed ∙ ap (λ (r : Roll). r.failed) c.go_failed.ensures.goes ∙ none)
    (λ v line goes. on_some _ _ old.roll.failed c.args.moment failed goes)

pub invariant_of-self : goal.invariant_of-self
invariant_of-self g c =
    let T = g.row.T.Denot in
    lock_failed g.T.HasGround c.go_failed.new.roll c.self.inside.base c.args.moment
    (c.go_failed.ensures.failed ∙ ap (λ (l : Locked T). l.roll.failed) c.self.view_is ∙ c.requires.failed)
