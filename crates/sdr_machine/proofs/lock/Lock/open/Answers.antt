use Rattle.std.proofs.Common.{false, ◌≡◌, ◌∙◌, ap, refl}
use Rattle.sdr_model.specs.declared.answer.Answer.TheVariants as answers
use Rattle.sdr_machine.specs.Nesting.{nested}
use Rattle.sdr_machine.specs.Roll.{at_nesting, with_daemon}
use Rattle.sdr_machine.specs.Serving.{Locked}
use Rattle.sdr_machine.proofs.LockLemmas.{acts_told}
use Rattle.sdr_machine.proofs.ServedLemmas.{fits_begun, lock_nested}
use Rattle.sdr_machine.proofs.lock.Lock.open.Goals as goal

pub returns : goal.returns
returns g c =
    let h = c.args.holding in
    let d = c.args.daemon in
    let T = g.row.T.Denot in
    let old : Locked T = record { roll = c.self.inside.roll; base = c.self.inside.base } in
    let new : Locked T = record { roll = c.put.new.self; base = c.self.inside.base } in
    let put : c.put.new.self ≡ with_daemon old.roll (at_nesting d h (nested 1)) =
    c.put.ensures ∙ ap (with_daemon old.roll) (c.at_nesting.ensures ∙ ap (at_nesting d h) c.at.ensures) in
    acts_told g.T.HasGround false _ d.id _ (answers.Lock h.number) c.told.result old _ new (with_daemon old.roll (at_nesting d h (nested 1)))
    c.self.view_is c.told.ensures refl refl refl put (λ none. none) (λ v line goes. goes)

pub invariant_of-self : goal.invariant_of-self
invariant_of-self g c =
    let h = c.args.holding in
    let d = c.args.daemon in
    let T = g.row.T.Denot in
    let old : Locked T = record { roll = c.self.inside.roll; base = c.self.inside.base } in
    lock_nested g.T.HasGround old c.args.self.now c.self.view_is c.self.invariant d h (nested 1) c.put.new.self old.base
    c.requires.turn (c.put.ensures ∙ ap (with_daemon old.roll) (c.at_nesting.ensures ∙ ap (at_nesting d h) c.at.ensures))
    (λ was. (was.0, fits_begun g.T.HasGround old.base (was.1.idle c.requires.unbegun)))
