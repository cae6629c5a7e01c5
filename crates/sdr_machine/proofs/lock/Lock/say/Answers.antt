use Rattle.std.proofs.Common.{◌∙◌, ap, inl, refl}
use Rattle.sdr_base.specs.declared.refusal.Refusal.TheVariants as refusals
use Rattle.sdr_machine.specs.Roll.{at_nesting, with_daemon}
use Rattle.sdr_machine.specs.Serving.{Locked, machine_at}
use Rattle.sdr_machine.specs.Transaction.{refused}
use Rattle.sdr_machine.proofs.LockLemmas.{acts_told, told}
use Rattle.sdr_machine.proofs.WorkLemmas.{works_doomed}
use Rattle.sdr_machine.proofs.ServedLemmas.{lock_nested}
use Rattle.sdr_machine.proofs.lock.Lock.say.Goals as goal

pub returns-in-Some-clause-serves : goal.returns-in-Some-clause-serves
returns-in-Some-clause-serves g c =
    let h = c.args.holding in
    let d = c.args.daemon in
    let T = g.row.T.Denot in
    let old : Locked T = record { roll = c.self.inside.roll; base = c.self.inside.base } in
    let new : Locked T = record { roll = c.put.new.self; base = c.self.inside.base } in
    acts_told g.T.HasGround _ _ d.id _ (refused (refusals.Doomed c.in-Some.by)) c.told.result old _ new (with_daemon old.roll (at_nesting d h h.nesting))
    c.self.view_is (c.told.ensures ∙ ap told c.refused.ensures) refl refl refl (c.put.ensures ∙ ap (with_daemon old.roll) c.at_nesting.ensures) (λ none. none)
    (λ v line goes. inl (works_doomed (machine_at old.roll v) (machine_at new.roll v) d h c.args.call.now _ c.in-Some.by c.in-Some.is goes))

pub invariant_of-self : goal.invariant_of-self
invariant_of-self g c =
    let h = c.args.holding in
    let d = c.args.daemon in
    let T = g.row.T.Denot in
    let old : Locked T = record { roll = c.self.inside.roll; base = c.self.inside.base } in
    lock_nested g.T.HasGround old c.args.self.now c.self.view_is c.self.invariant d h h.nesting c.put.new.self old.base
    c.requires.turn (c.put.ensures ∙ ap (with_daemon old.roll) c.at_nesting.ensures) (λ was. was)
