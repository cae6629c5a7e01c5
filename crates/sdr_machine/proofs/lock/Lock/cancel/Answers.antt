use Rattle.std.proofs.Common.{nat_le, ◌≡◌, ◌⊎◌, ◌∙◌, arith, ap, false, inl, refl}
use Rattle.sdr_model.specs.declared.event.Event.TheVariants as events
use Rattle.std.proofs.lemmas.Bool.Decides.{nat_tests}
use Rattle.sdr_machine.specs.Machine.{Closes, FaultsWithin}
use Rattle.sdr_machine.specs.Nesting.{Inner, cancelled}
use Rattle.sdr_machine.specs.Roll.{at_nesting, with_daemon}
use Rattle.sdr_machine.specs.Serving.{Locked, machine_at}
use Rattle.sdr_machine.proofs.LockLemmas.{acts_also, acts_told, if_ok, told}
use Rattle.sdr_machine.proofs.WorkLemmas.{closes_outermost, on_false, works_nests}
use Rattle.sdr_machine.proofs.ServedLemmas.{fits_cancelled, lock_nested}
use Rattle.sdr_machine.proofs.lock.Lock.cancel.Goals as goal

pub returns-then-nesting-le1-clause-closes : goal.returns-then-nesting-le1-clause-closes
returns-then-nesting-le1-clause-closes g c =
    let d = c.args.daemon in
    let h = c.args.holding in
    if_ok c.finish.result _ _ (λ came acts. acts_also g.T.HasGround _ _ (λ m e m'. Closes m d h e m' ⊎ FaultsWithin m d h events.Cancel e m') _ d.id events.Cancel came c.args.self.now c.finish.new.self refl
    (λ v v' line closes. closes_outermost _ _ _ (nat_le h.nesting.depth 1) (grind (arith, nat_tests)) closes) acts) c.finish.ensures.closes

pub returns-clause-closes : goal.returns-clause-closes
returns-clause-closes g c =
    let h = c.args.holding in
    let d = c.args.daemon in
    let inner : Inner = cancelled h.nesting in
    let T = g.row.T.Denot in
    let old : Locked T = record { roll = c.self.inside.roll; base = c.self.inside.base } in
    let new : Locked T = record { roll = c.put.new.self; base = c.self.inside.base } in
    let put : c.put.new.self ≡ with_daemon old.roll (at_nesting d h inner.after) =
    c.put.ensures ∙ ap (with_daemon old.roll) (c.at_nesting.ensures ∙ ap (at_nesting d h) c.cancel-answer.ensures.after) in
    let within : nat_le h.nesting.depth 1 ≡ false = grind (arith, nat_tests) in
    acts_told g.T.HasGround _ _ d.id _ inner.answer c.told.result old _ new (with_daemon old.roll (at_nesting d h inner.after))
    c.self.view_is (c.told.ensures ∙ ap told c.cancel-answer.ensures.answer) refl refl refl put (λ none. none)
    (λ v line goes. inl (on_false _ _ _ within (works_nests (machine_at old.roll v) (machine_at new.roll v) d h events.Cancel _ inner (λ said t' nests. nests) goes)))

pub invariant_of-self : goal.invariant_of-self
invariant_of-self g c =
    let h = c.args.holding in
    let d = c.args.daemon in
    let T = g.row.T.Denot in
    let old : Locked T = record { roll = c.self.inside.roll; base = c.self.inside.base } in
    lock_nested g.T.HasGround old c.args.self.now c.self.view_is c.self.invariant d h (cancelled h.nesting).after c.put.new.self old.base
    c.requires.turn (c.put.ensures ∙ ap (with_daemon old.roll) (c.at_nesting.ensures ∙ ap (at_nesting d h) c.cancel-answer.ensures.after))
    (λ was. (was.0, fits_cancelled g.T.HasGround h.nesting old.base (omega (arith, c.if-nesting-le1.false))))
