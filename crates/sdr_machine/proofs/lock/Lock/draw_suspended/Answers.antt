use Rattle.std.proofs.Common.{false, ◌∙◌, ◌+◌, ap, refl}
use Rattle.sdr_base.specs.declared.refusal.Refusal.TheVariants as refusals
use Rattle.sdr_machine.specs.Roll.{served_number, with_number}
use Rattle.sdr_machine.specs.Serving.{Locked}
use Rattle.sdr_machine.specs.Transaction.{refused}
use Rattle.sdr_machine.proofs.LockLemmas.{acts_told, told}
use Rattle.sdr_machine.proofs.ServedLemmas.{lock_drawn}
use Rattle.sdr_machine.proofs.lock.Lock.draw_suspended.Goals as goal

pub returns : goal.returns
returns g c =
    let T = g.row.T.Denot in
    let old : Locked T = record { roll = c.self.inside.roll; base = c.self.inside.base } in
    let new : Locked T = record { roll = c.draw-mine.new.self; base = c.self.inside.base } in
    acts_told g.T.HasGround false _ c.args.daemon.id _ (refused (refusals.Suspended (served_number old.roll) (old.roll.drawn + 1))) c.told.result old _ new (with_number old.roll c.args.daemon 0)
    c.self.view_is (c.told.ensures ∙ ap told (c.refused.ensures ∙ (λ i. refused (refusals.Suspended (c.serving-serving.ensures i) (c.draw-mine.ensures.number i)))))
    refl refl refl c.draw-mine.ensures.drawn (λ none. none) (λ v line goes. goes)

pub invariant_of-self : goal.invariant_of-self
invariant_of-self g c =
    let T = g.row.T.Denot in
    let old : Locked T = record { roll = c.self.inside.roll; base = c.self.inside.base } in
    lock_drawn g.T.HasGround old c.args.self.now c.self.view_is c.self.invariant c.draw-mine.new.self c.args.daemon 0 c.requires.free c.draw-mine.ensures.drawn
