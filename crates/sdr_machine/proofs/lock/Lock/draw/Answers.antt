use Rattle.std.proofs.Common.{false, ◌∙◌, ◌+◌, ap, refl}
use Rattle.sdr_model.specs.declared.answer.Answer.TheVariants as answers
use Rattle.sdr_machine.specs.Roll.{with_number}
use Rattle.sdr_machine.specs.Serving.{Locked}
use Rattle.sdr_machine.proofs.LockLemmas.{acts_told, told}
use Rattle.sdr_machine.proofs.ServedLemmas.{lock_drawn}
use Rattle.sdr_machine.proofs.lock.Lock.draw.Goals as goal

pub returns : goal.returns
returns g c =
    let T = g.row.T.Denot in
    let old : Locked T = record { roll = c.self.inside.roll; base = c.self.inside.base } in
    let new : Locked T = record { roll = c.draw-number.new.self; base = c.self.inside.base } in
    acts_told g.T.HasGround false _ c.args.daemon.id _ (answers.Lock (old.roll.drawn + 1)) c.told.result old _ new (with_number old.roll c.args.daemon c.args.depth)
    c.self.view_is (c.told.ensures ∙ ap (λ n. told (answers.Lock n)) c.draw-number.ensures.number) refl refl refl c.draw-number.ensures.drawn (λ none. none) (λ v line goes. goes)

pub invariant_of-self : goal.invariant_of-self
invariant_of-self g c =
    let T = g.row.T.Denot in
    let old : Locked T = record { roll = c.self.inside.roll; base = c.self.inside.base } in
    lock_drawn g.T.HasGround old c.args.self.now c.self.view_is c.self.invariant c.draw-number.new.self c.args.daemon c.args.depth c.requires.free c.draw-number.ensures.drawn
