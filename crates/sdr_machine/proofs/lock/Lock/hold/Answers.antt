use Rattle.std.proofs.Common.{false, refl, subst, sym}
use Rattle.sdr_model.specs.declared.answer.Answer.TheVariants as answers
use Rattle.sdr_model.specs.declared.event.Event.{Event}
use Rattle.sdr_model.specs.declared.event.Event.TheVariants as events
use Rattle.sdr_machine.specs.Crash.{commits_under}
use Rattle.sdr_machine.specs.Machine.{Holds, LeavesHolding}
use Rattle.sdr_machine.specs.Serving.{Acts}
use Rattle.sdr_machine.proofs.LockLemmas.{acts_also, acts_or, acts_same, if_ok}
use Rattle.sdr_machine.proofs.WorkLemmas.{holds_entering, is_work}
use Rattle.sdr_machine.proofs.lock.Lock.hold.Goals as goal

pub returns-in-Request-clause-holds : goal.returns-in-Request-clause-holds
returns-in-Request-clause-holds g c =
    let h = c.args.holding in
    let d = c.args.daemon in
    subst (λ (ev : Event). Acts g.T.HasGround (commits_under c.args.self.now.roll h ev) (λ m e m'. Holds m d h ev e m') d.id ev c.told.result c.args.self.now c.args.self.now) (sym c.in-Request.is)
    (acts_same g.T.HasGround _ _ d.id events.Request (answers.Lock h.number) c.told.result c.args.self.now c.told.ensures refl refl (λ v line goes. goes))

pub returns-in-Look-clause-holds : goal.returns-in-Look-clause-holds
returns-in-Look-clause-holds g c =
    let h = c.args.holding in
    let d = c.args.daemon in
    subst (λ (ev : Event). Acts g.T.HasGround (commits_under c.args.self.now.roll h ev) (λ m e m'. Holds m d h ev e m') d.id ev c.looks_holding.result c.args.self.now c.looks_holding.new.self) (sym c.in-Look.is)
    (acts_or g.T.HasGround _ _ d.id _ c.looks_holding.result c.args.self.now c.looks_holding.new.self c.looks_holding.ensures)

pub returns-in-Leaves-clause-holds : goal.returns-in-Leaves-clause-holds
returns-in-Leaves-clause-holds g c =
    let h = c.args.holding in
    let d = c.args.daemon in
    acts_or g.T.HasGround (commits_under c.args.self.now.roll h c.args.event.now) (λ m e m'. Holds m d h c.args.event.now e m') d.id c.args.event.now c.leave.result c.args.self.now c.leave.new.self
    (subst (λ (ev : Event). Acts g.T.HasGround false (λ m e m'. Holds m d h ev e m') d.id c.args.event.now c.leave.result c.args.self.now c.leave.new.self) (sym c.in-Leaves.is)
    (subst (λ (ev : Event). Acts g.T.HasGround false (λ m e m'. LeavesHolding m d h ev e m') d.id c.args.event.now c.leave.result c.args.self.now c.leave.new.self) c.in-Leaves.is c.leave.ensures))

pub returns-in_default-clause-holds : goal.returns-in_default-clause-holds
returns-in_default-clause-holds g c =
    let work = is_work c.args.event.now c.in_default.not-Request c.in_default.not-Look c.in_default.not-Leaves in
    if_ok c.enter.result _ _ (λ a acts. acts_also g.T.HasGround _ _ _ _ c.args.daemon.id c.args.event.now a c.args.self.now c.enter.new.self refl
    (λ v v' line enters. holds_entering _ _ c.args.daemon c.args.holding c.args.event.now _ work enters) acts) c.enter.ensures.enters
