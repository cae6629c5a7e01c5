use Rattle.std.proofs.Common.{◌∙◌, ap, false, refl, subst, sym}
use Rattle.sdr_model.specs.declared.event.Event.{Event}
use Rattle.sdr_base.specs.declared.refusal.Refusal.TheVariants as refusals
use Rattle.sdr_machine.specs.Machine.{Comes}
use Rattle.sdr_machine.specs.Serving.{Acts}
use Rattle.sdr_machine.specs.Transaction.{refused}
use Rattle.sdr_machine.proofs.LockLemmas.{acts_same, told}
use Rattle.sdr_machine.proofs.WorkLemmas.{comes_refused}
use Rattle.sdr_machine.proofs.lock.Lock.come.Goals as goal

pub returns-in-Request : goal.returns-in-Request
returns-in-Request g c =
    subst (λ (ev : Event). Acts g.T.HasGround false (λ m e m'. Comes m c.args.daemon ev e m') c.args.daemon.id c.args.event.now c.draw.result c.args.self.now c.draw.new.self) (sym c.in-Request.is) c.draw.ensures

pub returns-in-Begin : goal.returns-in-Begin
returns-in-Begin g c =
    subst (λ (ev : Event). Acts g.T.HasGround false (λ m e m'. Comes m c.args.daemon ev e m') c.args.daemon.id c.args.event.now c.draw-in-Begin.result c.args.self.now c.draw-in-Begin.new.self) (sym c.in-Begin.is) c.draw-in-Begin.ensures

pub returns-in-Look : goal.returns-in-Look
returns-in-Look g c =
    subst (λ (ev : Event). Acts g.T.HasGround false (λ m e m'. Comes m c.args.daemon ev e m') c.args.daemon.id c.args.event.now c.comes_looking.result c.args.self.now c.comes_looking.new.self) (sym c.in-Look.is) c.comes_looking.ensures

pub returns-in-Leaves : goal.returns-in-Leaves
returns-in-Leaves g c =
    subst (λ (ev : Event). Acts g.T.HasGround false (λ m e m'. Comes m c.args.daemon ev e m') c.args.daemon.id c.args.event.now c.comes_leaving.result c.args.self.now c.comes_leaving.new.self) (sym c.in-Leaves.is) c.comes_leaving.ensures

pub returns-in_default : goal.returns-in_default
returns-in_default g c =
    acts_same g.T.HasGround false _ c.args.daemon.id c.args.event.now (refused refusals.NotBegun) c.told.result c.args.self.now (c.told.ensures ∙ ap told c.refused.ensures) refl refl
    (λ v line goes. comes_refused _ _ c.args.daemon c.args.event.now _ c.in_default.not-Request c.in_default.not-Begin c.in_default.not-Look c.in_default.not-Leaves goes)
