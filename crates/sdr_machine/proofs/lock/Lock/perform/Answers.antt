use Rattle.std.proofs.Common.{◌∙◌, ap, refl}
use Rattle.sdr_base.specs.declared.refusal.Refusal.TheVariants as refusals
use Rattle.sdr_machine.specs.Transaction.{refused}
use Rattle.sdr_machine.proofs.LockLemmas.{acts_also, acts_or, acts_same, if_ok, told}
use Rattle.sdr_machine.proofs.WorkLemmas.{keeps_holding, may_draw_free, on_false, on_none, on_some, on_true}
use Rattle.sdr_machine.proofs.lock.Lock.perform.Goals as goal

pub returns-then-daemon-clause-performs : goal.returns-then-daemon-clause-performs
returns-then-daemon-clause-performs g c =
    acts_same g.T.HasGround _ _ c.args.daemon.id c.args.event.now (refused refusals.NotBegun) c.told.result c.args.self.now (c.told.ensures ∙ ap told c.refused.ensures) refl refl
    (λ v line goes. on_true _ _ _ c.if-daemon.true goes)

pub returns-in-None-clause-performs : goal.returns-in-None-clause-performs
returns-in-None-clause-performs g c =
    acts_or g.T.HasGround _ _ c.args.daemon.id c.args.event.now c.come.result c.args.self.now c.come.new.self
    (acts_also g.T.HasGround _ _ _ _ c.args.daemon.id c.args.event.now c.come.result c.args.self.now c.come.new.self refl
    (λ v v' line comes. on_false _ _ _ c.if-daemon.false (on_none _ _ _ c.in-None.is comes)) c.come.ensures)

pub returns-in-Some-clause-performs : goal.returns-in-Some-clause-performs
returns-in-Some-clause-performs g c =
    let h = c.in-Some.holding in
    if_ok c.hold.result _ _ (λ a acts. acts_also g.T.HasGround _ _ _ _ c.args.daemon.id c.args.event.now a c.args.self.now c.hold.new.self
    (keeps_holding c.args.self.now.roll c.args.daemon h c.args.event.now c.if-daemon.false c.in-Some.is)
    (λ v v' line holds. on_false _ _ _ c.if-daemon.false (on_some _ _ _ h c.in-Some.is holds)) acts) c.hold.ensures.holds

pub come-requires : goal.come-requires
come-requires g c = record {
  free = record { found = c.requires.found; none = c.in-None.is };
  drawn = may_draw_free c.args.self.now.roll c.args.daemon.holds c.in-None.is c.requires.drawn;
  sound = c.requires.sound;
}

pub hold-requires-clause-held : goal.hold-requires-clause-held
hold-requires-clause-held g c = record { found = c.requires.found; holds = c.in-Some.is }
