use Rattle.std.proofs.Common.{◌≡◌, ◌∙◌, IfOk, None, Some, ap, refl, subst, sym}
use Rattle.sdr_base.specs.declared.refusal.Refusal.TheVariants as refusals
use Rattle.sdr_machine.specs.Crash.{commits_of}
use Rattle.sdr_machine.specs.Machine.{Performs}
use Rattle.sdr_machine.specs.Roll.{daemon_of}
use Rattle.sdr_machine.specs.Serving.{Acts, Locked}
use Rattle.sdr_machine.specs.Transaction.{refused}
use Rattle.sdr_machine.proofs.LockLemmas.{acts_also, acts_same, if_ok, told}
use Rattle.sdr_machine.proofs.WorkLemmas.{found_id, keeps_found, may_draw_found, on_none, on_some}
use Rattle.sdr_machine.proofs.lock.Lock.answer.Goals as goal

pub returns-in-None-clause-answers : goal.returns-in-None-clause-answers
returns-in-None-clause-answers g c =
    let T = g.row.T.Denot in
    let self : Locked T = c.args.self.now in
    let none : daemon_of self.roll c.args.id ≡ None = subst (λ (l : Locked T). daemon_of l.roll c.args.id ≡ None) c.self.view_is (sym c.in-None.ensures) in
    acts_same g.T.HasGround _ _ c.args.id c.args.event.now (refused refusals.NotBegun) c.told.result self (c.told.ensures ∙ ap told c.refused.ensures) refl refl
    (λ v line goes. on_none _ _ _ none goes)

pub returns-in-Some-clause-answers : goal.returns-in-Some-clause-answers
returns-in-Some-clause-answers g c =
    let d = c.in-Some.daemon in
    let T = g.row.T.Denot in
    let self : Locked T = c.args.self.now in
    let some : daemon_of self.roll c.args.id ≡ Some d = subst (λ (l : Locked T). daemon_of l.roll c.args.id ≡ Some d) c.self.view_is (sym c.in-Some.ensures) in
    let same = found_id c.args.id self.roll.daemons d some in
    if_ok c.perform.result _ _ (λ a acts. acts_also g.T.HasGround _ _ _ _ c.args.id c.args.event.now a self c.perform.new.self
    (keeps_found self.roll c.args.id d c.args.event.now some)
    (λ v v' line performs. on_some _ _ _ d some performs) acts)
    (subst (λ id. IfOk c.perform.result (λ a. Acts g.T.HasGround (commits_of self.roll d c.args.event.now) (λ m e m'. Performs m d e m') id c.args.event.now a self c.perform.new.self)) same c.perform.ensures.performs)

pub perform-requires-clause-drawn : goal.perform-requires-clause-drawn
perform-requires-clause-drawn g c =
    let T = g.row.T.Denot in
    let self : Locked T = c.args.self.now in
    let d = c.in-Some.daemon in
    let some : daemon_of self.roll c.args.id ≡ Some d = subst (λ (l : Locked T). daemon_of l.roll c.args.id ≡ Some d) c.self.view_is (sym c.in-Some.ensures) in
    may_draw_found self.roll c.args.id d some c.requires.drawn

pub perform-requires-clause-found : goal.perform-requires-clause-found
perform-requires-clause-found g c =
    let T = g.row.T.Denot in
    let self : Locked T = c.args.self.now in
    let d = c.in-Some.daemon in
    let some : daemon_of self.roll c.args.id ≡ Some d = subst (λ (l : Locked T). daemon_of l.roll c.args.id ≡ Some d) c.self.view_is (sym c.in-Some.ensures) in
    subst (λ id. daemon_of self.roll id ≡ Some d) (sym (found_id c.args.id self.roll.daemons d some)) some
