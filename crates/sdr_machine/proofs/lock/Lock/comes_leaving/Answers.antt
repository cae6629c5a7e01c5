use Rattle.std.proofs.Common.{◌==◌, ◌≡◌, ◌∙◌, arith, false, refl, subst, true, ap, Some, sym}
use Rattle.sdr_model.specs.declared.answer.Answer.TheVariants as answers
use Rattle.sdr_model.specs.declared.answer.Reply.TheVariants as replies
use Rattle.std.proofs.lemmas.Bool.Decides.{nat_tests}
use Rattle.sdr_machine.specs.Roll.{after_leave, served_number, with_daemon, with_drawn, Roll, daemon_of}
use Rattle.sdr_machine.specs.Serving.{Locked}
use Rattle.sdr_machine.proofs.LockLemmas.{acts_also, acts_told}
use Rattle.sdr_machine.proofs.WorkLemmas.{on_false, on_true}
use Rattle.sdr_machine.proofs.ServedLemmas.{lock_counted, lock_done}
use Rattle.sdr_machine.specs.Served.{KeepsGroundReady}
use Rattle.sdr_machine.proofs.lock.Lock.comes_leaving.Goals as goal

pub returns-then-serving-ne0 : goal.returns-then-serving-ne0
returns-then-serving-ne0 g c =
    let T = g.row.T.Denot in
    let busy : (served_number c.args.self.now.roll == 0) ≡ false = subst (λ (l : Locked T). (served_number l.roll == 0) ≡ false) c.self.view_is (grind (arith, nat_tests, c.serving.ensures, c.if-serving-ne0.true)) in
    acts_also g.T.HasGround _ _ _ _ c.args.daemon.id c.args.event.now c.draw_suspended.result c.args.self.now c.draw_suspended.new.self refl
    (λ v v' line suspended. on_false _ _ _ busy suspended) c.draw_suspended.ensures

pub returns : goal.returns
returns g c =
    let d = c.args.daemon in
    let T = g.row.T.Denot in
    let old : Locked T = record { roll = c.self.inside.roll; base = c.self.inside.base } in
    let new : Locked T = record { roll = c.put.new.self; base = c.self.inside.base } in
    let free : (served_number old.roll == 0) ≡ true = grind (arith, nat_tests, c.serving.ensures, c.if-serving-ne0.false) in
    let put : c.put.new.self ≡ with_daemon (with_drawn old.roll) (after_leave d) =
    c.put.ensures ∙ (λ i. with_daemon (c.draw_done.ensures i) (c.after_leave.ensures i)) in
    acts_told g.T.HasGround _ _ d.id _ (answers.Reply replies.Done) c.told.result old _ new (with_daemon (with_drawn old.roll) (after_leave d))
    c.self.view_is c.told.ensures refl refl refl put (λ none. none) (λ v line goes. on_true _ _ _ free goes)

pub invariant_of-self : goal.invariant_of-self
invariant_of-self g c =
    let d = c.args.daemon in
    let T = g.row.T.Denot in
    let old : Locked T = record { roll = c.self.inside.roll; base = c.self.inside.base } in
    let counted : Locked T = record { roll = with_drawn old.roll; base = old.base } in
    lock_done g.T.HasGround counted (record c.args.self.now { roll = with_drawn c.args.self.now.roll })
    (ap (λ (l : Locked T). record l { roll = with_drawn l.roll }) c.self.view_is)
    (lock_counted g.T.HasGround old c.args.self.now c.self.view_is c.self.invariant counted.roll refl) d (after_leave d) c.put.new.self old.base
    c.requires.free.found refl (c.put.ensures ∙ (λ i. with_daemon (c.draw_done.ensures i) (c.after_leave.ensures i)))
    (λ sound. (c.self.invariant (ap (λ (l : Locked T). l.roll.failed) c.self.view_is ∙ sound)).free (sym c.serving.ensures ∙ (omega (arith, c.if-serving-ne0.false))))
