use Rattle.std.proofs.Common.{◌==◌, ◌≡◌, arith, false, refl, subst, sym, true, ap, Some, ◌∙◌}
use Rattle.sdr_model.specs.declared.event.Event.{Event}
use Rattle.sdr_model.specs.declared.event.Event.TheVariants as events
use Rattle.std.proofs.lemmas.Bool.Decides.{nat_tests}
use Rattle.sdr_machine.specs.Machine.{ComesLooking, Looks}
use Rattle.sdr_machine.specs.Roll.{Roll, served_number, with_drawn, daemon_of}
use Rattle.sdr_machine.specs.Serving.{Acts, Locked}
use Rattle.sdr_machine.proofs.LockLemmas.{acts_also, acts_drawn}
use Rattle.sdr_machine.proofs.WorkLemmas.{looks_drawn, on_false, on_true}
use Rattle.sdr_machine.proofs.ServedLemmas.{lock_counted}
use Rattle.sdr_machine.proofs.lock.Lock.comes_looking.Goals as goal

pub returns-then-serving-ne0 : goal.returns-then-serving-ne0
returns-then-serving-ne0 g c =
    let T = g.row.T.Denot in
    let busy : (served_number c.args.self.now.roll == 0) ≡ false = subst (λ (l : Locked T). (served_number l.roll == 0) ≡ false) c.self.view_is (grind (arith, nat_tests, c.serving.ensures, c.if-serving-ne0.true)) in
    acts_also g.T.HasGround _ _ _ _ c.args.daemon.id c.args.event.now c.draw_suspended.result c.args.self.now c.draw_suspended.new.self refl
    (λ v v' line suspended. on_false _ _ _ busy suspended) c.draw_suspended.ensures

pub returns : goal.returns
returns g c =
    let d = c.args.daemon in
    let ticket = c.args.ticket in
    let T = g.row.T.Denot in
    let old : Locked T = record { roll = c.self.inside.roll; base = c.self.inside.base } in
    let free : (served_number old.roll == 0) ≡ true = grind (arith, nat_tests, c.serving.ensures, c.if-serving-ne0.false) in
    let looks : Acts g.T.HasGround false (λ m e m'. Looks m d e ticket m.roll m') d.id (events.Look ticket) c.look.result (record old { roll = with_drawn old.roll }) c.look.new.self =
    subst (λ (r : Roll). Acts g.T.HasGround false (λ m e m'. Looks m d e ticket m.roll m') d.id (events.Look ticket) c.look.result (record { roll = r; base = old.base }) c.look.new.self) c.draw_done.ensures c.look.ensures in
    let comes = acts_drawn g.T.HasGround false _ (λ m e m'. ComesLooking m d e ticket m') d.id (events.Look ticket) c.look.result old c.look.new.self (λ v v' line looks. on_true _ _ _ free (looks_drawn old.roll v _ d _ ticket looks)) looks in
    subst (λ (o : Locked T). Acts g.T.HasGround false (λ m e m'. ComesLooking m d e ticket m') d.id c.args.event.now c.look.result o c.look.new.self) c.self.view_is
    (subst (λ (ev : Event). Acts g.T.HasGround false (λ m e m'. ComesLooking m d e ticket m') d.id ev c.look.result old c.look.new.self) (sym c.requires.look) comes)

pub invariant_of-self : goal.invariant_of-self
invariant_of-self g c =
    let T = g.row.T.Denot in
    let old : Locked T = record { roll = c.self.inside.roll; base = c.self.inside.base } in
    lock_counted g.T.HasGround old c.args.self.now c.self.view_is c.self.invariant c.draw_done.new.self c.draw_done.ensures

pub look-requires-clause-found : goal.look-requires-clause-found
look-requires-clause-found g c =
    let d = c.args.daemon in
    let T = g.row.T.Denot in
    subst (λ (r : Roll). daemon_of r d.id ≡ Some d) (sym c.draw_done.ensures)
    (subst (λ (l : Locked T). daemon_of (with_drawn l.roll) d.id ≡ Some d) (sym c.self.view_is) c.requires.free.found)

pub look-requires-clause-idle : goal.look-requires-clause-idle
look-requires-clause-idle g c =
    let T = g.row.T.Denot in
    (c.self.invariant (ap (λ (l : Locked T). l.roll.failed) c.self.view_is ∙ c.requires.sound)).free (sym c.serving.ensures ∙ (omega (arith, c.if-serving-ne0.false)))
