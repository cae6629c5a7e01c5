use Rattle.std.proofs.Common.{◌==◌, ◌≡◌, ◌∙◌, ap, arith, false, refl, true, sym, subst}
use Rattle.sdr_model.specs.declared.event.Event.TheVariants as events
use Rattle.sdr_base.specs.declared.refusal.Refusal.TheVariants as refusals
use Rattle.std.proofs.lemmas.Bool.Decides.{nat_tests}
use Rattle.sdr_machine.specs.Roll.{served_number}
use Rattle.sdr_machine.specs.Serving.{Locked}
use Rattle.sdr_machine.specs.Transaction.{refused}
use Rattle.sdr_machine.proofs.LockLemmas.{acts_also, acts_same, told}
use Rattle.sdr_machine.proofs.WorkLemmas.{on_false, on_true}
use Rattle.sdr_machine.proofs.ServedLemmas.{turn_fits}
use Rattle.sdr_machine.specs.Served.{HoldsServed}
use Rattle.sdr_machine.proofs.lock.Lock.looks_holding.Goals as goal

pub returns-then-holding-gt0 : goal.returns-then-holding-gt0
returns-then-holding-gt0 g c =
    let h = c.args.holding.now in
    let inside : (h.nesting.depth == 0) ≡ false = grind (arith, nat_tests, c.if-holding-gt0.true) in
    acts_same g.T.HasGround false _ c.args.daemon.id _ (refused (refusals.InTransaction h.number)) c.told.result c.args.self.now (c.told.ensures ∙ ap told c.refused.ensures) refl refl
    (λ v line goes. on_false _ _ _ inside goes)

pub returns-then-serving-mine : goal.returns-then-serving-mine
returns-then-serving-mine g c =
    let h = c.args.holding.now in
    let T = g.row.T.Denot in
    let self : Locked T = c.args.self.now in
    let outside : (h.nesting.depth == 0) ≡ true = grind (arith, nat_tests, c.if-holding-gt0.false) in
    let serving : c.serving-serving.result ≡ served_number self.roll = c.serving-serving.ensures ∙ ap (λ (l : Locked T). served_number l.roll) c.self.view_is in
    let other : (served_number self.roll == h.number) ≡ false = grind (arith, nat_tests, serving, c.if-serving-mine.true) in
    acts_same g.T.HasGround false _ c.args.daemon.id _ (refused (refusals.Suspended (served_number self.roll) h.number)) c.told-then-serving-mine.result self
    (c.told-then-serving-mine.ensures ∙ ap told (c.refused-then-serving-mine.ensures ∙ ap (λ n. refused (refusals.Suspended n h.number)) serving)) refl refl
    (λ v line goes. on_true _ _ _ outside (on_false _ _ _ other goes))

pub returns : goal.returns
returns g c =
    let h = c.args.holding.now in
    let T = g.row.T.Denot in
    let self : Locked T = c.args.self.now in
    let outside : (h.nesting.depth == 0) ≡ true = grind (arith, nat_tests, c.if-holding-gt0.false) in
    let serving : c.serving-serving.result ≡ served_number self.roll = c.serving-serving.ensures ∙ ap (λ (l : Locked T). served_number l.roll) c.self.view_is in
    let mine : (served_number self.roll == h.number) ≡ true = grind (arith, nat_tests, serving, c.if-serving-mine.false) in
    acts_also g.T.HasGround _ _ _ _ c.args.daemon.id (events.Look c.args.ticket) c.look.result self c.look.new.self refl
    (λ v v' line looks. on_true _ _ _ outside (on_true _ _ _ mine looks)) c.look.ensures

pub look-requires-clause-found : goal.look-requires-clause-found
look-requires-clause-found g c = c.requires.held.found

pub look-requires-clause-idle : goal.look-requires-clause-idle
look-requires-clause-idle g c =
    let h = c.args.holding.now in
    let T = g.row.T.Denot in
    let old : Locked T = record { roll = c.self.inside.roll; base = c.self.inside.base } in
    let serving : c.serving-serving.result ≡ served_number c.args.self.now.roll = c.serving-serving.ensures ∙ ap (λ (l : Locked T). served_number l.roll) c.self.view_is in
    let mine : served_number c.args.self.now.roll ≡ h.number = omega (arith, serving, c.if-serving-mine.false) in
    subst (λ (l : Locked T). g.T.HasGround.idle l.base) c.self.view_is
    ((turn_fits g.T.HasGround old c.args.self.now c.self.view_is c.self.invariant c.args.daemon h c.requires.sound (record { held = c.requires.held; served = mine })).1.idle
    (omega (arith, c.if-holding-gt0.false)))
