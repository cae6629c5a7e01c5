use Rattle.std.proofs.Common.{◌==◌, ◌≡◌, ◌∙◌, ap, arith, false, refl, sym, true}
use Rattle.sdr_base.specs.declared.refusal.Refusal.TheVariants as refusals
use Rattle.std.proofs.lemmas.Bool.Decides.{nat_tests}
use Rattle.sdr_machine.specs.Machine.{is_outside}
use Rattle.sdr_machine.specs.Roll.{served_number}
use Rattle.sdr_machine.specs.Serving.{Locked}
use Rattle.sdr_machine.specs.Transaction.{refused}
use Rattle.sdr_machine.proofs.LockLemmas.{acts_also, acts_same, if_ok, told}
use Rattle.sdr_machine.proofs.WorkLemmas.{keeps_served, on_false, on_true}
use Rattle.sdr_machine.proofs.lock.Lock.enter.Goals as goal

pub returns-then-is_outside-clause-enters : goal.returns-then-is_outside-clause-enters
returns-then-is_outside-clause-enters g c =
    let h = c.args.holding in
    let outside : is_outside h c.args.event.now ≡ true = sym c.is_outside.ensures ∙ c.if-is_outside.true in
    acts_same g.T.HasGround _ _ c.args.daemon.id c.args.event.now (refused refusals.NotBegun) c.told.result c.args.self.now (c.told.ensures ∙ ap told c.refused.ensures) refl refl
    (λ v line goes. on_true _ _ _ outside goes)

pub returns-then-serving-mine-clause-enters : goal.returns-then-serving-mine-clause-enters
returns-then-serving-mine-clause-enters g c =
    let h = c.args.holding in
    let T = g.row.T.Denot in
    let self : Locked T = c.args.self.now in
    let inside : is_outside h c.args.event.now ≡ false = sym c.is_outside.ensures ∙ c.if-is_outside.false in
    let serving : c.serving-serving.result ≡ served_number self.roll = c.serving-serving.ensures ∙ ap (λ (l : Locked T). served_number l.roll) c.self.view_is in
    let other : (served_number self.roll == h.number) ≡ false = grind (arith, nat_tests, serving, c.if-serving-mine.true) in
    acts_same g.T.HasGround _ _ c.args.daemon.id c.args.event.now (refused (refusals.Suspended (served_number self.roll) h.number)) c.told-then-serving-mine.result self
    (c.told-then-serving-mine.ensures ∙ ap told (c.refused-then-serving-mine.ensures ∙ ap (λ n. refused (refusals.Suspended n h.number)) serving)) refl refl
    (λ v line goes. on_false _ _ _ inside (on_false _ _ _ other goes))

pub returns-clause-enters : goal.returns-clause-enters
returns-clause-enters g c =
    let h = c.args.holding in
    let T = g.row.T.Denot in
    let self : Locked T = c.args.self.now in
    let inside : is_outside h c.args.event.now ≡ false = sym c.is_outside.ensures ∙ c.if-is_outside.false in
    let serving : c.serving-serving.result ≡ served_number self.roll = c.serving-serving.ensures ∙ ap (λ (l : Locked T). served_number l.roll) c.self.view_is in
    let mine : (served_number self.roll == h.number) ≡ true = grind (arith, nat_tests, serving, c.if-serving-mine.false) in
    if_ok c.serve.result _ _ (λ a acts. acts_also g.T.HasGround _ _ _ _ c.args.daemon.id c.args.event.now a self c.serve.new.self
    (keeps_served self.roll h c.args.event.now mine inside)
    (λ v v' line serves. on_false _ _ _ inside (on_true _ _ _ mine serves)) acts) c.serve.ensures.serves

pub serve-requires-clause-turn : goal.serve-requires-clause-turn
serve-requires-clause-turn g c =
    let T = g.row.T.Denot in
    let serving : c.serving-serving.result ≡ served_number c.args.self.now.roll = c.serving-serving.ensures ∙ ap (λ (l : Locked T). served_number l.roll) c.self.view_is in
    record { held = c.requires.held; served = omega (arith, serving, c.if-serving-mine.false) }

pub serve-requires-clause-inside : goal.serve-requires-clause-inside
serve-requires-clause-inside g c = sym c.is_outside.ensures ∙ c.if-is_outside.false
