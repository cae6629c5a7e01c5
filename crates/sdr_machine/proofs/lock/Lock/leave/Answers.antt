use Rattle.std.proofs.Common.{◌==◌, ◌≡◌, ◌⊎◌, ◌∙◌, ap, arith, false, refl, true, sym}
use Rattle.sdr_model.specs.declared.answer.Answer.TheVariants as answers
use Rattle.sdr_model.specs.declared.answer.Reply.TheVariants as replies
use Rattle.sdr_base.specs.declared.refusal.Refusal.TheVariants as refusals
use Rattle.std.proofs.lemmas.Bool.Decides.{nat_tests}
use Rattle.sdr_machine.specs.Machine.{Closes, FaultsWithin, LeavesHolding}
use Rattle.sdr_machine.specs.Roll.{after_leave, served_number, with_daemon}
use Rattle.sdr_machine.specs.Serving.{Locked}
use Rattle.sdr_machine.specs.Transaction.{refused}
use Rattle.sdr_machine.proofs.LockLemmas.{acts_also, acts_same, acts_told, told}
use Rattle.sdr_machine.proofs.WorkLemmas.{on_false, on_true}
use Rattle.sdr_machine.proofs.ServedLemmas.{lock_done, turn_fits}
use Rattle.sdr_machine.proofs.lock.Lock.leave.Goals as goal

pub returns-then-serving-mine : goal.returns-then-serving-mine
returns-then-serving-mine g c =
    let h = c.args.holding.now in
    let T = g.row.T.Denot in
    let self : Locked T = c.args.self.now in
    let serving : c.serving-serving.result ≡ served_number self.roll = c.serving-serving.ensures ∙ ap (λ (l : Locked T). served_number l.roll) c.self.view_is in
    let other : (served_number self.roll == h.number) ≡ false = grind (arith, nat_tests, serving, c.if-serving-mine.true) in
    acts_same g.T.HasGround false (λ m e m'. LeavesHolding m c.args.daemon h c.args.event.now e m') c.args.daemon.id _ (refused (refusals.Suspended (served_number self.roll) h.number)) c.told.result self
    (c.told.ensures ∙ ap told (c.refused.ensures ∙ ap (λ n. refused (refusals.Suspended n h.number)) serving)) refl refl
    (λ v line goes. on_false _ _ _ other goes)

pub returns-then-holding-gt0 : goal.returns-then-holding-gt0
returns-then-holding-gt0 g c =
    let h = c.args.holding.now in
    let d = c.args.daemon in
    let T = g.row.T.Denot in
    let self : Locked T = c.args.self.now in
    let serving : c.serving-serving.result ≡ served_number self.roll = c.serving-serving.ensures ∙ ap (λ (l : Locked T). served_number l.roll) c.self.view_is in
    let mine : (served_number self.roll == h.number) ≡ true = grind (arith, nat_tests, serving, c.if-serving-mine.false) in
    let deep : (h.nesting.depth == 0) ≡ false = grind (arith, nat_tests, c.if-holding-gt0.true) in
    acts_also g.T.HasGround _ _ (λ m e m'. Closes m d h e m' ⊎ FaultsWithin m d h c.args.event.now e m') _ d.id c.args.event.now c.in-Ok.came self c.finish.new.self c.requires.no_end
    (λ v v' line closes. on_true _ _ _ mine (on_false _ _ _ deep closes)) c.in-Ok.ensures.closes

pub returns : goal.returns
returns g c =
    let h = c.args.holding.now in
    let d = c.args.daemon in
    let T = g.row.T.Denot in
    let old : Locked T = record { roll = c.self.inside.roll; base = c.self.inside.base } in
    let new : Locked T = record { roll = c.put.new.self; base = c.self.inside.base } in
    let mine : (served_number old.roll == h.number) ≡ true = grind (arith, nat_tests, c.serving-serving.ensures, c.if-serving-mine.false) in
    let outside : (h.nesting.depth == 0) ≡ true = grind (arith, nat_tests, c.if-holding-gt0.false) in
    acts_told g.T.HasGround false (λ m e m'. LeavesHolding m d h c.args.event.now e m') d.id _ (answers.Reply replies.Done) c.told-2.result old _ new (with_daemon old.roll (after_leave d))
    c.self.view_is c.told-2.ensures refl refl refl (c.put.ensures ∙ ap (with_daemon old.roll) c.after_leave.ensures) (λ none. none)
    (λ v line goes. on_true _ _ _ mine (on_true _ _ _ outside goes))

pub finish-requires-clause-turn : goal.finish-requires-clause-turn
finish-requires-clause-turn g c =
    let T = g.row.T.Denot in
    let serving : c.serving-serving.result ≡ served_number c.args.self.now.roll = c.serving-serving.ensures ∙ ap (λ (l : Locked T). served_number l.roll) c.self.view_is in
    record { held = c.requires.held; served = omega (arith, serving, c.if-serving-mine.false) }

pub invariant_of-self : goal.invariant_of-self
invariant_of-self g c =
    let h = c.args.holding.now in
    let d = c.args.daemon in
    let T = g.row.T.Denot in
    let old : Locked T = record { roll = c.self.inside.roll; base = c.self.inside.base } in
    let serving : c.serving-serving.result ≡ served_number c.args.self.now.roll = c.serving-serving.ensures ∙ ap (λ (l : Locked T). served_number l.roll) c.self.view_is in
    let mine : served_number c.args.self.now.roll ≡ h.number = omega (arith, serving, c.if-serving-mine.false) in
    lock_done g.T.HasGround old c.args.self.now c.self.view_is c.self.invariant d (after_leave d) c.put.new.self old.base
    c.requires.held.found refl (c.put.ensures ∙ ap (with_daemon old.roll) c.after_leave.ensures)
    (λ sound. (turn_fits g.T.HasGround old c.args.self.now c.self.view_is c.self.invariant d h sound (record { held = c.requires.held; served = mine })).1.idle
    (omega (arith, c.if-holding-gt0.false)))
