use Rattle.std.proofs.Common.{◌≡◌, ◌∙◌, ◌∷◌, List, None, ap, arith, subst, sym}
use Rattle.std.specs.Prelude.{is_some}
use Rattle.sdr_machine.specs.Roll.{Roll}
use Rattle.sdr_model.specs.declared.script.ScriptStep.{ScriptStep}
use Rattle.sdr_words.specs.Bindings.{event_of}
use Rattle.sdr_daemon.proofs.LineLemmas.{none_if}
use Rattle.sdr_daemon.proofs.NextLemmas.{comes_if, comes_with, with_line}
use Rattle.sdr_daemon.proofs.TurnLemmas.{starves}
use Rattle.sdr_daemon.specs.Progressing.{steps_ahead}
use Rattle.sdr_daemon.proofs.turn.turn.Goals as goal

pub returns-in_default-event-clause-ends : goal.returns-in_default-event-clause-ends
returns-in_default-event-clause-ends g c x t =
    let script = g.S.Scripted.script in
    let roll = c.args.core.now.lock.roll in
    let s = c.args.progress.now in
    let step = c.in-Some-next_step.step.now in
    let sound : roll.failed ≡ None =
    none_if roll.failed (ap (λ (r : Roll). is_some r.failed) (sym c.roll.ensures.roll) ∙ ap is_some (sym c.failed.ensures) ∙ sym c.is_some.ensures ∙ c.if-is_some.false) in
    let ahead : steps_ahead script s.daemon s.place ≡ step ∷ steps_ahead script s.daemon c.in-Some-next_step.after =
    subst (λ (l : List ScriptStep). steps_ahead l s.daemon s.place ≡ step ∷ steps_ahead l s.daemon c.in-Some-next_step.after) c.requires.script c.in-Some-next_step.ensures.next in
    let comes =
    comes_with roll script s step (steps_ahead script s.daemon c.in-Some-next_step.after) sound c.in_default.is (omega (arith, c.if-progress-ge-MOST_DRAWN.false)) ahead
    ∙ ap (with_line s step) (comes_if (event_of s.names step) (sym (c.if-not-begins_or_looks.ensures s.names))) in
    starves g.T.HasGround g.J.Origin.begins script x c.args.core.now s t step.line comes c.in_default.is
