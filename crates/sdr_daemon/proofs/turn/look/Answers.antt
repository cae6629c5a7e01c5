use Rattle.std.proofs.Common.{Some, refl, sym, subst, suc, inl, inr}
use Rattle.sdr_core.specs.CoreKept.{LoggedLock, MakesCoreStep}
use Rattle.sdr_model.specs.declared.event.Event.TheVariants as events
use Rattle.sdr_model.specs.declared.event.Event.{Event}
use Rattle.sdr_model.specs.declared.event.Leave.TheVariants as leaves
use Rattle.sdr_daemon.proofs.LookLemmas.{looked}
use Rattle.sdr_daemon.proofs.NextLemmas.{comes_by}
use Rattle.sdr_daemon.proofs.TurnLemmas.{starves}
use Rattle.sdr_daemon.specs.TakingTurns.{EndsTurn}
use Rattle.sdr_daemon.proofs.turn.look.Goals as goal

pub returns-in_default-clause-ends : goal.returns-in_default-clause-ends
returns-in_default-clause-ends g c x t =
    subst (λ (k : LoggedLock g.row.T.Denot). EndsTurn g.J.Origin.begins g.S.Scripted.script c.args.core.now x k c.args.progress.now (record c.args.progress.now { leaving = Some leaves.Memory }))
    (sym c.in_default.ensures.err) (starves g.T.HasGround g.J.Origin.begins g.S.Scripted.script x c.args.core.now c.args.progress.now t c.args.step.now.line
    (comes_by c.args.core.now.lock.roll g.S.Scripted.script c.args.progress.now c.args.step.now c.args.after (events.Look c.args.ticket) c.requires.next refl) c.requires.next.stays)

pub returns-in-Waits-clause-ends : goal.returns-in-Waits-clause-ends
returns-in-Waits-clause-ends g c x t =
    looked g.T.HasGround g.J.Origin.begins g.S.Scripted.script x c.args.core.now c.args.progress.now t c.event.new.self _ c.args.step.now c.args.after c.args.ticket c.in-Ok.came
    c.requires.next.ahead c.requires.next.within c.requires.next.stays c.requires.next.made c.requires.next.sound c.requires.next.few
    (subst (λ (ev : Event). MakesCoreStep g.T.HasGround c.args.progress.now.daemon c.args.step.now.line ev c.in-Ok.came c.args.core.now.lock c.args.core.now.log c.event.new.self.lock c.event.new.self.log) c.requires.event c.in-Ok.ensures.makes)
    (inl (c.in-Waits.is, refl))

pub returns : goal.returns
returns g c = record {
  ends = λ x t.
      looked g.T.HasGround g.J.Origin.begins g.S.Scripted.script x c.args.core.now c.args.progress.now t c.event.new.self c.note.new.progress c.args.step.now c.args.after c.args.ticket c.in-Ok.came
      c.requires.next.ahead c.requires.next.within c.requires.next.stays c.requires.next.made c.requires.next.sound c.requires.next.few
      (subst (λ (ev : Event). MakesCoreStep g.T.HasGround c.args.progress.now.daemon c.args.step.now.line ev c.in-Ok.came c.args.core.now.lock c.args.core.now.log c.event.new.self.lock c.event.new.self.log) c.requires.event c.in-Ok.ensures.makes)
      (inr (c.in_default-answer.not-Waits, c.note.ensures.does));
  lasts = λ n. c.in-Ok.ensures.makes.asks.kept.lasts n (c.requires.lasts (suc n));
}
