use Rattle.sdr_words.specs.Bindings.{event_of}
use Rattle.sdr_daemon.proofs.NextLemmas.{passes_by}
use Rattle.sdr_daemon.proofs.TurnLemmas.{passes}
use Rattle.sdr_daemon.proofs.turn.pass.Goals as goal

pub returns : goal.returns
returns g c = record {
  ends = λ x t.
      passes g.T.HasGround g.J.Origin.begins g.S.Scripted.script x c.args.core.now c.args.progress.now t c.note.new.progress c.args.step.now c.args.after c.requires.next.ahead c.requires.next.within c.requires.further c.requires.next.stays
      c.requires.passed (passes_by c.args.core.now.lock.roll g.S.Scripted.script c.args.progress.now c.args.step.now c.args.after (event_of c.args.progress.now.names c.args.step.now) c.requires.next c.requires.passed)
      c.note.ensures.does;
}
