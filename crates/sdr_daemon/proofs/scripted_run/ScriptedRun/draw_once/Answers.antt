use Rattle.std.proofs.Common.{◌<◌, ◌≤◌, arith}
use Rattle.sdr_daemon.proofs.DrawingLemmas.{drawn_next, drawn_once, starved_once}
use Rattle.sdr_daemon.proofs.scripted_run.ScriptedRun.draw_once.Goals as goal

pub returns-then-drawn-before : goal.returns-then-drawn-before
returns-then-drawn-before g c =
    let more : c.args.self.now.core.lock.roll.drawn < c.turn.new.self.core.lock.roll.drawn = omega (arith, c.drawn-before.ensures.drawn, c.drawn.ensures.drawn, c.if-drawn-before.true) in
    drawn_once g.T.HasGround g.J.Origin.begins g.S.Scripted.script c.args.place c.args.self.now c.drawn-before.ensures.holds c.requires.stays c.turn.new.self (c.turn.ensures.turns c.requires.stays)
    c.requires.comes more

pub returns : goal.returns
returns g c =
    let turn = c.turn.ensures.turns c.requires.stays in
    let less : c.turn.new.self.core.lock.roll.drawn ≤ c.args.self.now.core.lock.roll.drawn = omega (arith, c.drawn-before.ensures.drawn, c.drawn.ensures.drawn, c.if-drawn-before.false) in
    let was =
    starved_once g.T.HasGround g.J.Origin.begins g.S.Scripted.script c.args.place c.args.self.now c.drawn-before.ensures.holds c.requires.stays c.turn.new.self turn c.requires.comes less in
    drawn_next g.T.HasGround g.J.Origin.begins g.S.Scripted.script c.args.place c.args.self.now c.turn.new.self c.turn-2.new.self c.drawn.ensures.holds c.requires.stays turn was.0 was.1 c.turn-2.ensures.turns
