use Rattle.std.proofs.Common.{◌∙◌, refl, sym}
use Rattle.sdr_daemon.proofs.DrawingLemmas.{goes_on_none, goes_on_twice, takes_turns, turn_further, turn_passes}
use Rattle.sdr_daemon.specs.Progressing.{first_progress}
use Rattle.sdr_daemon.specs.declared.coming.Coming.TheVariants as comings
use Rattle.sdr_daemon.proofs.scripted_run.ScriptedRun.pass_lines.Goals as goal

pub loop-self-init : goal.loop-self-init
loop-self-init g c = record { core = refl; own = goes_on_none c.args.place c.args.self.now.progress }

pub loop-self-preserved : goal.loop-self-preserved
loop-self-preserved g c =
    let stays = takes_turns g.S.Scripted.script c.args.place c.loop-self.self comings.Passes c.in-Passes.ensures.comes refl in
    let turn = c.turn.ensures.turns stays in
    let passed = turn_passes g.J.Origin.begins g.S.Scripted.script c.args.place c.loop-self.self c.turn.new.self turn (sym c.in-Passes.ensures.comes) in
    record {
      core = passed.0 ∙ c.loop-self.invariant.core;
      own = goes_on_twice c.args.place 0 0 c.args.self.now.progress c.loop-self.self.progress c.turn.new.self.progress c.loop-self.invariant.own passed.2;
    }

pub loop-self-smaller : goal.loop-self-smaller
loop-self-smaller g c =
    let stays = takes_turns g.S.Scripted.script c.args.place c.loop-self.self comings.Passes c.in-Passes.ensures.comes refl in
    turn_further g.J.Origin.begins g.S.Scripted.script c.args.place c.loop-self.self c.turn.new.self (c.turn.ensures.turns stays) (first_progress 0) stays (sym c.in-Passes.ensures.comes)
