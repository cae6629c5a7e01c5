use Rattle.std.proofs.Common.{◌≡◌, ◌-◌, length}
use Rattle.std.specs.Prelude.{slice_index_or}
use Rattle.sdr_daemon.specs.Drawing.{GoesOnAt}
use Rattle.sdr_daemon.specs.Progressing.{first_progress}
use Rattle.sdr_daemon.proofs.scripted_run.ScriptedRun.pass_lines.Given as goal

-- the core is as it was, and the daemon at the place has gone on by no number
abbrev pub invariant-loop-self : goal.invariant-loop-self
invariant-loop-self g l = record {
  core : l.self.core ≡ l.fn.self.core;
  own : GoesOnAt 0 l.place l.fn.self.progress l.self.progress;
}

-- its lines ahead become fewer
abbrev pub decreases-loop-self : goal.decreases-loop-self
decreases-loop-self g l = length g.S.Scripted.script - (slice_index_or l.self.progress l.place (first_progress 0)).place
