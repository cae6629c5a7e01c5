use Rattle.std.proofs.Common.{◌≡◌, ◌≤◌, [], List, subst, sym, refl, length}
use Rattle.sdr_model.specs.declared.event.Leave.TheVariants as leaves
use Rattle.sdr_model.specs.declared.script.ScriptStep.{ScriptStep}
use Rattle.sdr_daemon.proofs.WorkLemmas.{cut_so, line_read, starved_so, unsaid_so, work_drawn, work_place}
use Rattle.sdr_daemon.specs.Progressing.{steps_ahead}
use Rattle.sdr_daemon.specs.Working.{BeginComesTo, ComesToWork, LineComesTo}
use Rattle.sdr_daemon.specs.declared.turn.LineOutcome.{LineOutcome}
use Rattle.sdr_daemon.proofs.turn.work.Goals as goal

pub returns-in-Closed-clause-ends : goal.returns-in-Closed-clause-ends
returns-in-Closed-clause-ends g c x t =
    absurd (subst (λ (w : LineOutcome). BeginComesTo w g.T.HasGround g.J.Origin.begins g.S.Scripted.script c.args.core.now c.begin.new.core c.args.progress.now c.begin.new.progress) c.in-Closed.is c.begin.ensures.begins x t)

pub cut-requires-clause-drawn : goal.cut-requires-clause-drawn
cut-requires-clause-drawn g c =
    work_drawn g.T.HasGround g.J.Origin.begins g.S.Scripted.script c.args.core.now c.args.progress.now c.begin.new.core c.begin.new.progress
    (subst (λ (w : LineOutcome). BeginComesTo w g.T.HasGround g.J.Origin.begins g.S.Scripted.script c.args.core.now c.begin.new.core c.args.progress.now c.begin.new.progress) c.in-Starved.is c.begin.ensures.begins)
    c.requires.at c.requires.drawn

pub returns-in-Starved-clause-ends : goal.returns-in-Starved-clause-ends
returns-in-Starved-clause-ends g c =
    cut_so g.T.HasGround g.J.Origin.begins g.S.Scripted.script c.args.core.now c.args.progress.now c.begin.new.core c.begin.new.progress
    (subst (λ (w : LineOutcome). BeginComesTo w g.T.HasGround g.J.Origin.begins g.S.Scripted.script c.args.core.now c.begin.new.core c.args.progress.now c.begin.new.progress) c.in-Starved.is c.begin.ensures.begins)
    c.requires.next.few c.cut.new.core c.cut.new.progress leaves.Memory c.cut.result c.cut.ensures.makes c.cut.ensures.progress tt

pub returns-in-Unsaid-clause-ends : goal.returns-in-Unsaid-clause-ends
returns-in-Unsaid-clause-ends g c =
    let same = subst (λ (w : LineOutcome). BeginComesTo w g.T.HasGround g.J.Origin.begins g.S.Scripted.script c.args.core.now c.begin.new.core c.args.progress.now c.begin.new.progress) c.in-Unsaid.is c.begin.ensures.begins in
    unsaid_so g.T.HasGround g.J.Origin.begins g.S.Scripted.script c.args.core.now c.args.progress.now c.begin.new.core c.begin.new.progress c.args.step.now c.args.after c.requires.next same.0 same.1

pub next_step-requires : goal.next_step-requires
next_step-requires g c = record {
  within = subst (λ (l : List ScriptStep). c.loop-step.progress.place ≤ length l) (sym c.requires.script)
      (work_place g.T.HasGround g.J.Origin.begins g.S.Scripted.script c.args.core.now c.args.progress.now c.loop-step.core c.loop-step.progress c.loop-step.invariant.work c.requires.at);
}

pub line-requires-clause-drawn : goal.line-requires-clause-drawn
line-requires-clause-drawn g c =
    work_drawn g.T.HasGround g.J.Origin.begins g.S.Scripted.script c.args.core.now c.args.progress.now c.loop-step.core c.loop-step.progress c.loop-step.invariant.work c.requires.at c.requires.drawn

pub loop-step-preserved : goal.loop-step-preserved
loop-step-preserved g c =
    let script = g.S.Scripted.script in
    let by : LineComesTo c.line.result g.T.HasGround g.J.Origin.begins script c.in-Some.after c.args.core.now c.loop-step.core c.line.new.core c.args.progress.now c.loop-step.progress c.line.new.progress =
    line_read g.T.HasGround g.J.Origin.begins script c.args.core.now c.args.progress.now c.loop-step.core c.loop-step.progress c.loop-step.invariant.work c.requires.next.few
    c.args.script.now c.requires.script c.line.new.core c.line.new.progress c.in-Some.step.now c.in-Some.after c.line.result c.line.ensures.says
    c.in-Some.ensures.next c.in-Some.ensures.behind c.loop-step.invariant.stays in
    let of = λ (w : LineOutcome). LineComesTo w g.T.HasGround g.J.Origin.begins script c.in-Some.after c.args.core.now c.loop-step.core c.line.new.core c.args.progress.now c.loop-step.progress c.line.new.progress in
    let on = subst of c.in-On-line.is by in
    record { work = on.0; stays = on.1; lasts = c.line.ensures.lasts }

pub returns-in-Closed-line-clause-ends : goal.returns-in-Closed-line-clause-ends
returns-in-Closed-line-clause-ends g c =
    let script = g.S.Scripted.script in
    let by : LineComesTo c.line.result g.T.HasGround g.J.Origin.begins script c.in-Some.after c.args.core.now c.loop-step.core c.line.new.core c.args.progress.now c.loop-step.progress c.line.new.progress =
    line_read g.T.HasGround g.J.Origin.begins script c.args.core.now c.args.progress.now c.loop-step.core c.loop-step.progress c.loop-step.invariant.work c.requires.next.few
    c.args.script.now c.requires.script c.line.new.core c.line.new.progress c.in-Some.step.now c.in-Some.after c.line.result c.line.ensures.says
    c.in-Some.ensures.next c.in-Some.ensures.behind c.loop-step.invariant.stays in
    let of = λ (w : LineOutcome). LineComesTo w g.T.HasGround g.J.Origin.begins script c.in-Some.after c.args.core.now c.loop-step.core c.line.new.core c.args.progress.now c.loop-step.progress c.line.new.progress in
    subst of c.in-Closed-line.is by

pub cut-requires-in-Starved-line-clause-drawn : goal.cut-requires-in-Starved-line-clause-drawn
cut-requires-in-Starved-line-clause-drawn g c =
    let script = g.S.Scripted.script in
    let by : LineComesTo c.line.result g.T.HasGround g.J.Origin.begins script c.in-Some.after c.args.core.now c.loop-step.core c.line.new.core c.args.progress.now c.loop-step.progress c.line.new.progress =
    line_read g.T.HasGround g.J.Origin.begins script c.args.core.now c.args.progress.now c.loop-step.core c.loop-step.progress c.loop-step.invariant.work c.requires.next.few
    c.args.script.now c.requires.script c.line.new.core c.line.new.progress c.in-Some.step.now c.in-Some.after c.line.result c.line.ensures.says
    c.in-Some.ensures.next c.in-Some.ensures.behind c.loop-step.invariant.stays in
    let work : ComesToWork g.T.HasGround g.J.Origin.begins script c.args.core.now c.line.new.core c.args.progress.now c.line.new.progress =
    starved_so g.T.HasGround g.J.Origin.begins script c.args.core.now c.args.progress.now c.loop-step.core c.line.new.core c.loop-step.progress c.line.new.progress c.in-Some.after c.line.result
    c.loop-step.invariant.work by c.in-Starved-line.is in
    work_drawn g.T.HasGround g.J.Origin.begins script c.args.core.now c.args.progress.now c.line.new.core c.line.new.progress work c.requires.at c.requires.drawn

pub returns-in-Starved-line-clause-ends : goal.returns-in-Starved-line-clause-ends
returns-in-Starved-line-clause-ends g c =
    let script = g.S.Scripted.script in
    let by : LineComesTo c.line.result g.T.HasGround g.J.Origin.begins script c.in-Some.after c.args.core.now c.loop-step.core c.line.new.core c.args.progress.now c.loop-step.progress c.line.new.progress =
    line_read g.T.HasGround g.J.Origin.begins script c.args.core.now c.args.progress.now c.loop-step.core c.loop-step.progress c.loop-step.invariant.work c.requires.next.few
    c.args.script.now c.requires.script c.line.new.core c.line.new.progress c.in-Some.step.now c.in-Some.after c.line.result c.line.ensures.says
    c.in-Some.ensures.next c.in-Some.ensures.behind c.loop-step.invariant.stays in
    let work : ComesToWork g.T.HasGround g.J.Origin.begins script c.args.core.now c.line.new.core c.args.progress.now c.line.new.progress =
    starved_so g.T.HasGround g.J.Origin.begins script c.args.core.now c.args.progress.now c.loop-step.core c.line.new.core c.loop-step.progress c.line.new.progress c.in-Some.after c.line.result
    c.loop-step.invariant.work by c.in-Starved-line.is in
    cut_so g.T.HasGround g.J.Origin.begins script c.args.core.now c.args.progress.now c.line.new.core c.line.new.progress work c.requires.next.few
    c.cut-in-Starved-line.new.core c.cut-in-Starved-line.new.progress leaves.Memory c.cut-in-Starved-line.result c.cut-in-Starved-line.ensures.makes c.cut-in-Starved-line.ensures.progress tt

pub cut-requires-2-clause-drawn : goal.cut-requires-2-clause-drawn
cut-requires-2-clause-drawn g c =
    work_drawn g.T.HasGround g.J.Origin.begins g.S.Scripted.script c.args.core.now c.args.progress.now c.loop-step.core c.loop-step.progress c.loop-step.invariant.work c.requires.at c.requires.drawn

pub returns-clause-ends : goal.returns-clause-ends
returns-clause-ends g c =
    cut_so g.T.HasGround g.J.Origin.begins g.S.Scripted.script c.args.core.now c.args.progress.now c.loop-step.core c.loop-step.progress c.loop-step.invariant.work c.requires.next.few
    c.cut-2.new.core c.cut-2.new.progress leaves.Done c.cut-2.result c.cut-2.ensures.makes c.cut-2.ensures.progress
    (subst (λ (l : List ScriptStep). steps_ahead l c.loop-step.progress.daemon c.loop-step.progress.place ≡ []) c.requires.script (c.in_default.ensures.none refl))
