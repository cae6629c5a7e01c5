use Rattle.std.proofs.Common.{◌≡◌, ◌∙◌, ◌≤◌, false, not, subst, sym}
use Rattle.std.specs.Prelude.{is_some, length, slice_set}
use Rattle.arrayvec.specs.ArrayVec.{with_items}
use Rattle.sdr_core.specs.CoreKept.{KeepsRun}
use Rattle.sdr_machine.specs.Crash.{is_sound}
use Rattle.sdr_turn.proofs.EntryLemmas.{prefix_self}
use Rattle.sdr_daemon.proofs.RunLemmas.{drawn_few, turned_at}
use Rattle.sdr_daemon.specs.Progressing.{ScriptedCore}
use Rattle.sdr_daemon.specs.TakingTurns.{TurnsAt, is_gone}
use Rattle.sdr_daemon.proofs.scripted_run.ScriptedRun.turn.Goals as goal

pub turn-requires-clause-drawn : goal.turn-requires-clause-drawn
turn-requires-clause-drawn g c =
    drawn_few g.T.HasGround g.J.Origin.begins g.S.Scripted.script c.self.inside.core c.self.inside.progress.items
    (subst (λ (v : ScriptedCore g.row.T.Denot). KeepsRun g.T.HasGround g.J.Origin.begins v.core) (sym c.self.view_is) c.is_gone.ensures.run) c.self.invariant.0
    (subst (λ (v : ScriptedCore g.row.T.Denot). length v.core.lock.roll.daemons ≤ 256) (sym c.self.view_is) c.is_gone.ensures.few)

pub returns-clause-turns : goal.returns-clause-turns
returns-clause-turns g c stays =
    subst (λ (v : ScriptedCore g.row.T.Denot). TurnsAt g.J.Origin.begins g.S.Scripted.script c.args.place v (record { core = c.turn.new.core; progress = (with_items c.self.inside.progress (slice_set c.as_mut_slice.result.now c.args.place c.turn.new.progress)).items })) c.self.view_is
    (turned_at g.T.HasGround g.J.Origin.begins g.S.Scripted.script c.self.inside.core c.turn.new.core c.self.inside.progress c.as_mut_slice.result.now c.args.place c.index-as_mut_slice-place.result c.turn.new.progress
    (subst (λ (v : ScriptedCore g.row.T.Denot). KeepsRun g.T.HasGround g.J.Origin.begins v.core) (sym c.self.view_is) c.is_gone.ensures.run)
    (subst (λ (v : ScriptedCore g.row.T.Denot). is_some v.core.lock.roll.failed ≡ not (is_sound v.core.log.journal)) (sym c.self.view_is) c.is_gone.ensures.failed)
    c.self.invariant.0
    (subst (λ (v : ScriptedCore g.row.T.Denot). is_gone c.args.place v ≡ false) (sym c.self.view_is) stays)
    c.as_mut_slice.ensures.value c.turn.ensures.ends c.turn.ensures.lasts).1

pub returns-clause-grows : goal.returns-clause-grows
returns-clause-grows g c =
    let turn = returns-clause-turns g c (sym c.is_gone.ensures.gone ∙ c.if-is_gone.false) in (turn.ends.entries, sym turn.ends.over.journal_is)

pub returns-then-is_gone-clause-grows : goal.returns-then-is_gone-clause-grows
returns-then-is_gone-clause-grows g c = prefix_self _

pub invariant_of-self : goal.invariant_of-self
invariant_of-self g c = (
  (turned_at g.T.HasGround g.J.Origin.begins g.S.Scripted.script c.self.inside.core c.turn.new.core c.self.inside.progress c.as_mut_slice.result.now c.args.place c.index-as_mut_slice-place.result c.turn.new.progress
      (subst (λ (v : ScriptedCore g.row.T.Denot). KeepsRun g.T.HasGround g.J.Origin.begins v.core) (sym c.self.view_is) c.is_gone.ensures.run)
      (subst (λ (v : ScriptedCore g.row.T.Denot). is_some v.core.lock.roll.failed ≡ not (is_sound v.core.log.journal)) (sym c.self.view_is) c.is_gone.ensures.failed)
      c.self.invariant.0
      (subst (λ (v : ScriptedCore g.row.T.Denot). is_gone c.args.place v ≡ false) (sym c.self.view_is) (sym c.is_gone.ensures.gone ∙ c.if-is_gone.false))
      c.as_mut_slice.ensures.value c.turn.ensures.ends c.turn.ensures.lasts).0,
  c.self.invariant.1,
)
