use Rattle.std.proofs.Common.{◌∙◌, [], ◌∷◌, inl, inr, ap}
use Rattle.sdr_base.specs.Parts.{overwrite}
use Rattle.sdr_log.proofs.ClosingLemmas.{at_closing, at_lines, closes, open_either, torn_gate}
use Rattle.sdr_log.proofs.FaultedLemmas.{gate_failed, on_error, sync_failed}
use Rattle.sdr_log.proofs.PendingLemmas.{synced_only}
use Rattle.sdr_log.proofs.closing.close.Goals as goal

pub returns-in_err-save_lines-clause-gate : goal.returns-in_err-save_lines-clause-gate
returns-in_err-save_lines-clause-gate g c told =
    at_lines _ _ _ _ _ (λ image l. inl l) (λ image a. inr a) _ c.save_lines.ensures.moments

pub returns-in_err-save_lines-clause-any_moment : goal.returns-in_err-save_lines-clause-any_moment
returns-in_err-save_lines-clause-any_moment g c told o =
    at_lines _ _ _ _ _ (λ image l. open_either _ _ image _ o l) (λ image a. torn_gate _ _ image _ o a) _
    c.save_lines.ensures.moments

pub returns-in_err-close_gate-clause-gate : goal.returns-in_err-close_gate-clause-gate
returns-in_err-close_gate-clause-gate g c told =
    at_closing _ _ _ _ _ (λ image l. inl l) (λ image a. inr a) _ _ c.save_lines.ensures.moments
    (synced_only _ c.save_lines.ensures.same
    (c.in_ok-save_lines.ensures.durable (c.save_lines.ensures.tells ∙ told))) c.close_gate.ensures.any_moment

pub returns-in_err-close_gate-clause-any_moment : goal.returns-in_err-close_gate-clause-any_moment
returns-in_err-close_gate-clause-any_moment g c told o =
    at_closing _ _ _ _ _ (λ image l. open_either _ _ image _ o l) (λ image a. torn_gate _ _ image _ o a) _ _
    c.save_lines.ensures.moments (synced_only _ c.save_lines.ensures.same
    (c.in_ok-save_lines.ensures.durable (c.save_lines.ensures.tells ∙ told))) c.close_gate.ensures.any_moment

pub returns-in_err-save_lines-clause-faulted : goal.returns-in_err-save_lines-clause-faulted
returns-in_err-save_lines-clause-faulted g c =
    on_error c.from_residual.result (λ told l.
    inl (sync_failed g.D.Disk.bytes g.D.Disk.tells_crashes g.D.Disk.moment g.D.Disk.may_hold_after c.args.frame _ _
    c.save_lines.ensures.same c.save_lines.ensures.moments l))

pub returns-in_err-close_gate-clause-faulted : goal.returns-in_err-close_gate-clause-faulted
returns-in_err-close_gate-clause-faulted g c =
    on_error c.from_residual-in_err-close_gate.result (λ told l.
    gate_failed g.D.Disk.bytes g.D.Disk.tells_crashes g.D.Disk.moment g.D.Disk.may_hold_after c.args.frame _ _ _
    c.save_lines.ensures.same c.in_ok-save_lines.ensures.rises
    (c.in_ok-save_lines.ensures.durable (c.save_lines.ensures.tells ∙ told)) c.close_gate.ensures.others
    c.close_gate.ensures.any_moment c.close_gate.ensures.made l)

pub returns-clause-closes : goal.returns-clause-closes
returns-clause-closes g c told o =
    closes _ _ _ _ _ o
    (c.in_ok-close_gate.ensures.written ∙ ap (overwrite 64 (0 ∷ [])) c.save_lines.ensures.same)
    (c.in_ok-close_gate.ensures.durable (c.close_gate.ensures.tells ∙ c.save_lines.ensures.tells ∙ told))

pub returns-clause-gate : goal.returns-clause-gate
returns-clause-gate g c told =
    at_closing _ _ _ _ _ (λ image l. inl l) (λ image a. inr a) _ _ c.save_lines.ensures.moments
    (synced_only _ c.save_lines.ensures.same
    (c.in_ok-save_lines.ensures.durable (c.save_lines.ensures.tells ∙ told))) c.close_gate.ensures.any_moment

pub returns-clause-any_moment : goal.returns-clause-any_moment
returns-clause-any_moment g c told o =
    at_closing _ _ _ _ _ (λ image l. open_either _ _ image _ o l) (λ image a. torn_gate _ _ image _ o a) _ _
    c.save_lines.ensures.moments (synced_only _ c.save_lines.ensures.same
    (c.in_ok-save_lines.ensures.durable (c.save_lines.ensures.tells ∙ told))) c.close_gate.ensures.any_moment
