use Rattle.std.proofs.Common.{◌∙◌, [], ◌∷◌, ap, inl, inr}
use Rattle.sdr_base.specs.Parts.{overwrite}
use Rattle.sdr_disk.proofs.RangesLemmas.{Agrees-trans}
use Rattle.sdr_log.proofs.FaultedLemmas.{close_failed, on_error}
use Rattle.sdr_log.proofs.GoodLemmas.{AreBelow-good}
use Rattle.sdr_log.proofs.LeavingLemmas.{at_gate_left, at_lines_left}
use Rattle.sdr_log.proofs.RestoringLemmas.{at_closed, may_put, puts_open, restored}
use Rattle.sdr_log.proofs.recovery.restore.Goals as goal

pub put_lines-requires-clause-below : goal.put_lines-requires-clause-below
put_lines-requires-clause-below g c = AreBelow-good _ _ c.requires.good

pub returns-in_err-put_lines-clause-left : goal.returns-in_err-put_lines-clause-left
returns-in_err-put_lines-clause-left g c told l only =
    at_lines_left _ _ _ _ _ l c.requires.some _ _ (c.put_lines.ensures.outside told only)

pub returns-in_err-put_lines-clause-any_moment : goal.returns-in_err-put_lines-clause-any_moment
returns-in_err-put_lines-clause-any_moment g c told l o =
    c.put_lines.ensures.any_moment told (may_put _ _ _ _ l o.logged)

pub returns-in_err-put_lines-clause-faulted : goal.returns-in_err-put_lines-clause-faulted
returns-in_err-put_lines-clause-faulted g c =
    on_error c.from_residual.result (λ told l o.
    inl (inr (c.in_err-put_lines.ensures.faulted told (may_put _ _ _ _ l o.logged))))

pub returns-in_err-close-clause-faulted : goal.returns-in_err-close-clause-faulted
returns-in_err-close-clause-faulted g c =
    on_error c.from_residual-in_err-close.result (λ told l o.
    let p = c.in_ok-put_lines.ensures.puts told (may_put _ _ _ _ l o.logged) in
    close_failed g.D.Disk.bytes g.D.Disk.tells_crashes _ _ c.args.frame _ _ _ _ l o.gate
    c.in_ok-put_lines.ensures.written c.in_ok-put_lines.ensures.rises
    (c.in_err-close.ensures.faulted (c.put_lines.ensures.disk.tells ∙ told) p.logged))

pub returns-in_err-close-clause-left : goal.returns-in_err-close-clause-left
returns-in_err-close-clause-left g c told l only =
    at_gate_left _ _ _ _ _ l c.requires.some _ _ (c.put_lines.ensures.outside told only) _ _
    c.in_ok-put_lines.ensures.written (c.close.ensures.gate (c.put_lines.ensures.disk.tells ∙ told))

pub returns-in_err-close-clause-any_moment : goal.returns-in_err-close-clause-any_moment
returns-in_err-close-clause-any_moment g c told l o =
    let m = may_put _ _ _ _ l o.logged in
    let p = c.in_ok-put_lines.ensures.puts told m in
    at_closed _ _ _ _ _ _ _ _ _ _ l p (c.put_lines.ensures.any_moment told m)
    (c.close.ensures.any_moment (c.put_lines.ensures.disk.tells ∙ told) (puts_open _ _ _ _ _ _ o p))

pub returns-clause-back : goal.returns-clause-back
returns-clause-back g c l =
    restored _ _ _ _ l c.requires.some
    (c.in_ok-close.ensures.written ∙ ap (overwrite 64 (0 ∷ [])) c.in_ok-put_lines.ensures.written)

pub returns-clause-rest : goal.returns-clause-rest
returns-clause-rest g c told l o =
    let p = c.in_ok-put_lines.ensures.puts told (may_put _ _ _ _ l o.logged) in
    (c.in_ok-close.ensures.closes (c.put_lines.ensures.disk.tells ∙ told) (puts_open _ _ _ _ _ _ o p)).rest

pub returns-clause-left : goal.returns-clause-left
returns-clause-left g c told l only =
    at_gate_left _ _ _ _ _ l c.requires.some _ _ (c.put_lines.ensures.outside told only) _ _
    c.in_ok-put_lines.ensures.written (c.close.ensures.gate (c.put_lines.ensures.disk.tells ∙ told))

pub returns-clause-any_moment : goal.returns-clause-any_moment
returns-clause-any_moment g c told l o =
    let m = may_put _ _ _ _ l o.logged in
    let p = c.in_ok-put_lines.ensures.puts told m in
    at_closed _ _ _ _ _ _ _ _ _ _ l p (c.put_lines.ensures.any_moment told m)
    (c.close.ensures.any_moment (c.put_lines.ensures.disk.tells ∙ told) (puts_open _ _ _ _ _ _ o p))

pub returns-clause-inside : goal.returns-clause-inside
returns-clause-inside g c = Agrees-trans _ _ _ _ c.put_lines.ensures.inside c.close.ensures.inside

pub returns-in_err-close-clause-inside : goal.returns-in_err-close-clause-inside
returns-in_err-close-clause-inside g c = Agrees-trans _ _ _ _ c.put_lines.ensures.inside c.close.ensures.inside
