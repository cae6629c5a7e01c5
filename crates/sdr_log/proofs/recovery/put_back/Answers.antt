use Rattle.std.proofs.Common.{◌∙◌, inl}
use Rattle.sdr_log.specs.Left.{IsLeftFrom}
use Rattle.sdr_log.specs.Logged.{GivesSame}
use Rattle.sdr_log.proofs.FaultedLemmas.{on_error, reads_failed, reads_then_failed}
use Rattle.sdr_log.proofs.RestoringLemmas.{at_reads, at_restored, back_same, reads_may, reads_only}
use Rattle.sdr_log.proofs.recovery.put_back.Goals as goal

pub returns-in_err-found-clause-left : goal.returns-in_err-found-clause-left
returns-in_err-found-clause-left g c told only = at_reads c.read_frame.ensures.reads _ (λ image l. inl (only image l))

pub returns-in_err-found-clause-any_moment : goal.returns-in_err-found-clause-any_moment
returns-in_err-found-clause-any_moment g c told m = at_reads c.read_frame.ensures.reads _ (λ image l. back_same _ _ image _ m l)

pub returns-then-ne-clause-left : goal.returns-then-ne-clause-left
returns-then-ne-clause-left g c told only = at_reads c.read_frame.ensures.reads _ (λ image l. inl (only image l))

pub returns-then-ne-clause-any_moment : goal.returns-then-ne-clause-any_moment
returns-then-ne-clause-any_moment g c told m = at_reads c.read_frame.ensures.reads _ (λ image l. back_same _ _ image _ m l)

pub returns-in_err-count-clause-left : goal.returns-in_err-count-clause-left
returns-in_err-count-clause-left g c told only =
    let reads = c.read_frame.ensures.reads in
    at_restored reads IsLeftFrom (λ image l. inl (only image l)) _
    (c.put_back_found.ensures.left (reads.tells ∙ told) (reads_only reads only))

pub returns-in_err-count-clause-any_moment : goal.returns-in_err-count-clause-any_moment
returns-in_err-count-clause-any_moment g c told m =
    let reads = c.read_frame.ensures.reads in
    at_restored reads GivesSame (λ image l. back_same _ _ image _ m l) _
    (c.put_back_found.ensures.any_moment (reads.tells ∙ told) (reads_may reads _ m))

pub returns-clause-left : goal.returns-clause-left
returns-clause-left g c told only =
    let reads = c.read_frame.ensures.reads in
    at_restored reads IsLeftFrom (λ image l. inl (only image l)) _
    (c.put_back_found.ensures.left (reads.tells ∙ told) (reads_only reads only))

pub returns-clause-any_moment : goal.returns-clause-any_moment
returns-clause-any_moment g c told m =
    let reads = c.read_frame.ensures.reads in
    at_restored reads GivesSame (λ image l. back_same _ _ image _ m l) _
    (c.put_back_found.ensures.any_moment (reads.tells ∙ told) (reads_may reads _ m))

pub returns-in_err-found-clause-faulted : goal.returns-in_err-found-clause-faulted
returns-in_err-found-clause-faulted g c =
    on_error c.from_residual.result
    (reads_failed g.D.Disk.bytes g.D.Disk.tells_crashes g.D.Disk.moment g.D.Disk.may_hold_after c.args.frame _ _
    c.read_frame.ensures.reads)

pub returns-then-ne-clause-faulted : goal.returns-then-ne-clause-faulted
returns-then-ne-clause-faulted g c =
    reads_failed g.D.Disk.bytes g.D.Disk.tells_crashes g.D.Disk.moment g.D.Disk.may_hold_after c.args.frame _ _
    c.read_frame.ensures.reads

pub returns-in_err-count-clause-faulted : goal.returns-in_err-count-clause-faulted
returns-in_err-count-clause-faulted g c =
    on_error c.from_residual-in_err-count.result
    (reads_then_failed g.D.Disk.bytes g.D.Disk.tells_crashes g.D.Disk.moment g.D.Disk.may_hold_after c.args.frame _ _ _
    c.read_frame.ensures.reads c.in_err-count.ensures.faulted)

pub returns-clause-rest : goal.returns-clause-rest
returns-clause-rest g c told m =
    let reads = c.read_frame.ensures.reads in
    c.in_ok-count.ensures.rest (reads.tells ∙ told) (reads_may reads _ m)
