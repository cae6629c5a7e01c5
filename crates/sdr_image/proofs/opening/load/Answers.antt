use Rattle.std.proofs.Common.{◌∙◌, inl}
use Rattle.sdr_disk.proofs.MomentsLemmas.{Reads-refl}
use Rattle.sdr_log.proofs.RestoringLemmas.{at_reads, reads_only}
use Rattle.sdr_image.proofs.OpenedLemmas.{at_between, back_between, opened_same, reads_may}
use Rattle.sdr_image.proofs.FaultedLemmas.{reads_failed, reads_then_failed}
use Rattle.sdr_log.proofs.FaultedLemmas.{on_error}
use Rattle.sdr_image.proofs.OutsideLemmas.{rest_read, rest_same}
use Rattle.sdr_log.specs.Calls.{IsFramed}
use Rattle.sdr_log.specs.Left.{IsLeftFrom}
use Rattle.sdr_log.specs.Logged.{GivesSame}
use Rattle.sdr_image.proofs.opening.load.Goals as goal

pub returns-in_err-frame-clause-left : goal.returns-in_err-frame-clause-left
returns-in_err-frame-clause-left g c told only =
    at_reads c.read_frame.ensures.reads _ (λ image l. inl (only image l))

pub returns-in_err-frame-clause-any_moment : goal.returns-in_err-frame-clause-any_moment
returns-in_err-frame-clause-any_moment g c told may =
    at_reads c.read_frame.ensures.reads _ (λ image l. opened_same _ image _ may l)

pub returns-in_default-clause-left : goal.returns-in_default-clause-left
returns-in_default-clause-left g c told only =
    at_reads c.read_frame.ensures.reads _ (λ image l. inl (only image l))

pub returns-in_default-clause-any_moment : goal.returns-in_default-clause-any_moment
returns-in_default-clause-any_moment g c told may =
    at_reads c.read_frame.ensures.reads _ (λ image l. opened_same _ image _ may l)

pub returns-in_err-lines-clause-left : goal.returns-in_err-lines-clause-left
returns-in_err-lines-clause-left g c told only =
    at_reads c.read_frame.ensures.reads _ (λ image l. inl (only image l))

pub returns-in_err-lines-clause-any_moment : goal.returns-in_err-lines-clause-any_moment
returns-in_err-lines-clause-any_moment g c told may =
    at_reads c.read_frame.ensures.reads _ (λ image l. opened_same _ image _ may l)

pub returns-in_err-restored-clause-left : goal.returns-in_err-restored-clause-left
returns-in_err-restored-clause-left g c told only =
    let reads = c.read_frame.ensures.reads in
    at_between IsLeftFrom reads (λ image l. inl (only image l))
    (c.restore.ensures.left (reads.tells ∙ told) (reads_only reads only)) (Reads-refl g.D.Disk.bytes g.D.Disk.tells_crashes g.D.Disk.moment g.D.Disk.may_hold_after _)

pub returns-in_err-restored-clause-any_moment : goal.returns-in_err-restored-clause-any_moment
returns-in_err-restored-clause-any_moment g c told may =
    let reads = c.read_frame.ensures.reads in
    at_between GivesSame reads (λ image l. opened_same _ image _ may l)
    (c.restore.ensures.any_moment (reads.tells ∙ told) (reads_may reads may)) (Reads-refl g.D.Disk.bytes g.D.Disk.tells_crashes g.D.Disk.moment g.D.Disk.may_hold_after _)

pub returns-clause-back : goal.returns-clause-back
returns-clause-back g c =
    back_between _ _ _ _ _ _ c.read_frame.ensures.reads.same Rattle.std.proofs.Common.refl
    c.in_ok-restored.ensures.back

pub returns-clause-synced : goal.returns-clause-synced
returns-clause-synced g c told may =
    let reads = c.read_frame.ensures.reads in
    (c.in_ok-restored.ensures.synced (reads.tells ∙ told) (reads_may reads may))

pub returns-clause-left : goal.returns-clause-left
returns-clause-left g c told only =
    let reads = c.read_frame.ensures.reads in
    at_between IsLeftFrom reads (λ image l. inl (only image l))
    (c.restore.ensures.left (reads.tells ∙ told) (reads_only reads only)) (Reads-refl g.D.Disk.bytes g.D.Disk.tells_crashes g.D.Disk.moment g.D.Disk.may_hold_after _)

pub returns-clause-any_moment : goal.returns-clause-any_moment
returns-clause-any_moment g c told may =
    let reads = c.read_frame.ensures.reads in
    at_between GivesSame reads (λ image l. opened_same _ image _ may l)
    (c.restore.ensures.any_moment (reads.tells ∙ told) (reads_may reads may)) (Reads-refl g.D.Disk.bytes g.D.Disk.tells_crashes g.D.Disk.moment g.D.Disk.may_hold_after _)

pub returns-in_err-frame-clause-inside : goal.returns-in_err-frame-clause-inside
returns-in_err-frame-clause-inside g c = rest_same _ _ c.read_frame.ensures.reads.same

pub returns-in_default-clause-inside : goal.returns-in_default-clause-inside
returns-in_default-clause-inside g c = rest_same _ _ c.read_frame.ensures.reads.same

pub returns-in_err-lines-clause-inside : goal.returns-in_err-lines-clause-inside
returns-in_err-lines-clause-inside g c = rest_same _ _ c.read_frame.ensures.reads.same

pub returns-in_err-restored-clause-inside : goal.returns-in_err-restored-clause-inside
returns-in_err-restored-clause-inside g c =
    let framed : IsFramed (g.D.Disk.bytes c.args.disk.now) c.in-Some.frame =
    rw c.in-Some.is at c.in_ok-frame.ensures.found in
    rest_read c.in-Some.frame _ _ _ c.read_frame.ensures.reads.same framed.head c.restore.ensures.inside

pub returns-clause-inside : goal.returns-clause-inside
returns-clause-inside g c =
    let framed : IsFramed (g.D.Disk.bytes c.args.disk.now) c.in-Some.frame =
    rw c.in-Some.is at c.in_ok-frame.ensures.found in
    rest_read c.in-Some.frame _ _ _ c.read_frame.ensures.reads.same framed.head c.restore.ensures.inside

pub returns-in_err-frame-clause-faulted : goal.returns-in_err-frame-clause-faulted
returns-in_err-frame-clause-faulted g c =
    on_error c.from_residual.result
    (reads_failed g.D.Disk.bytes g.D.Disk.tells_crashes g.D.Disk.moment g.D.Disk.may_hold_after _ _ c.read_frame.ensures.reads)

pub returns-in_default-clause-faulted : goal.returns-in_default-clause-faulted
returns-in_default-clause-faulted g c =
    reads_failed g.D.Disk.bytes g.D.Disk.tells_crashes g.D.Disk.moment g.D.Disk.may_hold_after _ _ c.read_frame.ensures.reads

pub returns-in_err-lines-clause-faulted : goal.returns-in_err-lines-clause-faulted
returns-in_err-lines-clause-faulted g c =
    on_error c.from_residual-in_err-lines.result
    (reads_failed g.D.Disk.bytes g.D.Disk.tells_crashes g.D.Disk.moment g.D.Disk.may_hold_after _ _ c.read_frame.ensures.reads)

pub returns-in_err-restored-clause-faulted : goal.returns-in_err-restored-clause-faulted
returns-in_err-restored-clause-faulted g c =
    on_error c.from_residual-in_err-restored.result
    (reads_then_failed g.D.Disk.bytes g.D.Disk.tells_crashes g.D.Disk.moment g.D.Disk.may_hold_after _ _ _ c.read_frame.ensures.reads
    c.in_err-restored.ensures.faulted)
