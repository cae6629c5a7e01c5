use Rattle.std.proofs.Common.{◌<◌, ◌∙◌, ap, inl, sym, arith, length, refl}
use Rattle.std.proofs.lemmas.List.{nil_from_length}
use Rattle.sdr_log.specs.Left.{IsLeftFrom}
use Rattle.sdr_log.specs.Logged.{GivesSame}
use Rattle.sdr_log.proofs.FaultedLemmas.{failed_behind, on_error, reads_failed}
use Rattle.sdr_log.proofs.LoggedLemmas.{logs_gate}
use Rattle.sdr_log.proofs.RestoringLemmas.{at_reads, at_restored, back_same, logs_behind, reads_only, reads_open, reads_rest}
use Rattle.sdr_log.proofs.RestoringLemmas.{restored_none}
use Rattle.sdr_log.proofs.recovery.put_back_found.Goals as goal

pub returns-in_err-records-clause-left : goal.returns-in_err-records-clause-left
returns-in_err-records-clause-left g c told only = at_reads c.read_records.ensures.reads _ (λ image l. inl (only image l))

pub returns-in_err-records-clause-any_moment : goal.returns-in_err-records-clause-any_moment
returns-in_err-records-clause-any_moment g c told m =
    at_reads c.read_records.ensures.reads _ (λ image l. back_same _ _ image _ m l)

pub returns-in_err-records-clause-faulted : goal.returns-in_err-records-clause-faulted
returns-in_err-records-clause-faulted g c =
    on_error c.from_residual.result
    (reads_failed g.D.Disk.bytes g.D.Disk.tells_crashes g.D.Disk.moment g.D.Disk.may_hold_after c.args.frame _ _
    c.read_records.ensures.reads)

pub returns-then-len-eq0-clause-back : goal.returns-then-len-eq0-clause-back
returns-then-len-eq0-clause-back g c =
    let none = nil_from_length _ (sym c.len.ensures ∙ c.if-len-eq0.true) in
    restored_none _ _ _ (logs_behind _ _ _ _ refl none c.in_ok-records.ensures.logs) c.read_records.ensures.reads.same

pub returns-then-len-eq0-clause-rest : goal.returns-then-len-eq0-clause-rest
returns-then-len-eq0-clause-rest g c told m =
    let none = nil_from_length _ (sym c.len.ensures ∙ c.if-len-eq0.true) in
    let reads = c.read_records.ensures.reads in
    reads_rest reads _ m (logs_behind _ _ _ _ (sym reads.same) none c.in_ok-records.ensures.logs)

pub returns-then-len-eq0-clause-left : goal.returns-then-len-eq0-clause-left
returns-then-len-eq0-clause-left g c told only =
    at_reads c.read_records.ensures.reads _ (λ image l. inl (only image l))

pub returns-then-len-eq0-clause-any_moment : goal.returns-then-len-eq0-clause-any_moment
returns-then-len-eq0-clause-any_moment g c told m =
    at_reads c.read_records.ensures.reads _ (λ image l. back_same _ _ image _ m l)

pub returns-in_err-restore-clause-quiet : goal.returns-in_err-restore-clause-quiet
returns-in_err-restore-clause-quiet g c shut =
    let some : 0 < length c.in_ok-records.records = omega (arith, c.len.ensures, c.if-len-eq0.false) in
    absurd (omega (arith, shut, logs_gate _ _ _ c.in_ok-records.ensures.logs some))

pub returns-clause-quiet : goal.returns-clause-quiet
returns-clause-quiet g c shut =
    let some : 0 < length c.in_ok-records.records = omega (arith, c.len.ensures, c.if-len-eq0.false) in
    absurd (omega (arith, shut, logs_gate _ _ _ c.in_ok-records.ensures.logs some))

pub returns-in_err-restore-clause-left : goal.returns-in_err-restore-clause-left
returns-in_err-restore-clause-left g c told only =
    let reads = c.read_records.ensures.reads in
    let l = logs_behind _ _ _ _ (sym reads.same) (sym c.as_slice.ensures) c.in_ok-records.ensures.logs in
    at_restored reads IsLeftFrom (λ image l. inl (only image l)) _
    (c.restore.ensures.left (reads.tells ∙ told) l (reads_only reads only))

pub returns-in_err-restore-clause-any_moment : goal.returns-in_err-restore-clause-any_moment
returns-in_err-restore-clause-any_moment g c told m =
    let reads = c.read_records.ensures.reads in
    let l = logs_behind _ _ _ _ (sym reads.same) (sym c.as_slice.ensures) c.in_ok-records.ensures.logs in
    let some : 0 < length c.as_slice.result.now =
    omega (arith, c.len.ensures, c.if-len-eq0.false, ap length c.as_slice.ensures) in
    at_restored reads GivesSame (λ image l. back_same _ _ image _ m l) _
    (c.restore.ensures.any_moment (reads.tells ∙ told) l (reads_open reads _ m _ l some))

pub returns-clause-left : goal.returns-clause-left
returns-clause-left g c told only =
    let reads = c.read_records.ensures.reads in
    let l = logs_behind _ _ _ _ (sym reads.same) (sym c.as_slice.ensures) c.in_ok-records.ensures.logs in
    at_restored reads IsLeftFrom (λ image l. inl (only image l)) _
    (c.restore.ensures.left (reads.tells ∙ told) l (reads_only reads only))

pub returns-clause-any_moment : goal.returns-clause-any_moment
returns-clause-any_moment g c told m =
    let reads = c.read_records.ensures.reads in
    let l = logs_behind _ _ _ _ (sym reads.same) (sym c.as_slice.ensures) c.in_ok-records.ensures.logs in
    let some : 0 < length c.as_slice.result.now =
    omega (arith, c.len.ensures, c.if-len-eq0.false, ap length c.as_slice.ensures) in
    at_restored reads GivesSame (λ image l. back_same _ _ image _ m l) _
    (c.restore.ensures.any_moment (reads.tells ∙ told) l (reads_open reads _ m _ l some))

pub returns-in_err-restore-clause-faulted : goal.returns-in_err-restore-clause-faulted
returns-in_err-restore-clause-faulted g c =
    on_error c.from_residual-in_err-restore.result (λ told m.
    let reads = c.read_records.ensures.reads in
    let l = logs_behind _ _ _ _ (sym reads.same) (sym c.as_slice.ensures) c.in_ok-records.ensures.logs in
    let some : 0 < length c.as_slice.result.now =
    omega (arith, c.len.ensures, c.if-len-eq0.false, ap length c.as_slice.ensures) in
    failed_behind g.D.Disk.bytes g.D.Disk.tells_crashes _ _ c.args.frame _ _ _ reads
    (c.in_err-restore.ensures.faulted (reads.tells ∙ told) l (reads_open reads _ m _ l some)))

pub returns-clause-rest : goal.returns-clause-rest
returns-clause-rest g c told m =
    let reads = c.read_records.ensures.reads in
    let l = logs_behind _ _ _ _ (sym reads.same) (sym c.as_slice.ensures) c.in_ok-records.ensures.logs in
    let some : 0 < length c.as_slice.result.now =
    omega (arith, c.len.ensures, c.if-len-eq0.false, ap length c.as_slice.ensures) in
    c.in_ok-restore.ensures.rest (reads.tells ∙ told) l (reads_open reads _ m _ l some)
