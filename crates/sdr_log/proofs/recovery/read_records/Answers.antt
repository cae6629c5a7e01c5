use Rattle.std.proofs.Common.{◌∙◌, ap, sym}
use Rattle.std.proofs.lemmas.Result.{err_from_is_err_and}
use Rattle.sdr_log.specs.Calls.{GivesNone}
use Rattle.sdr_log.specs.Reading.{good_records}
use Rattle.sdr_log.proofs.ReadingLemmas.{OnBadLog-then}
use Rattle.sdr_log.proofs.RecoveryLemmas.{GivesNone-log, HasRegions-framed, Logs-read, good_records-are}
use Rattle.sdr_log.proofs.recovery.read_records.Goals as goal

pub returns-in_err-records-clause-bad_log : goal.returns-in_err-records-clause-bad_log
returns-in_err-records-clause-bad_log g c =
    let p = err_from_is_err_and c.from_residual-in_err-records.result c.from_residual-in_err-records.ensures.1 in
    let log = c.as_slice.ensures ∙ c.in_ok-log.ensures.given in
    rw (p.1, p.2) (OnBadLog-then
    {Q = GivesNone c.args.frame (g.D.Disk.bytes c.args.disk.now)} _ (λ wrong.
    GivesNone-log c.args.frame _ (HasRegions-framed _ _ c.requires.framed)
    (ap (good_records c.args.frame.heap_lines) (sym log) ∙ wrong))
    c.in_err-records.ensures.bad_log)

pub returns-clause-good : goal.returns-clause-good
returns-clause-good g c = (good_records-are _ _ _ c.in_ok-records.ensures.read).1

pub returns-clause-logs : goal.returns-clause-logs
returns-clause-logs g c =
    let log = c.as_slice.ensures ∙ c.in_ok-log.ensures.given in
    Logs-read c.args.frame _ _ (HasRegions-framed _ _ c.requires.framed)
    (ap (good_records c.args.frame.heap_lines) (sym log) ∙ c.in_ok-records.ensures.read)
