use Rattle.std.proofs.Common.{◌∙◌, ap}
use Rattle.sdr_disk.proofs.RangesLemmas.{Agrees-trans}
use Rattle.sdr_log.specs.Calls.{with_records}
use Rattle.sdr_log.proofs.SpillingLemmas.{spill_open, spill_put, spilled, spilling_open, spilling_put}
use Rattle.sdr_log.proofs.spilling.spill.Goals as goal

pub returns-in_err-next-clause-any_moment : goal.returns-in_err-next-clause-any_moment
returns-in_err-next-clause-any_moment g c told begun records m =
    spilling_open _ _ _ _ _ _ _ m _ _ _ _ (c.write_batch.ensures.any_moment told (spill_open _ _ _ _ _ _ _ m))

pub returns-in_err-put_lines-clause-any_moment : goal.returns-in_err-put_lines-clause-any_moment
returns-in_err-put_lines-clause-any_moment g c told begun records m =
    let n = spill_open _ _ _ _ _ _ _ m in
    let o = c.in_ok-next.ensures.opens told n in
    spilling_put _ _ _ _ _ _ _ m _ _ o _ c.requires.named _ _ _ _ _ (c.write_batch.ensures.any_moment told n)
    (c.put_lines.ensures.any_moment (c.write_batch.ensures.disk.tells ∙ told)
    (spill_put _ _ _ _ _ _ _ m _ _ o _ c.requires.named))

pub returns-in_err-put_lines-clause-inside : goal.returns-in_err-put_lines-clause-inside
returns-in_err-put_lines-clause-inside g c = Agrees-trans _ _ _ _ c.write_batch.ensures.inside c.put_lines.ensures.inside

pub returns-clause-written : goal.returns-clause-written
returns-clause-written g c =
    c.in_ok-put_lines.ensures.written ∙ ap (with_records c.args.frame c.args.news.now) c.in_ok-next.ensures.written

pub returns-clause-inside : goal.returns-clause-inside
returns-clause-inside g c = Agrees-trans _ _ _ _ c.write_batch.ensures.inside c.put_lines.ensures.inside

pub returns-clause-spills : goal.returns-clause-spills
returns-clause-spills g c told begun records m =
    let n = spill_open _ _ _ _ _ _ _ m in
    let o = c.in_ok-next.ensures.opens told n in
    let p = spill_put _ _ _ _ _ _ _ m _ _ o _ c.requires.named in
    spilled _ _ _ _ _ _ _ m _ _ o _ c.requires.named _ _
    (c.in_ok-put_lines.ensures.puts (c.write_batch.ensures.disk.tells ∙ told) p)

pub returns-clause-any_moment : goal.returns-clause-any_moment
returns-clause-any_moment g c told begun records m =
    let n = spill_open _ _ _ _ _ _ _ m in
    let o = c.in_ok-next.ensures.opens told n in
    spilling_put _ _ _ _ _ _ _ m _ _ o _ c.requires.named _ _ _ _ _ (c.write_batch.ensures.any_moment told n)
    (c.put_lines.ensures.any_moment (c.write_batch.ensures.disk.tells ∙ told)
    (spill_put _ _ _ _ _ _ _ m _ _ o _ c.requires.named))
