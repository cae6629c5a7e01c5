use Rattle.std.proofs.lemmas.Result.{err_from_is_err_and}
use Rattle.sdr_words.proofs.ReadingLemmas.{HasRead-all, HasRead-last, Stops-refused}
use Rattle.sdr_words.proofs.lines.read_ended.Goals as goal

pub returns-in_err-read_line-clause-ended : goal.returns-in_err-read_line-clause-ended
returns-in_err-read_line-clause-ended c =
    let p = err_from_is_err_and c.from_residual.result c.from_residual.ensures.1 in
    rw (p.1, p.2) (Stops-refused _ _ _ _ _ c.in-Some.after.now _ c.loop-line.invariant.read
    c.in-Some.ensures.lines c.in_err-read_line.ensures.line)

pub returns-clause-ended : goal.returns-clause-ended
returns-clause-ended c = HasRead-all _ _ _ _ c.loop-line.invariant.read c.in_default.ensures.lines

pub returns-clause-last : goal.returns-clause-last
returns-clause-last c = HasRead-last _ _ _ _ c.loop-line.invariant.read c.in_default.ensures.lines
