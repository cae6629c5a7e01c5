use Rattle.std.proofs.Common.{ℕ, List, subst}
use Rattle.std.proofs.lemmas.Slice.{first_rest}
use Rattle.sdr_log.proofs.ReadingLemmas.{ReadSoFar, read_all, read_more}
use Rattle.sdr_log.proofs.reading.read_batches.Goals as goal

pub loop-rest-preserved : goal.loop-rest-preserved
loop-rest-preserved c =
    let split = first_rest c.loop-rest.rest.now 0 c.loop-rest.invariant.some in
    let s = subst (λ (l : List ℕ). ReadSoFar c.args.lines c.args.log.now c.loop-rest.found l) split
    c.loop-rest.invariant in
    read_more _ _ _ _ _ s _ _ c.loop-rest-test.true c.in_ok-rest.ensures.read

pub returns-clause-read : goal.returns-clause-read
returns-clause-read c =
    let split = first_rest c.loop-rest.rest.now 0 c.loop-rest.invariant.some in
    let s = subst (λ (l : List ℕ). ReadSoFar c.args.lines c.args.log.now c.loop-rest.found l) split
    c.loop-rest.invariant in
    read_all _ _ _ _ _ s c.loop-rest-test.false _ c.into_records.ensures.records c.into_records.ensures.good
