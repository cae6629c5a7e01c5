use Rattle.std.proofs.Common.{◌≡◌, ◌∙◌, ◌+◌, ◌-◌, ℕ, suc, length, length-drop, ap, sym, arith}
use Rattle.std.proofs.lemmas.List.{take_rest}
use Rattle.std.proofs.lemmas.Result.{err_from_is_err_and}
use Rattle.sdr_log.specs.Log.{records_of}
use Rattle.sdr_log.specs.Reading.{noted}
use Rattle.sdr_log.proofs.ReadingLemmas.{IsBad-first, IsBad-same, OnBadLog-then, noted_none, noted_one_more}
use Rattle.sdr_log.proofs.reading.add_records.Goals as goal

pub returns-in_err-add-clause-bad_log : goal.returns-in_err-add-clause-bad_log
returns-in_err-add-clause-bad_log c =
    let p = err_from_is_err_and c.from_residual.result c.from_residual.ensures.1 in
    let left = c.args.count - (c.loop.counter + 1) in
    let is : c.args.count - c.loop.counter ≡ suc left = omega (arith, c.loop-test.true) in
    rw (p.1, p.2) (OnBadLog-then _ (λ bad. IsBad-same c.loop.found c.args.found.now _ _
    (ap (λ (k : ℕ). noted c.loop.found (records_of k c.loop.rest.now)) (sym is) ∙ c.loop.invariant.added)
    (IsBad-first c.loop.found left c.loop.rest.now c.first_record.result c.first_record.ensures bad))
    c.in_err-add.ensures.bad_log)

pub loop-preserved : goal.loop-preserved
loop-preserved c =
    let left = c.args.count - (c.loop.counter + 1) in
    let is : c.args.count - c.loop.counter ≡ suc left = omega (arith, c.loop-test.true) in
    let rest = take_rest c.loop.rest.now 68 in
    record {
      inside = omega (arith, ap length rest, length-drop 68 c.loop.rest.now, c.loop.invariant.inside, c.loop-test.true);
      added =
          (λ i. noted (c.in_ok-add.ensures.added i) (records_of left (rest i)))
          ∙ noted_one_more c.loop.found left c.loop.rest.now c.first_record.result c.first_record.ensures
          ∙ ap (λ (k : ℕ). noted c.loop.found (records_of k c.loop.rest.now)) (sym is)
          ∙ c.loop.invariant.added;
    }

pub returns-clause-added : goal.returns-clause-added
returns-clause-added c =
    let none : c.args.count - c.loop.counter ≡ 0 = omega (arith, c.loop-test.false) in
    sym (noted_none c.loop.found c.loop.rest.now)
    ∙ ap (λ (k : ℕ). noted c.loop.found (records_of k c.loop.rest.now)) (sym none)
    ∙ c.loop.invariant.added
