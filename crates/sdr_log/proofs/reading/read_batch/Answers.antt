use Rattle.std.proofs.Common.{◌≡◌, ◌<◌, ◌∙◌, ◌+◌, ◌*◌, ◌||◌, ◌==◌, ℕ, true, List, length, take, drop, ap, subst}
use Rattle.std.proofs.Common.{arith, nat_le}
use Rattle.std.proofs.lemmas.Bool.Decides.{nat_tests}
use Rattle.std.proofs.lemmas.List.{take_rest}
use Rattle.std.proofs.lemmas.Result.{err_from_is_err_and}
use Rattle.sdr_log.specs.Frame.{first_number}
use Rattle.sdr_log.specs.Log.{records_of}
use Rattle.sdr_log.specs.Reading.{IsBad, noted}
use Rattle.sdr_log.proofs.ReadingLemmas.{IsWrong-batch, IsWrong-records, OnBadLog-then}
use Rattle.sdr_log.proofs.reading.read_batch.Goals as goal
use Rattle.sdr_log.proofs.reading.read_batch.Goals.{then-count-eq0-via-then-count-eq0}
use Rattle.sdr_log.proofs.reading.read_batch.Goals.{then-count-eq0-via-else-count-eq0+then-bytes-count}

pub returns-then-bytes-lt4-clause-bad_log : goal.returns-then-bytes-lt4-clause-bad_log
returns-then-bytes-lt4-clause-bad_log c =
    IsWrong-batch c.args.found.now c.args.bytes.now (long (first_number (take 4 c.args.bytes.now)) c.if-bytes-lt4.true)
  where
    long : (count : ℕ) → length c.args.bytes.now < 4 →
        (count == 0 || nat_le (length c.args.bytes.now) (4 + 68 * count)) ≡ true
    long count lt = grind (arith, nat_tests)

pub returns-then-count-eq0-clause-bad_log : goal.returns-then-count-eq0-clause-bad_log
unfolding first_number
returns-then-count-eq0-clause-bad_log c =
    let is : c.read_u32-count.result ≡ first_number (take 4 c.args.bytes.now) = c.read_u32-count.ensures in
    IsWrong-batch c.args.found.now c.args.bytes.now
    (subst (λ (k : ℕ). (k == 0 || nat_le (length c.args.bytes.now) (4 + 68 * k)) ≡ true) is
    (elim c.then-count-eq0.branch [
      | then-count-eq0-via-then-count-eq0 w ↦ grind (arith, nat_tests, w.if-count-eq0.true)
      | then-count-eq0-via-else-count-eq0+then-bytes-count w ↦ grind (arith, nat_tests, w.if-bytes-count.true)
    ]))

pub returns-in_err-add_records-clause-bad_log : goal.returns-in_err-add_records-clause-bad_log
unfolding first_number
returns-in_err-add_records-clause-bad_log c =
    let p = err_from_is_err_and c.from_residual.result c.from_residual.ensures.1 in
    let bytes = c.args.bytes.now in
    let is : c.read_u32-count.result ≡ first_number (take 4 bytes) = c.read_u32-count.ensures in
    let rest = take_rest bytes 4 in
    rw (p.1, p.2) (OnBadLog-then _ (λ bad. IsWrong-records c.args.found.now bytes
    (subst (λ (k : ℕ). IsBad c.args.found.now (records_of k (drop 4 bytes))) is
    (subst (λ (l : List ℕ). IsBad c.args.found.now (records_of c.read_u32-count.result l)) rest bad)))
    c.in_err-add_records.ensures.bad_log)

pub returns-clause-read : goal.returns-clause-read
unfolding first_number
returns-clause-read c =
    let bytes = c.args.bytes.now in
    let is : c.read_u32-count.result ≡ first_number (take 4 bytes) = c.read_u32-count.ensures in
    let count = c.read_u32-count.result in
    record {
      some = subst (λ (k : ℕ). 0 < k) is (omega (arith, c.if-count-eq0.false));
      inside = subst (λ (k : ℕ). 4 + 68 * k < length bytes) is (omega (arith, c.if-bytes-count.false));
      behind = take_rest bytes (4 + 68 * count) ∙ ap (λ (k : ℕ). drop (4 + 68 * k) bytes) is;
      records = c.in_ok-add_records.ensures.added
          ∙ (λ i. noted c.args.found.now (records_of (is i) (take_rest bytes 4 i)));
    }
