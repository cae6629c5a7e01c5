use Rattle.std.proofs.Common.{◌∙◌, List, ap, refl, arith, length, subst}
use Rattle.std.proofs.lemmas.List.{nil_from_length}
use Rattle.sdr_disk.specs.Ranges.{IsInNone}
use Rattle.sdr_disk.proofs.RangesLemmas.{Agrees-refl, Agrees-trans}
use Rattle.sdr_log.specs.Logged.{line_ranges}
use Rattle.sdr_log.specs.declared.record.Record.{Record}
use Rattle.sdr_log.proofs.FaultedLemmas.{on_error}
use Rattle.sdr_log.proofs.OutsideLemmas.{agrees_line}
use Rattle.sdr_log.proofs.PuttingLemmas.{lines_more, lines_none, putting_all, putting_each, putting_failed, putting_more, putting_none, putting_written}
use Rattle.sdr_log.proofs.lines.put_lines.Goals as goal

pub loop-line-init : goal.loop-line-init
loop-line-init g c = record {
  tells = refl;
  below = c.requires.below;
  later = omega arith;
  forward = omega arith;
  calls = refl;
  inside = Agrees-refl _ _;
  putting = putting_none _ _ _ _ _ _;
  within = λ i o. o;
  outside = λ only. lines_none _ _ c.args.frame _ _ _ only;
}

pub returns-in_err-put_line-clause-outside : goal.returns-in_err-put_line-clause-outside
returns-in_err-put_line-clause-outside g c told only =
    let before = c.loop-line.invariant in
    lines_more _ _ c.args.frame _ _ _ _ _ _ _ _ c.in-Some.ensures.cases.0 before.within (before.outside only)
    c.put_line.ensures.moments

pub returns-in_err-put_line-clause-any_moment : goal.returns-in_err-put_line-clause-any_moment
returns-in_err-put_line-clause-any_moment g c told m =
    putting_each _ _ _ _ _ _ _ _ _ _ _ c.in-Some.ensures.cases.0 c.put_line.ensures.long c.loop-line.invariant.putting
    c.put_line.ensures.moments m

pub returns-in_err-put_line-clause-faulted : goal.returns-in_err-put_line-clause-faulted
returns-in_err-put_line-clause-faulted g c =
    on_error c.from_residual.result (λ told m.
    putting_failed _ _ g.D.Disk.bytes _ _ _ _ _ _ _ _ c.in-Some.ensures.cases.0 c.put_line.ensures.long
    c.loop-line.invariant.putting c.put_line.ensures.moments c.put_line.ensures.others m)

pub returns-in_err-put_line-clause-inside : goal.returns-in_err-put_line-clause-inside
returns-in_err-put_line-clause-inside g c =
    Agrees-trans _ _ _ _ c.loop-line.invariant.inside
    (agrees_line _ _ _ _ (rw c.in-Some.ensures.cases.0 at c.loop-line.invariant.below).0 c.put_line.ensures.others)

pub loop-line-preserved : goal.loop-line-preserved
loop-line-preserved g c =
    let split = c.in-Some.ensures.cases.0 in
    let put = c.put_line.ensures in
    record {
      tells = put.tells ∙ c.loop-line.invariant.tells;
      below = (rw split at c.loop-line.invariant.below).1;
      later = omega (arith, put.cause.later, c.loop-line.invariant.later);
      forward = omega (arith, put.moments.later, c.loop-line.invariant.forward);
      calls = omega (arith, c.in_ok-put_line.ensures.rises, c.loop-line.invariant.calls, ap length split);
      inside = Agrees-trans _ _ _ _ c.loop-line.invariant.inside
          (agrees_line _ _ _ _ (rw split at c.loop-line.invariant.below).0 put.others);
      putting = putting_more _ _ _ _ _ _ _ _ _ _ _ split put.long c.loop-line.invariant.putting put.moments
          c.in_ok-put_line.ensures.written c.in_ok-put_line.ensures.rises;
      within = λ i o. (subst (λ (l : List Record). IsInNone (line_ranges c.args.frame l) i) split
          (c.loop-line.invariant.within i o)).1;
      outside = λ only.
          lines_more _ _ c.args.frame _ _ _ _ _ _ _ _ split c.loop-line.invariant.within (c.loop-line.invariant.outside only)
          put.moments;
    }

pub returns-clause-written : goal.returns-clause-written
returns-clause-written g c =
    putting_written _ _ g.D.Disk.bytes _ _ _ _ _ (nil_from_length _ c.in_default.ensures.cases) c.loop-line.invariant.putting

pub returns-clause-puts : goal.returns-clause-puts
returns-clause-puts g c told m =
    putting_all _ _ g.D.Disk.bytes _ _ _ _ _ (nil_from_length _ c.in_default.ensures.cases) c.loop-line.invariant.putting m

pub returns-clause-rises : goal.returns-clause-rises
returns-clause-rises g c =
    omega (arith, c.loop-line.invariant.calls, ap length (nil_from_length _ c.in_default.ensures.cases))

pub returns-clause-outside : goal.returns-clause-outside
returns-clause-outside g c told only = c.loop-line.invariant.outside only

pub returns-clause-any_moment : goal.returns-clause-any_moment
returns-clause-any_moment g c told m = (c.loop-line.invariant.putting.so_far m).each

pub returns-clause-inside : goal.returns-clause-inside
returns-clause-inside g c = c.loop-line.invariant.inside
