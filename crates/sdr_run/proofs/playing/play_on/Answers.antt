use Rattle.std.proofs.Common.{◌≡◌, ◌∷◌, [], List, true, false, true≢false, ap, sym, subst, arith, length, refl, inl, inr}
use Rattle.sdr_model.specs.declared.script.ScriptStep.{ScriptStep}
use Rattle.sdr_run.proofs.PlayingLemmas.{made_also, made_next, made_still, running_at, running_next, running_start}
use Rattle.sdr_buffer.proofs.WaitingLemmas.{grows_more, grows_none}
use Rattle.sdr_run.specs.Playing.{IsPrinted, Output, output}
use Rattle.sdr_run.specs.Printing.{behind}
use Rattle.sdr_run.specs.declared.printing.Printer.{Printer}
use Rattle.sdr_run.specs.Running.{Running}
use Rattle.sdr_run.proofs.playing.play_on.Given.{Over}
use Rattle.sdr_run.proofs.playing.play_on.Goals as goal

-- what is seen of the output, with the lines that wait for it
abbrev seen : (g : Over) → g.row.K.Denot → Printer → Output
seen g out printer = behind (output g.K.Sink.taken g.K.Sink.faults out) printer

pub loop-step-init : goal.loop-step-init
loop-step-init g c = record {
  running = λ from here.
      subst (λ names. Running g.R.HasRun c.args.run.now from (g.S.Steps.left c.args.steps.now) (g.S.Steps.left c.args.steps.now) names c.args.run.now
      (IsPrinted c.args.printer.now.going (seen g c.args.out.now c.args.printer.now) (seen g c.args.out.now c.args.printer.now))) (sym c.new-bindings.ensures)
      (subst (λ p. Running g.R.HasRun c.args.run.now from (g.S.Steps.left c.args.steps.now) (g.S.Steps.left c.args.steps.now) [] c.args.run.now
      (IsPrinted p (seen g c.args.out.now c.args.printer.now) (seen g c.args.out.now c.args.printer.now))) (sym c.requires.going)
      (running_start g.R.HasRun c.args.run.now from (g.S.Steps.left c.args.steps.now) (seen g c.args.out.now c.args.printer.now) here));
  lasts = c.requires.lasts;
  drawn = omega arith;
  grows = grows_none _;
  later = omega arith;
}

-- memory was wanting: nothing was done, or the step was answered
pub returns-in_default-make-clause-ran : goal.returns-in_default-make-clause-ran
returns-in_default-make-clause-ran g c =
    let step = c.in-Some.step.now in
    let next = c.in-Some.ensures.some in
    let old = c.loop-step in
    let new = c.make.new in
    let first = seen g c.args.out.now c.args.printer.now in
    elim c.in_default-make.ensures.err [
      | inl same ↦ record {
        rest = step ∷ next.rest;
        each = λ from here. made_also g.R.HasRun c.args.run.now from _ (step ∷ next.rest) new.run true (IsPrinted new.printer.going first (seen g new.out new.printer))
            (λ no. absurd (true≢false no))
            (made_still g.R.HasRun c.args.run.now from _ (step ∷ next.rest) old.run new.run old.printer.going new.printer.going first (seen g old.out old.printer) (seen g new.out new.printer)
            (running_at g.R.HasRun c.args.run.now from _ _ step old.bindings old.run _ next (old.invariant.running from here)).at old.invariant.later same.0 same.1);
      }
      | inr answered ↦ record {
        rest = next.rest;
        each = λ from here. made_also g.R.HasRun c.args.run.now from _ next.rest new.run true (IsPrinted new.printer.going first (seen g new.out new.printer))
            (λ no. absurd (true≢false no))
            (made_next g.R.HasRun c.args.run.now from _ step next.rest old.bindings old.run new.run old.printer.going new.printer.going first (seen g old.out old.printer) (seen g new.out new.printer)
            (running_at g.R.HasRun c.args.run.now from _ _ step old.bindings old.run _ next (old.invariant.running from here)) old.invariant.later answered);
      }
    ]

pub returns-in_default-make-clause-lasts : goal.returns-in_default-make-clause-lasts
returns-in_default-make-clause-lasts g c = elim c.in_default-make.ensures.err [
  | inl same ↦ subst (λ (k : g.row.R.Denot). g.R.HasRun.lasts k) (sym same.0) c.loop-step.invariant.lasts
  | inr answered ↦ answered.makes.lasts
]

pub returns-in_default-make-clause-drawn : goal.returns-in_default-make-clause-drawn
returns-in_default-make-clause-drawn g c =
    let all = ap length c.in-Some.ensures.some.is in
    elim c.in_default-make.ensures.err [
      | inl same ↦ let stays = ap (λ (k : g.row.R.Denot). (g.R.HasRun.roll_of k).drawn) same.0 in omega (arith, c.loop-step.invariant.drawn, stays)
      | inr answered ↦ let one = answered.makes.drawn in omega (arith, c.loop-step.invariant.drawn, one, all)
    ]

-- there was no memory for the next step
pub returns-in_default-pass-clause-ran : goal.returns-in_default-pass-clause-ran
returns-in_default-pass-clause-ran g c =
    let step = c.in-Some.step.now in
    let next = c.in-Some.ensures.some in
    let old = c.loop-step in
    let new = c.make.new in
    let first = seen g c.args.out.now c.args.printer.now in
    let made = c.in-Ok.ensures.makes in
    record {
      rest = next.rest;
      each = λ from here. made_also g.R.HasRun c.args.run.now from _ next.rest new.run true (IsPrinted new.printer.going first (seen g new.out new.printer)) (λ no. absurd (true≢false no))
          (running_next g.R.HasRun c.args.run.now from _ step next.rest old.bindings old.run new.run old.printer.going new.printer.going first (seen g old.out old.printer) (seen g new.out new.printer)
          (running_at g.R.HasRun c.args.run.now from _ _ step old.bindings old.run _ next (old.invariant.running from here)) old.invariant.later made.answers
          new.bindings made.names).at;
    }

pub returns-in_default-pass-clause-drawn : goal.returns-in_default-pass-clause-drawn
returns-in_default-pass-clause-drawn g c =
    let one = c.in-Ok.ensures.makes.answers.makes.drawn in
    let all = ap length c.in-Some.ensures.some.is in
    omega (arith, c.loop-step.invariant.drawn, one, all)

pub loop-step-preserved : goal.loop-step-preserved
loop-step-preserved g c =
    let step = c.in-Some.step.now in
    let next = c.in-Some.ensures.some in
    let old = c.loop-step in
    let new = c.make.new in
    let first = seen g c.args.out.now c.args.printer.now in
    let made = c.in-Ok.ensures.makes in
    let passed : g.S.Steps.left c.pass.new.self ≡ next.rest = c.in-Ok-pass.ensures step next.rest next.is in
    let all = ap length next.is in
    let fewer = ap length passed in
    record {
      running = λ from here.
          subst (λ (rest : List ScriptStep). Running g.R.HasRun c.args.run.now from (g.S.Steps.left c.args.steps.now) rest new.bindings new.run
          (IsPrinted new.printer.going first (seen g new.out new.printer))) (sym passed)
          (running_next g.R.HasRun c.args.run.now from _ step next.rest old.bindings old.run new.run old.printer.going new.printer.going first (seen g old.out old.printer) (seen g new.out new.printer)
          (running_at g.R.HasRun c.args.run.now from _ _ step old.bindings old.run _ next (old.invariant.running from here)) old.invariant.later made.answers
          new.bindings made.names);
      lasts = made.answers.makes.lasts;
      drawn = let one = made.answers.makes.drawn in omega (arith, old.invariant.drawn, one, all, fewer);
      grows = grows_more _ _ _ old.invariant.grows c.make.ensures.grows;
      later = omega (arith, old.invariant.later, c.make.ensures.later);
    }

pub loop-step-smaller : goal.loop-step-smaller
loop-step-smaller g c =
    let next = c.in-Some.ensures.some in
    let all = ap length next.is in
    let fewer = ap length (c.in-Ok-pass.ensures c.in-Some.step.now next.rest next.is) in
    omega (arith, all, fewer)

pub returns-clause-ran : goal.returns-clause-ran
returns-clause-ran g c = record {
  rest = g.S.Steps.left c.loop-step.steps;
  each = λ from here. made_also g.R.HasRun c.args.run.now from _ (g.S.Steps.left c.loop-step.steps) c.loop-step.run false _ (λ done. c.in_default.ensures.none refl)
      (c.loop-step.invariant.running from here).at;
}

pub returns-in_default-make-clause-grows : goal.returns-in_default-make-clause-grows
returns-in_default-make-clause-grows g c = grows_more _ _ _ c.loop-step.invariant.grows c.make.ensures.grows

pub returns-in_default-pass-clause-grows : goal.returns-in_default-pass-clause-grows
returns-in_default-pass-clause-grows g c = grows_more _ _ _ c.loop-step.invariant.grows c.make.ensures.grows
