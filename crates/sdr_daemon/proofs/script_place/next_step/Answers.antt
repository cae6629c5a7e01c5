use Rattle.std.proofs.Common.{◌≡◌, ◌∷◌, ap}
use Rattle.sdr_machine.proofs.RollLemmas.{number_same}
use Rattle.sdr_daemon.proofs.LineLemmas.{front_is, other_number, rest_is, same_passed, step_found, step_passed}
use Rattle.sdr_daemon.specs.Turns.{steps_by}
use Rattle.sdr_daemon.proofs.script_place.next_step.Goals as goal

pub loop-step-init : goal.loop-step-init
loop-step-init c = record {
  whole = front_is c.args.script.now c.args.place c.requires.within;
  same = ap (steps_by c.args.daemon) (rest_is c.args.script.now c.args.place c.requires.within);
}

pub returns-then-step-daemon-clause-next : goal.returns-then-step-daemon-clause-next
returns-then-step-daemon-clause-next c =
    let e : c.loop-step.rest.now ≡ c.in-Some.step.now ∷ c.in-Some.after.now = search c.in-Some.ensures.cases in
    step_found c.args.script.now c.loop-step.invariant.whole.0 c.loop-step.rest.now c.args.daemon c.args.place c.in-Some.step.now c.in-Some.after.now
    c.loop-step.invariant.whole.1 e c.loop-step.invariant.same (number_same c.in-Some.step.now.daemon c.args.daemon c.if-step-daemon.true)

pub loop-step-preserved : goal.loop-step-preserved
loop-step-preserved c =
    let e : c.loop-step.rest.now ≡ c.in-Some.step.now ∷ c.in-Some.after.now = search c.in-Some.ensures.cases in
    record {
      whole =
          step_passed c.args.script.now c.loop-step.invariant.whole.0 c.loop-step.rest.now c.args.daemon c.args.place c.in-Some.step.now c.in-Some.after.now
          c.loop-step.invariant.whole.1 e c.loop-step.invariant.whole.2;
      same = same_passed c.args.script.now c.loop-step.rest.now c.args.daemon c.args.place c.in-Some.step.now c.in-Some.after.now e c.loop-step.invariant.same (other_number c.in-Some.step.now.daemon c.args.daemon c.if-step-daemon.false);
    }
