use Rattle.std.proofs.Common.{ℕ, List, ap, arith, length, subst, sym}
use Rattle.sdr_machine.specs.Leaving.{LeaveInTurn}
use Rattle.sdr_core.proofs.LeavingLemmas.{first_of, none_of, turn_more, turn_none}
use Rattle.sdr_core.specs.Going.{GoesUnasked}
use Rattle.sdr_core.proofs.leaving.+leave_in_turn.Goals as goal

pub returns-in-empty : goal.returns-in-empty
returns-in-empty g t c =
    let run = c.args.run.now in
    let told = g.R.HasRun.told run in
    record {
      left = subst (λ (ds : List ℕ). GoesUnasked g.R.HasRun (LeaveInTurn told c.args.leave ds) run run) (sym (none_of c.args.daemons.now c.in-empty.len_below))
          (turn_none g.R.HasRun c.args.leave run);
      none = record { sound = λ well. well; none = λ well none. none };
      drawn = omega arith;
    }

pub returns-in-len1-up : goal.returns-in-len1-up
returns-in-len1-up g t c =
    let run = c.args.run.now in
    let mid = c.make_leave.new.run in
    let next = c.leave_in_turn.new.run in
    let told = g.R.HasRun.told run in
    record {
      left = subst (λ (ds : List ℕ). GoesUnasked g.R.HasRun (LeaveInTurn told c.args.leave ds) run next) (sym (first_of c.args.daemons.now 0 c.in-len1-up.len_at_least))
          (turn_more g.R.HasRun c.args.leave c.make_leave.result run mid _ _ next c.make_leave.ensures.makes c.make_leave.ensures.asks c.leave_in_turn.ensures.left);
      none = record {
        sound = λ well. c.make_leave.ensures.none.sound (c.leave_in_turn.ensures.none.sound well);
        none = λ well none. c.leave_in_turn.ensures.none.none well (c.make_leave.ensures.none.none (c.leave_in_turn.ensures.none.sound well) none);
      };
      drawn =
          let one = c.make_leave.ensures.makes.drawn in
          let rest = c.leave_in_turn.ensures.drawn in
          let all = ap length (first_of c.args.daemons.now 0 c.in-len1-up.len_at_least) in
          omega (arith, one, rest, all);
    }
