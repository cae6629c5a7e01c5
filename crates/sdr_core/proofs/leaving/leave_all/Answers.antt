use Rattle.std.proofs.Common.{◌≡◌, ◌∙◌, ℕ, List, ap, arith, filter, length, map, not, subst, take}
use Rattle.sdr_machine.proofs.HolderLemmas.{holders_few}
use Rattle.sdr_machine.specs.Leaving.{LeaveInTurn, staying}
use Rattle.sdr_machine.specs.Roll.{Roll}
use Rattle.sdr_machine.specs.declared.daemon.Daemon.{Daemon}
use Rattle.sdr_core.proofs.LeavingLemmas.{all_leave, staying_few}
use Rattle.sdr_core.specs.Going.{GoesUnasked}
use Rattle.sdr_core.proofs.leaving.leave_all.Goals as goal

pub leave_in_turn-requires-clause-drawn : goal.leave_in_turn-requires-clause-drawn
leave_in_turn-requires-clause-drawn g c =
    let mid : Roll = g.R.HasRun.roll_of c.holders_leave.new.run in
    let items : take c.put_staying-count.result c.put_staying-count.new.ids ≡ staying mid =
    c.put_staying-count.ensures.ids
    ∙ ap (λ (ds : List Daemon). map (λ (d : Daemon). d.id) (filter (λ (d : Daemon). not d.left) ds))
    (c.daemons.ensures ∙ ap (λ (r : Roll). r.daemons) c.roll.ensures.roll) in
    omega (
      arith,
      c.requires.drawn,
      c.holders_leave.ensures.drawn,
      c.holders_leave.ensures.daemons,
      holders_few (g.R.HasRun.roll_of c.args.run.now).daemons,
      ap length items,
      staying_few mid,
    )

pub returns : goal.returns
returns g c =
    let run = c.args.run.now in
    let mid = c.holders_leave.new.run in
    let next = c.leave_in_turn.new.run in
    let told = g.R.HasRun.told run in
    let staying_then = staying (g.R.HasRun.roll_of mid) in
    let items : take c.put_staying-count.result c.put_staying-count.new.ids ≡ staying_then =
    c.put_staying-count.ensures.ids
    ∙ ap (λ (ds : List Daemon). map (λ (d : Daemon). d.id) (filter (λ (d : Daemon). not d.left) ds))
    (c.daemons.ensures ∙ ap (λ (r : Roll). r.daemons) c.roll.ensures.roll) in
    record {
      left = all_leave g.R.HasRun told c.args.leave run mid next c.holders_leave.ensures.left
          (subst (λ t. GoesUnasked g.R.HasRun (LeaveInTurn t c.args.leave staying_then) mid next) c.holders_leave.ensures.left.told
          (subst (λ (ds : List ℕ). GoesUnasked g.R.HasRun (LeaveInTurn (g.R.HasRun.told mid) c.args.leave ds) mid next) items c.leave_in_turn.ensures.left));
      none = λ well. c.leave_in_turn.ensures.none.none well c.holders_leave.ensures.none;
      drawn =
          omega (
            arith,
            c.leave_in_turn.ensures.drawn,
            c.holders_leave.ensures.drawn,
            c.holders_leave.ensures.daemons,
            holders_few (g.R.HasRun.roll_of run).daemons,
            ap length items,
            staying_few (g.R.HasRun.roll_of mid),
          );
    }
