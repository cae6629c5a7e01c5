use Rattle.std.proofs.Common.{OnOk, subst, sym, ap}
use Rattle.sdr_model.specs.declared.answer.Close.{Close}
use Rattle.sdr_machine.specs.Serving.{Brings, Settles}
use Rattle.sdr_machine.specs.Crash.{is_kept}
use Rattle.sdr_machine.proofs.settling.settle.Goals as goal

pub returns-in-Ended-clause-left : goal.returns-in-Ended-clause-left
returns-in-Ended-clause-left g c =
    subst (λ (k : Close). OnOk c.keep.result (Brings g.T.HasGround.stands c.args.base.now c.keep.new.self (Settles k))) (sym c.in-Ended.is) c.keep.ensures.kept

pub returns-in-Exited-clause-left : goal.returns-in-Exited-clause-left
returns-in-Exited-clause-left g c =
    subst (λ (k : Close). OnOk c.roll_back.result (Brings g.T.HasGround.stands c.args.base.now c.roll_back.new.base (Settles k))) (sym c.in-Exited.is) c.roll_back.ensures.put_back

pub returns-in-Cancelled-clause-left : goal.returns-in-Cancelled-clause-left
returns-in-Cancelled-clause-left g c =
    subst (λ (k : Close). OnOk c.roll_back-in-Cancelled.result (Brings g.T.HasGround.stands c.args.base.now c.roll_back-in-Cancelled.new.base (Settles k))) (sym c.in-Cancelled.is) c.roll_back-in-Cancelled.ensures.put_back

pub returns-in-Faulted-clause-left : goal.returns-in-Faulted-clause-left
returns-in-Faulted-clause-left g c =
    subst (λ (k : Close). OnOk c.roll_back-in-Faulted.result (Brings g.T.HasGround.stands c.args.base.now c.roll_back-in-Faulted.new.base (Settles k))) (sym c.in-Faulted.is) c.roll_back-in-Faulted.ensures.put_back

pub keep-requires : goal.keep-requires
keep-requires g c = record { going = c.requires.going (ap is_kept c.in-Ended.is) }
