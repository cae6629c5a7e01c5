use Rattle.std.proofs.Common.{sym, subst}
use Rattle.sdr_machine.specs.Roll.{Roll}
use Rattle.sdr_machine.specs.Served.{KeepsGroundReady}
use Rattle.sdr_machine.proofs.lock.Lock.new.Goals as goal
use Rattle.sdr_machine.proofs.ServedLemmas.{lock_first}

pub invariant_of-result : goal.invariant_of-result
invariant_of-result g c =
    subst (λ (r : Roll). KeepsGroundReady g.T.HasGround r c.args.base) (sym c.in-Ok.ensures) (lock_first g.T.HasGround c.args.ids.now c.args.base c.requires)
