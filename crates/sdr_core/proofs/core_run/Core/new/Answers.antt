use Rattle.sdr_core.proofs.CoreLemmas.{core_new}
use Rattle.sdr_core.proofs.core_run.Core.new.Goals as goal

pub invariant_of-result : goal.invariant_of-result
invariant_of-result g c =
    core_new g.T.HasGround g.J.Origin.begins c.args.daemons.now c.args.base c.in-Ok-new.lock c.in-Ok.keeper c.in-Ok-new.ensures.made c.in-Ok.ensures.log
    c.in-Ok.ensures.room c.requires.few c.requires.begins
