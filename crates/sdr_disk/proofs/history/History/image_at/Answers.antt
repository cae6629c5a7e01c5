-- The image that is made is one that a crash may leave.
use Rattle.std.proofs.Common.{arith}
use Rattle.std.proofs.lemmas.Grind.{common_steps}
use Rattle.sdr_disk.proofs.LeftLemmas.{MayLeave-made}
use Rattle.sdr_disk.proofs.history.History.image_at.Goals as goal

pub returns-clause-left : goal.returns-clause-left
returns-clause-left c =
    MayLeave-made c.args.torn c.self.inside.changes c.self.inside.bytes.items c.args.moment _ _
    c.self.invariant.0 c.self.view_is (grind (arith, common_steps))
