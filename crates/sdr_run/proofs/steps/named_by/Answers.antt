use Rattle.std.proofs.Common.{false, refl, arith}
use Rattle.std.proofs.lemmas.List.{get_or-replicate}
use Rattle.sdr_run.proofs.steps.named_by.Goals as goal

pub loop-step-init : goal.loop-step-init
loop-step-init c = (refl, λ daemon few. get_or-replicate 256 daemon false false (omega (arith, few)))
