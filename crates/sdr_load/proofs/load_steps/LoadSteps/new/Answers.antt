use Rattle.std.proofs.Common.{◌+◌, ap}
use Rattle.sdr_load.proofs.LeftLemmas.{left_at_first}
use Rattle.sdr_load.proofs.load_steps.LoadSteps.new.Goals as goal

pub returns : goal.returns
returns c =
    left_at_first c.in_ok-steps.steps (1 + c.len.result) c.args.rounds c.in_ok-steps.ensures.steps (ap (λ n. 1 + n) c.len.ensures)
