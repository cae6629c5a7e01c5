use Rattle.std.proofs.Common.{◌∙◌}
use Rattle.mem_store.proofs.tally.grow.Goals as goal

pub returns-clause-sums : goal.returns-clause-sums
returns-clause-sums c = λ acct of is all.
    c.in_ok-name_once.ensures.sums acct (record { each = λ space. c.in_ok-tally.ensures of is space ∙ all space })
