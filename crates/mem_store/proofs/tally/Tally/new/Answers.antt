use Rattle.std.proofs.Common.{arith}
use Rattle.sdr_model.proofs.AmountLemmas.{nothing_in}
use Rattle.mem_store.proofs.TallyLemmas.{Tallies-empty}
use Rattle.mem_store.proofs.tally.Tally.new.Goals as goal

pub returns : goal.returns
returns c = λ acct. Tallies-empty acct _ (λ at. grind (arith, c.new.ensures.empty)) (λ space. nothing_in space)
