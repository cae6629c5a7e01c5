-- All words but the first are written.
use Rattle.std.proofs.Common.{◌∙◌}
use Rattle.std.proofs.lemmas.Result.{on_ok_weaker}
use Rattle.sdr_base.proofs.ObjectsLemmas.{layout-words}
use Rattle.zco_bond.proofs.WholeLemmas.{chain_words, sets_whole}
use Rattle.zco_bond.proofs.bonding.set_whole.Goals as goal

pub returns-clause-set : goal.returns-clause-set
returns-clause-set g c =
    on_ok_weaker _
    (λ w. sets_whole c.args.chain c.args.bytes c.write_u64_into.new.dst
    (c.write_u64_into.ensures ∙ layout-words (chain_words c.args.chain c.args.bytes)) w)
    c.put.ensures.written
