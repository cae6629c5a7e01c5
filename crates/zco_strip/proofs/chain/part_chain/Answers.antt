-- Where the part has no byte, all extents are outside.
use Rattle.zco_strip.proofs.PartedLemmas.{parts_none}
use Rattle.zco_strip.proofs.chain.part_chain.Goals as goal

pub returns-then-from-to-clause-parted : goal.returns-then-from-to-clause-parted
returns-then-from-to-clause-parted g c =
    parts_none c.args.first c.args.from c.args.to c.if-from-to.true c.in_ok-check_failed.ensures.looks.same
