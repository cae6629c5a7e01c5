-- The parts have no more bytes than the text.
use Rattle.std.proofs.Common.{arith}
use Rattle.zco_pieces.proofs.PlaceLemmas.{filled_most}
use Rattle.zco_pieces.proofs.finishing.check_whole.Goals as goal

pub missing_in-missing-requires : goal.missing_in-missing-requires
missing_in-missing-requires c = record {
  few = let m = filled_most 0 c.args.total c.args.parts.now c.requires.order in omega (arith, m);
}

pub returns-clause-whole : goal.returns-clause-whole
returns-clause-whole c =
    let m = filled_most 0 c.args.total c.args.parts.now c.requires.order in
    let e = c.missing_in-missing.ensures in
    let z = c.if-missing-ne0.false in omega (arith, m, e, z)
