-- The parts have no more bytes than the text.
use Rattle.std.proofs.Common.{ap, arith}
use Rattle.zco_pieces.specs.Places.{filled_length}
use Rattle.zco_pieces.proofs.PlaceLemmas.{filled_most}
use Rattle.zco_pieces.proofs.rebuild.Rebuild.missing.Goals as goal

pub missing_in-requires : goal.missing_in-requires
missing_in-requires c =
    let m = filled_most 0 _ _ c.self.invariant.order in let e = ap filled_length c.as_slice.ensures in omega (arith, m, e)
