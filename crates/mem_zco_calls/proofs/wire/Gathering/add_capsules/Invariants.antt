use Rattle.std.proofs.Common.{◌≡◌, ◌++◌, List, drop}
use Rattle.sdr_model.specs.Pieces.{capsule_pieces, cut_pieces}
use Rattle.sdr_model.specs.declared.piece.Piece.{Piece}
use Rattle.mem_zco_calls.proofs.wire.Gathering.add_capsules.Given as goal

abbrev pub invariant-loop-capsule : goal.invariant-loop-capsule
invariant-loop-capsule l =
    (others : List Piece)
    → l.initial.self.pieces ++ cut_pieces l.initial.self.skip l.initial.self.count (capsule_pieces l.capsules ++ others)
    ≡ l.self.pieces ++ cut_pieces l.self.skip l.self.count (capsule_pieces (drop l.capsule-index l.capsules) ++ others)
