use Rattle.std.proofs.Common.{◌≡◌, ◌++◌, List, drop}
use Rattle.sdr_model.specs.Pieces.{cut_pieces, extent_pieces}
use Rattle.sdr_model.specs.declared.piece.Piece.{Piece}
use Rattle.mem_zco_calls.proofs.wire.Gathering.add_extents.Given as goal

abbrev pub invariant-loop-extent : goal.invariant-loop-extent
invariant-loop-extent l =
    (others : List Piece)
    → l.initial.self.pieces
    ++ cut_pieces l.initial.self.skip l.initial.self.count (extent_pieces l.world.now l.extents ++ others)
    ≡ l.self.pieces
    ++ cut_pieces l.self.skip l.self.count (extent_pieces l.world.now (drop l.extent-index l.extents) ++ others)
