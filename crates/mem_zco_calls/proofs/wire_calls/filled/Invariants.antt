use Rattle.std.proofs.Common.{◌≡◌, ◌++◌, drop}
use Rattle.sdr_model.specs.Pieces.{filled, pieces_told}
use Rattle.mem_zco_calls.proofs.wire_calls.filled.Given as goal

abbrev pub invariant-loop-piece : goal.invariant-loop-piece
invariant-loop-piece l =
    l.bytes.items ++ filled (pieces_told (drop l.piece-index l.pieces)) ≡ filled (pieces_told l.pieces)
