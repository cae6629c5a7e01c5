-- What is gathered of pieces.
use Rattle.sdr_model.specs.Pieces.{cut_pieces}
use Rattle.mem_zco_calls.specs.declared.wire.Gathering.{Gathering}
use Rattle.sdr_model.specs.declared.piece.Piece.{Piece}
use Rattle.std.specs.Prelude.{◌≡◌, List, ◌++◌}

-- The bytes of these pieces are gathered: the pieces had, and those still to be cut of any others, are as those to be
-- cut of these and the others.
abbrev pub Gathers : List Piece → Gathering → Gathering → Type 0
Gathers ps old new =
    (others : List Piece) → old.pieces ++ cut_pieces old.skip old.count (ps ++ others)
    ≡ new.pieces ++ cut_pieces new.skip new.count others
